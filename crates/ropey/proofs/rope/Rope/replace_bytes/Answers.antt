use Rattle.std.proofs.Common.{arith}
use Rattle.ropey.specs.Chunks.{text_of}
use Rattle.ropey.specs.Comparing.{text_bytes}
use Rattle.ropey.proofs.Editing.{boundary_between, cutting_scalars, bytes_replaced, bytes_len, on_ok}
use Rattle.ropey.proofs.rope.Rope.replace_bytes.Goals as goal

pub replace_between-requires-clause-starts : goal.replace_between-requires-clause-starts
replace_between-requires-clause-starts c =
    boundary_between (text_of c.args.self.now) c.args.start (cutting_scalars c.args.self.now c.len_bytes.ensures.cut.cut) c.requires.starts

pub replace_between-requires-clause-ends : goal.replace_between-requires-clause-ends
replace_between-requires-clause-ends c =
    boundary_between (text_of c.args.self.now) c.args.end (cutting_scalars c.args.self.now c.len_bytes.ensures.cut.cut) c.requires.ends

pub returns-clause-bytes : goal.returns-clause-bytes
returns-clause-bytes c =
    on_ok c.replace_between.result (bytes_replaced (text_of c.args.self.now) c.args.text.now (text_of c.replace_between.new.self) c.args.start c.args.end c.utf8.text) c.replace_between.ensures.text

pub returns-clause-size : goal.returns-clause-size
returns-clause-size c =
    let len = bytes_len (text_bytes c.args.self.now) c.args.text.now c.args.start c.args.end c.requires.order c.requires.ends.0 in
    let size = c.replace_between.ensures.size in (
      λ e. omega (arith, size.0 e, len),
      λ over. size.1 (omega (arith, over, len)),
    )
