use Rattle.std.proofs.Common.{length, ap, arith}
use Rattle.std.specs.Str.{chars}
use Rattle.std.proofs.lemmas.Str.{encodes-chars}
use Rattle.ropey.specs.Chunks.{text_of}
use Rattle.ropey.proofs.Editing.{boundary_of, places_rise, chars_replaced, replaced_len, on_ok}
use Rattle.ropey.proofs.rope.Rope.replace_chars.Goals as goal

pub replace_between-requires-clause-order : goal.replace_between-requires-clause-order
replace_between-requires-clause-order c =
    omega (arith, c.chars_to_bytes-from.ensures.start, c.chars_to_bytes-from.ensures.end, places_rise (text_of c.args.self.now) c.args.start c.args.end c.requires.order)

pub replace_between-requires-clause-starts : goal.replace_between-requires-clause-starts
replace_between-requires-clause-starts c = boundary_of (text_of c.args.self.now) c.args.start c.chars_to_bytes-from.result.0 c.chars_to_bytes-from.ensures.start

pub replace_between-requires-clause-ends : goal.replace_between-requires-clause-ends
replace_between-requires-clause-ends c = boundary_of (text_of c.args.self.now) c.args.end c.chars_to_bytes-from.result.1 c.chars_to_bytes-from.ensures.end

pub returns-clause-text : goal.returns-clause-text
returns-clause-text c =
    let t = text_of c.args.self.now in
    let from = c.chars_to_bytes-from.result.0 in
    let to = c.chars_to_bytes-from.result.1 in
    on_ok c.replace_between.result
    (chars_replaced t c.args.start c.args.end from to (chars c.args.text.now) (text_of c.replace_between.new.self) c.requires.order c.chars_to_bytes-from.ensures.start c.chars_to_bytes-from.ensures.end)
    c.replace_between.ensures.text

pub returns-clause-size : goal.returns-clause-size
returns-clause-size c =
    let t = text_of c.args.self.now in
    let from = c.chars_to_bytes-from.result.0 in
    let to = c.chars_to_bytes-from.result.1 in
    let text = c.args.text.now in
    let len = replaced_len t c.args.start c.args.end (chars text) c.requires.order in
    let bytes = ap length (encodes-chars text c.utf8.text) in
    let size = c.replace_between.ensures.size in (
      λ e. omega (arith, size.0 e, len, bytes, c.chars_to_bytes-from.ensures.start, c.chars_to_bytes-from.ensures.end),
      λ over. size.1 (omega (arith, over, len, bytes, c.chars_to_bytes-from.ensures.start, c.chars_to_bytes-from.ensures.end)),
    )
