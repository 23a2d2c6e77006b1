use Rattle.std.proofs.Common.{◌≡◌, ap, ◌∙◌, arith, take}
use Rattle.str_indices.specs.Text.{byte_len}
use Rattle.ropey.specs.Chunks.{text_of}
use Rattle.ropey.proofs.Editing.{place_of}
use Rattle.ropey.proofs.rope.Rope.chars_to_bytes.Goals as goal

pub returns-then-start-end-clause-start : goal.returns-then-start-end-clause-start
returns-then-start-end-clause-start c =
    c.char_to_byte-from.ensures ∙ place_of (text_of c.args.self.now) c.args.start (omega (arith, c.requires.order, c.requires.within))

pub returns-then-start-end-clause-end : goal.returns-then-start-end-clause-end
returns-then-start-end-clause-end c =
    let t = text_of c.args.self.now in
    let same : c.args.start ≡ c.args.end = omega (arith, c.if-start-end.true) in
    c.char_to_byte-from.ensures ∙ place_of t c.args.start (omega (arith, c.requires.order, c.requires.within)) ∙ ap (λ n. byte_len (take n t)) same

pub returns-clause-start : goal.returns-clause-start
returns-clause-start c =
    c.char_to_byte-from.ensures ∙ place_of (text_of c.args.self.now) c.args.start (omega (arith, c.requires.order, c.requires.within))

pub returns-clause-end : goal.returns-clause-end
returns-clause-end c = c.char_to_byte.ensures ∙ place_of (text_of c.args.self.now) c.args.end c.requires.within
