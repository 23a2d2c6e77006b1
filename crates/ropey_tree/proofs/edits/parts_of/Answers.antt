use Rattle.std.proofs.Common.{◌≡◌, length, take, ap, sym, ◌∙◌, arith}
use Rattle.std.specs.Str.{chars}
use Rattle.std.proofs.lemmas.Str.{encodes-chars}
use Rattle.ropey_tree.proofs.Splitting.{leaf_parts, slice_front}
use Rattle.ropey_tree.proofs.Editing.{not_both, three_parts, mid_bytes, front_bytes, gone_bytes, replaced_bytes, replaced_from, replaced_to}
use Rattle.ropey_tree.proofs.edits.parts_of.Goals as goal
use Rattle.ropey_tree.proofs.edits.parts_of.Goals.{then-not-is_char_boundary-via-then-not-is_char_boundary, then-not-is_char_boundary-via-else-not-is_char_boundary+then-not-is_char_boundary-2, then-text-kept-via-then-text-kept, then-text-kept-via-else-text-kept+then-kept-text}

pub returns-then-not-is_char_boundary-clause-none : goal.returns-then-not-is_char_boundary-clause-none
returns-then-not-is_char_boundary-clause-none c = λ new h some.
    let leaf = c.args.leaf.now in
    let text = chars c.args.text.now in
    let starts = leaf_parts c.as_str-old.result.now leaf c.args.from c.as_str-old.ensures.bytes c.as_str-old.ensures.piece (replaced_from leaf c.args.from c.args.to text new h) in
    let ends = leaf_parts c.as_str-old.result.now leaf c.args.to c.as_str-old.ensures.bytes c.as_str-old.ensures.piece (replaced_to leaf c.args.from c.args.to text new h) in
    elim c.then-not-is_char_boundary.branch [
      | then-not-is_char_boundary-via-then-not-is_char_boundary w ↦
          absurd (not_both c.is_char_boundary.result (c.is_char_boundary.ensures.test.1 starts.boundary) w.if-not-is_char_boundary.true)
      | then-not-is_char_boundary-via-else-not-is_char_boundary+then-not-is_char_boundary-2 w ↦
          absurd (not_both w.is_char_boundary-else-not-is_char_boundary.result (w.is_char_boundary-else-not-is_char_boundary.ensures.test.1 ends.boundary) w.if-not-is_char_boundary-2.true)
    ]

pub returns-then-text-kept-clause-none : goal.returns-then-text-kept-clause-none
returns-then-text-kept-clause-none c = λ new h some.
    let leaf = c.args.leaf.now in
    let text = chars c.args.text.now in
    let gone = gone_bytes leaf c.args.from c.args.to text new h in
    let bytes = replaced_bytes leaf c.args.from c.args.to text new h in
    let old_len = ap length c.as_str-old.ensures.bytes in
    let text_len = ap length (encodes-chars c.args.text.now c.utf8.text) in
    let ends = c.is_char_boundary-else-not-is_char_boundary.ensures.test.0 c.if-not-is_char_boundary-2.false in
    elim c.then-text-kept.branch [
      | then-text-kept-via-then-text-kept w ↦ omega (arith, w.if-text-kept.true, gone, bytes, old_len, text_len, ends.0)
      | then-text-kept-via-else-text-kept+then-kept-text w ↦ absurd (omega (arith, w.if-kept-text.true, some, gone, bytes, old_len, text_len, ends.0))
    ]

pub returns-clause-parts : goal.returns-clause-parts
returns-clause-parts c =
    let old = c.as_str-old.result.now in
    let starts = c.is_char_boundary.ensures.test.0 c.if-not-is_char_boundary.false in
    let front : c.range.result.now ≡ take c.args.from old = c.range.ensures.value ∙ slice_front old c.args.from in
    let parts = three_parts old c.range-2.result.now c.args.from c.args.to c.as_str-old.utf8 starts c.requires.range c.range-2.utf8 c.range-2.ensures.value in
    rw (front, c.range_from.ensures.value) (sym c.as_str-old.ensures.text ∙ parts)

pub returns-clause-starts : goal.returns-clause-starts
returns-clause-starts c =
    let old = c.as_str-old.result.now in
    let starts = c.is_char_boundary.ensures.test.0 c.if-not-is_char_boundary.false in
    let front : c.range.result.now ≡ take c.args.from old = c.range.ensures.value ∙ slice_front old c.args.from in
    rw front (front_bytes old c.args.from c.as_str-old.utf8 starts)

pub returns-clause-ends : goal.returns-clause-ends
returns-clause-ends c =
    let old = c.as_str-old.result.now in
    let starts = c.is_char_boundary.ensures.test.0 c.if-not-is_char_boundary.false in
    let ends = c.is_char_boundary-else-not-is_char_boundary.ensures.test.0 c.if-not-is_char_boundary-2.false in
    let front : c.range.result.now ≡ take c.args.from old = c.range.ensures.value ∙ slice_front old c.args.from in
    rw front (mid_bytes old c.range-2.result.now c.args.from c.args.to c.as_str-old.utf8 starts ends.0 c.requires.range c.range-2.utf8 c.range-2.ensures.value)

pub returns-clause-whole : goal.returns-clause-whole
returns-clause-whole c =
    let old_len = ap length c.as_str-old.ensures.bytes in
    let ends = c.is_char_boundary-else-not-is_char_boundary.ensures.test.0 c.if-not-is_char_boundary-2.false in
    omega (arith, old_len, c.as_str-old.ensures.piece.not_long, c.requires.range, ends.0, c.range.ensures.len, c.range-2.ensures.len, c.range_from.ensures.len)
