use Rattle.std.proofs.Common.{◌≡◌, ◌+◌, ◌-◌, get_or, drop, cond, ap, sym, ◌∙◌, arith}
use Rattle.std.specs.Prelude.{◌==◌}
use Rattle.str_indices.specs.Bytes.{ends_line, ends_ascii_line, ends_two_byte_line, ends_three_byte_line}
use Rattle.str_indices.proofs.Tested.{tested-inside, starts_with_lf-drop, ways_to_end_a_line}
use Rattle.str_indices.proofs.breaks.LineBreaksMeasure.chunk_weights.Goals as goal

pub returns : goal.returns
returns g c = record {
  long = c.add-2.ensures.long;
  each = λ k l.
      let bytes = c.args.bytes.now in
      let at = c.args.at in
      let b = get_or bytes (at + k) 0 in
      let next = get_or bytes (at + k + 1) 0 in
      let b1 = get_or bytes (at + k - 1) 0 in
      let b2 = get_or bytes (at + k - 2) 0 in
      let is_b = c.load-chunk.ensures.each k l in
      let is_next = c.load.ensures.each k l ∙ ap (λ n. get_or bytes n 0) (let e : at + 1 + k ≡ at + k + 1 = omega arith in e) in
      let is_b1 = c.load-before.ensures.each k l ∙ ap (λ n. get_or bytes n 0) (let e : at - 1 + k ≡ at + k - 1 = omega (arith, c.requires.before) in e) in
      let is_b2 = c.load-2.ensures.each k l ∙ ap (λ n. get_or bytes n 0) (let e : at - 2 + k ≡ at + k - 2 = omega (arith, c.requires.before) in e) in
      c.add-2.ensures.each k l
      ∙ (λ i. c.add.ensures.each k l i + c.three_byte_breaks.ensures.each k l i)
      ∙ (λ i. c.ascii_breaks.ensures.each k l i + c.two_byte_breaks.ensures.each k l i + cond (ends_three_byte_line (is_b2 i) (is_b1 i) (is_b i)) 1 0)
      ∙ (λ i. cond (ends_ascii_line (is_b i) (is_next i == 10)) 1 0 + cond (ends_two_byte_line (is_b1 i) (is_b i)) 1 0 + cond (ends_three_byte_line b2 b1 b) 1 0)
      ∙ ways_to_end_a_line b2 b1 b next (drop (at + k + 1) bytes) (starts_with_lf-drop bytes (at + k + 1))
      ∙ sym (tested-inside ends_line bytes (at + k) (omega (arith, c.requires.before)) (omega (arith, c.requires.after)));
}
