use Rattle.std.proofs.Common.{◌≡◌, ◌+◌, get_or, drop, cond, ap, sym, ◌∙◌, arith}
use Rattle.std.proofs.lemmas.Bool.{eqb-true}
use Rattle.std.proofs.lemmas.List.Sums.{prefix_len_passes}
use Rattle.std.specs.Prelude.{◌==◌, ◌||◌, ◌&&◌, not}
use Rattle.str_indices.specs.Bytes.{ends_crlf_line}
use Rattle.str_indices.specs.Text.{starts_with_lf}
use Rattle.str_indices.proofs.Tested.{tested-inside, starts_with_lf-drop, lf_alone}
use Rattle.str_indices.proofs.breaks.CrlfBreaksMeasure.chunk_weights.Goals as goal

pub returns : goal.returns
returns g c = record {
  long = c.crlf_breaks.ensures.long;
  each = λ k l.
      let bytes = c.args.bytes.now in
      let at = c.args.at in
      let is_b = c.load-chunk.ensures.each k l in
      let is_next = c.load.ensures.each k l ∙ ap (λ n. get_or bytes n 0) (let e : at + 1 + k ≡ at + k + 1 = omega arith in e) in
      let same = sym (starts_with_lf-drop bytes (at + k + 1)) in
      c.crlf_breaks.ensures.each k l
      ∙ (λ i. cond ((is_b i == 10) || ((is_b i == 13) && not (is_next i == 10))) 1 0)
      ∙ (λ i. cond ((get_or bytes (at + k) 0 == 10) || ((get_or bytes (at + k) 0 == 13) && not (same i))) 1 0)
      ∙ sym (tested-inside ends_crlf_line bytes (at + k) (omega (arith, c.requires.before)) (omega (arith, c.requires.after)));
}

-- no lane is a CR
pub returns-then-first_nonzero-SIZE : goal.returns-then-first_nonzero-SIZE
returns-then-first_nonzero-SIZE g c = record {
  long = c.cmp_eq_byte-then-first_nonzero-SIZE.ensures.long;
  each = λ k l.
      let bytes = c.args.bytes.now in
      let at = c.args.at in
      let crs = g.C.ByteChunk.lanes c.cmp_eq_byte.result in
      let is_b = c.load-chunk.ensures.each k l in
      let none : get_or crs k 0 ≡ 0 = eqb-true _ _ (prefix_len_passes (λ lane. lane == 0) crs k 0 (omega (arith, c.first_nonzero.ensures, c.SIZE.ensures))) in
      let no_cr = sym (c.cmp_eq_byte.ensures.each k l) ∙ none in
      c.cmp_eq_byte-then-first_nonzero-SIZE.ensures.each k l
      ∙ sym (lf_alone _ _ (not (starts_with_lf (drop (at + k + 1) bytes))) no_cr)
      ∙ (λ i. cond ((is_b i == 10) || ((is_b i == 13) && not (starts_with_lf (drop (at + k + 1) bytes)))) 1 0)
      ∙ sym (tested-inside ends_crlf_line bytes (at + k) (omega (arith, c.requires.before)) (omega (arith, c.requires.after)));
}
