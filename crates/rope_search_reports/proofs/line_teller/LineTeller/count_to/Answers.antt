use Rattle.std.proofs.Common.{◌+◌, ◌≤◌, length, ap, sym, subst, ◌∙◌, arith}
use Rattle.str_indices.proofs.TextLaws.{ends_behind_a_boundary-lines, ends_of_a_part-lines}
use Rattle.ropey.specs.Chunks.{is_break}
use Rattle.ropey.specs.Slices.{slice_text}
use Rattle.rope_search_reports.specs.Drafts.{IsTeller}
use Rattle.rope_search_reports.specs.Position.{line_at}
use Rattle.rope_search_reports.specs.Text.{line_count}
use Rattle.rope_search_reports.proofs.PlaceLemmas.{line_inside}
use Rattle.rope_search_reports.proofs.TellerLemmas.{line-told, stays-on, teller-on}
use Rattle.rope_search_reports.proofs.line_teller.LineTeller.count_to.Goals as goal

pub overflow_sub-within : goal.overflow_sub-within
overflow_sub-within c = omega (arith, c.show.ensures.start, ap (λ s. s.start) c.self.view_is)

pub overflow_add-line_idx : goal.overflow_add-line_idx
overflow_add-line_idx c =
    let text = slice_text c.self.inside.text in
    let low : c.self.inside.start ≤ c.args.byte_idx = omega (arith, c.show.ensures.start, ap (λ s. s.start) c.self.view_is) in
    let high : c.args.byte_idx ≤ c.self.inside.start + length c.self.inside.rest.now = omega (arith, c.show.ensures.end, ap (λ s. s.end) c.self.view_is) in
    let told = ap (λ n. c.self.inside.line_idx + n) c.from_byte_idx.ensures
    ∙ line-told (ends_of_a_part-lines is_break) (ends_behind_a_boundary-lines is_break) text c.self.inside.rest.now c.self.inside.start c.self.inside.line_idx c.args.byte_idx c.self.invariant.0 low high in
    omega (arith, told, line_inside text c.args.byte_idx, c.self.invariant.0.fits)

pub returns-clause-line : goal.returns-clause-line
returns-clause-line c =
    let text = slice_text c.self.inside.text in
    let low : c.self.inside.start ≤ c.args.byte_idx = omega (arith, c.show.ensures.start, ap (λ s. s.start) c.self.view_is) in
    let high : c.args.byte_idx ≤ c.self.inside.start + length c.self.inside.rest.now = omega (arith, c.show.ensures.end, ap (λ s. s.end) c.self.view_is) in
    let told = ap (λ n. c.self.inside.line_idx + n) c.from_byte_idx.ensures
    ∙ line-told (ends_of_a_part-lines is_break) (ends_behind_a_boundary-lines is_break) text c.self.inside.rest.now c.self.inside.start c.self.inside.line_idx c.args.byte_idx c.self.invariant.0 low high in
    told ∙ ap (λ t. line_at t c.args.byte_idx) (ap (λ s. s.text) c.self.view_is ∙ c.show.ensures.text)

pub returns-clause-few : goal.returns-clause-few
returns-clause-few c =
    let text = slice_text c.self.inside.text in
    let low : c.self.inside.start ≤ c.args.byte_idx = omega (arith, c.show.ensures.start, ap (λ s. s.start) c.self.view_is) in
    let high : c.args.byte_idx ≤ c.self.inside.start + length c.self.inside.rest.now = omega (arith, c.show.ensures.end, ap (λ s. s.end) c.self.view_is) in
    let told = ap (λ n. c.self.inside.line_idx + n) c.from_byte_idx.ensures
    ∙ line-told (ends_of_a_part-lines is_break) (ends_behind_a_boundary-lines is_break) text c.self.inside.rest.now c.self.inside.start c.self.inside.line_idx c.args.byte_idx c.self.invariant.0 low high in
    omega (arith, told, line_inside text c.args.byte_idx, ap line_count (ap (λ s. s.text) c.self.view_is ∙ c.show.ensures.text))

pub returns-then-not-is_char_boundary-clause-line : goal.returns-then-not-is_char_boundary-clause-line
returns-then-not-is_char_boundary-clause-line c =
    let text = slice_text c.self.inside.text in
    let low : c.self.inside.start ≤ c.args.byte_idx = omega (arith, c.show.ensures.start, ap (λ s. s.start) c.self.view_is) in
    let high : c.args.byte_idx ≤ c.self.inside.start + length c.self.inside.rest.now = omega (arith, c.show.ensures.end, ap (λ s. s.end) c.self.view_is) in
    let told = ap (λ n. c.self.inside.line_idx + n) c.from_byte_idx.ensures
    ∙ line-told (ends_of_a_part-lines is_break) (ends_behind_a_boundary-lines is_break) text c.self.inside.rest.now c.self.inside.start c.self.inside.line_idx c.args.byte_idx c.self.invariant.0 low high in
    told ∙ ap (λ t. line_at t c.args.byte_idx) (ap (λ s. s.text) c.self.view_is ∙ c.show.ensures.text)

pub returns-then-not-is_char_boundary-clause-few : goal.returns-then-not-is_char_boundary-clause-few
returns-then-not-is_char_boundary-clause-few c =
    let text = slice_text c.self.inside.text in
    let low : c.self.inside.start ≤ c.args.byte_idx = omega (arith, c.show.ensures.start, ap (λ s. s.start) c.self.view_is) in
    let high : c.args.byte_idx ≤ c.self.inside.start + length c.self.inside.rest.now = omega (arith, c.show.ensures.end, ap (λ s. s.end) c.self.view_is) in
    let told = ap (λ n. c.self.inside.line_idx + n) c.from_byte_idx.ensures
    ∙ line-told (ends_of_a_part-lines is_break) (ends_behind_a_boundary-lines is_break) text c.self.inside.rest.now c.self.inside.start c.self.inside.line_idx c.args.byte_idx c.self.invariant.0 low high in
    omega (arith, told, line_inside text c.args.byte_idx, ap line_count (ap (λ s. s.text) c.self.view_is ∙ c.show.ensures.text))

pub invariant_of-self : goal.invariant_of-self
invariant_of-self c =
    let text = slice_text c.self.inside.text in
    let low : c.self.inside.start ≤ c.args.byte_idx = omega (arith, c.show.ensures.start, ap (λ s. s.start) c.self.view_is) in
    let high : c.args.byte_idx ≤ c.self.inside.start + length c.self.inside.rest.now = omega (arith, c.show.ensures.end, ap (λ s. s.end) c.self.view_is) in
    let told = ap (λ n. c.self.inside.line_idx + n) c.from_byte_idx.ensures
    ∙ line-told (ends_of_a_part-lines is_break) (ends_behind_a_boundary-lines is_break) text c.self.inside.rest.now c.self.inside.start c.self.inside.line_idx c.args.byte_idx c.self.invariant.0 low high in
    let on : IsTeller text c.range_from-rest.result.now c.args.byte_idx (c.self.inside.line_idx + c.from_byte_idx.result) =
    subst (λ bs. IsTeller text bs c.args.byte_idx (c.self.inside.line_idx + c.from_byte_idx.result)) (sym c.range_from-rest.ensures.value)
    (teller-on text c.self.inside.rest.now c.self.inside.start c.self.inside.line_idx c.args.byte_idx _ c.self.invariant.0 low high (c.is_char_boundary.ensures.test.0 c.if-not-is_char_boundary.false) told) in (
      on,
      stays-on (ends_of_a_part-lines is_break) (ends_behind_a_boundary-lines is_break) text _ c.args.byte_idx _ _ on c.len_of_first_line-self-inside.ensures.within c.len_of_first_line-self-inside.ensures.first,
      λ _. c.len_of_first_line-self-inside.ensures.second,
    )
