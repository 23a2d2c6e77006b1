use Rattle.std.proofs.Common.{◌+◌, ◌<◌, length, sym, subst, arith}
use Rattle.str_indices.proofs.TextLaws.{ends_behind_a_boundary-lines, ends_of_a_part-lines}
use Rattle.ropey.specs.Chunks.{is_break}
use Rattle.ropey.specs.Slices.{slice_text}
use Rattle.rope_search_reports.specs.Drafts.{IsSecondLine, IsTeller}
use Rattle.rope_search_reports.proofs.PlaceLemmas.{line_inside}
use Rattle.rope_search_reports.proofs.TellerLemmas.{next-teller, stays-on, teller-within}
use Rattle.rope_search_reports.proofs.line_teller.LineTeller.to_next_line.Goals as goal

pub overflow_add-self : goal.overflow_add-self
overflow_add-self c = omega (arith, teller-within _ _ _ _ c.self.invariant.0, c.if-same-rest.false, c.self.invariant.0.bytes_fit)

pub overflow_add-self-2 : goal.overflow_add-self-2
overflow_add-self-2 c =
    let line_is = c.self.invariant.0.line_is in
    omega (arith, line_is, line_inside (slice_text c.self.inside.text) c.self.inside.start, c.self.invariant.0.fits)

pub range_from-rest-requires : goal.range_from-rest-requires
range_from-rest-requires c = λ _. (c.self.invariant.2 (omega (arith, c.if-same-eq0.false)) (omega (arith, c.if-same-rest.false))).boundary

pub invariant_of-self : goal.invariant_of-self
invariant_of-self c =
    let text = slice_text c.self.inside.text in
    let same = c.self.inside.same in
    let inside : same < length c.self.inside.rest.now = omega (arith, c.if-same-rest.false) in
    let second : IsSecondLine c.self.inside.rest.now same = c.self.invariant.2 (omega (arith, c.if-same-eq0.false)) inside in
    let on : IsTeller text c.range_from-rest.result.now (c.self.inside.start + same) (c.self.inside.line_idx + 1) =
    subst (λ bs. IsTeller text bs (c.self.inside.start + same) (c.self.inside.line_idx + 1)) (sym c.range_from-rest.ensures.value)
    (next-teller (ends_of_a_part-lines is_break) (ends_behind_a_boundary-lines is_break) text c.self.inside.rest.now c.self.inside.start c.self.inside.line_idx same c.self.invariant.0 inside second) in (
      on,
      stays-on (ends_of_a_part-lines is_break) (ends_behind_a_boundary-lines is_break) text _ _ _ _ on c.len_of_first_line-self-inside.ensures.within c.len_of_first_line-self-inside.ensures.first,
      λ _. c.len_of_first_line-self-inside.ensures.second,
    )
