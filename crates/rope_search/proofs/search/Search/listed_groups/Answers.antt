use Rattle.std.proofs.Common.{◌≡◌, ◌+◌, ◌<◌, ◌≤◌, [], ℕ, List, min, length, slice_index_or, refl, ap, sym, subst, ◌∙◌, arith}
use Rattle.ropey.specs.Chunks.{text_of}
use Rattle.rope_search_reports.specs.LineGroups.{AddsGroupsOfLine}
use Rattle.rope_search_reports.specs.Text.{IsText}
use Rattle.rope_search_reports.specs.Ticks.{Ticks}
use Rattle.rope_search.specs.ListedReplacing.{one_if_any}
use Rattle.rope_search.specs.declared.search.Search.{Search}
use Rattle.rope_search.proofs.ListedReplacingLemmas.{groups-all, groups-more, groups-none, groups-passed, left-more, lines_left, listed-row, none-any, report-row, some-any, told-row}
use Rattle.rope_search.proofs.PartLaws.{cutting_scalars}
use Rattle.rope_search.proofs.search.Search.listed_groups.Goals.{then-not-is_empty+in_ok-add_groups_of_line, else-not-is_empty}
use Rattle.rope_search.proofs.search.Search.listed_groups.Goals as goal

pub loop-line-init : goal.loop-line-init
loop-line-init c = (refl, refl, groups-none _ _ _ _ _ c.new-groups.ensures.items, omega arith, omega arith, refl)

pub loop-line-preserved : goal.loop-line-preserved
loop-line-preserved c =
    let text = text_of c.args.text.now in
    let finder = c.args.self.now.finder in
    let rows = c.args.self.now.rows.items in
    let line = c.loop-line.line in
    let from = c.args.from in
    let end = min c.args.to (length rows) in
    let so = c.loop-line.invariant in
    let scalars : IsText text = cutting_scalars c.args.text.now c.len_bytes.ensures.cut.cut in
    let low : line < end = omega (arith, c.loop-line-test.true, c.min-line-end.ensures, c.len.ensures, c.args.self.now.rows.ok.0) in
    let within : line < length rows = omega (arith, low) in
    let row = slice_index_or rows line [] in
    let row_is : c.matches.result.now ≡ row =
    c.matches.ensures
    ∙ told-row rows line c.index.result.now within (c.index.ensures ∙ ap (λ (rs : List (List (ℕ × ℕ))). slice_index_or rs line c.index.result.now) so.1) in
    let left = left-more rows line end low (omega arith) in
    elim c.if-not-is_empty.branch [
      | then-not-is_empty+in_ok-add_groups_of_line w ↦
          let adds : AddsGroupsOfLine text finder line c.loop-line.groups.items w.add_groups_of_line.new.groups.items =
          subst (λ f. AddsGroupsOfLine text f line c.loop-line.groups.items w.add_groups_of_line.new.groups.items) so.0 w.in_ok-add_groups_of_line.ensures.groups in
          let any : one_if_any row ≡ 1 = sym (ap one_if_any row_is) ∙ some-any c.matches.result.now c.is_empty.result c.is_empty.ensures w.if-not-is_empty.true in
          let tick = ap (λ (t : Ticks). t.count) w.tick-is in (
            ap (λ (s : Search). s.finder) w.self-is ∙ w.add_groups_of_line.ensures.finder ∙ so.0,
            ap (λ (s : Search). s.rows.items) w.self-is ∙ so.1,
            rw w.groups-is (groups-more text finder from end line c.loop-line.groups.items w.add_groups_of_line.new.groups.items low adds so.2),
            omega (arith, tick, w.add_groups_of_line.ensures.count, left, any, so.3),
            omega (arith, tick, w.add_groups_of_line.ensures.grows, so.4),
            ap (λ (t : Ticks). t.wholes) w.tick-is ∙ w.add_groups_of_line.ensures.wholes ∙ so.5,
          )
      | else-not-is_empty w ↦
          let is = report-row c.a_row_a_line.ensures text finder rows line c.requires within in
          let own = listed-row text scalars line is.0 c.groups_follow_each_other.ensures finder row is.1 in
          let none : one_if_any row ≡ 0 = sym (ap one_if_any row_is) ∙ none-any c.matches.result.now c.is_empty.result c.is_empty.ensures w.if-not-is_empty.false in
          let tick = ap (λ (t : Ticks). t.count) w.tick-is in (
            ap (λ (s : Search). s.finder) w.self-is ∙ so.0,
            ap (λ (s : Search). s.rows.items) w.self-is ∙ so.1,
            rw w.groups-is (groups-passed text finder from end line row c.loop-line.groups.items low own none so.2),
            omega (arith, tick, left, none, so.3),
            omega (arith, tick, so.4),
            ap (λ (t : Ticks). t.wholes) w.tick-is ∙ so.5,
          )
    ]

pub returns-in_err-add_groups_of_line-clause-count : goal.returns-in_err-add_groups_of_line-clause-count
returns-in_err-add_groups_of_line-clause-count c =
    let rows = c.args.self.now.rows.items in
    let line = c.loop-line.line in
    let end = min c.args.to (length rows) in
    let so = c.loop-line.invariant in
    let low : line < end = omega (arith, c.loop-line-test.true, c.min-line-end.ensures, c.len.ensures, c.args.self.now.rows.ok.0) in
    let row = slice_index_or rows line [] in
    let row_is : c.matches.result.now ≡ row =
    c.matches.ensures
    ∙ told-row rows line c.index.result.now (omega (arith, low)) (c.index.ensures ∙ ap (λ (rs : List (List (ℕ × ℕ))). slice_index_or rs line c.index.result.now) so.1) in
    let any : one_if_any row ≡ 1 = sym (ap one_if_any row_is) ∙ some-any c.matches.result.now c.is_empty.result c.is_empty.ensures c.if-not-is_empty.true in
    let all : c.add_groups_of_line.new.tick.count ≤ c.args.tick.now.count + lines_left rows c.args.from end =
    omega (arith, c.add_groups_of_line.ensures.count, left-more rows line end low (omega arith), any, so.3) in
    all

pub returns-clause-groups : goal.returns-clause-groups
returns-clause-groups c =
    let text = text_of c.args.text.now in
    let finder = c.args.self.now.finder in
    let rows = c.args.self.now.rows.items in
    let end = min c.args.to (length rows) in
    let over : end ≤ c.loop-line.line = omega (arith, c.loop-line-test.false, c.min-line-end.ensures, c.len.ensures, c.args.self.now.rows.ok.0) in
    groups-all text finder c.args.from c.args.to end c.loop-line.line c.loop-line.groups.items (ap (min c.args.to) (c.a_row_a_line.ensures text finder rows c.requires)) over c.loop-line.invariant.2
