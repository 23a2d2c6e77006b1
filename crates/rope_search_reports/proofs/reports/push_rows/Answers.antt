use Rattle.std.proofs.Common.{◌≡◌, ◌+◌, ◌<◌, refl, ap, subst, ◌∙◌, arith}
use Rattle.rope_search_reports.specs.Report.{IsRow}
use Rattle.rope_search_reports.specs.Position.{line_text}
use Rattle.rope_search_reports.specs.Text.{line_count}
use Rattle.rope_search_reports.specs.Drafts.{AddsRows, lines_between, own_text}
use Rattle.rope_search_reports.specs.Ticks.{MakesAsMany}
use Rattle.rope_search_reports.proofs.BareLemmas.{adds-none, adds-one, counted-start, counted-more, counted-most, counted-few}
use Rattle.rope_search_reports.proofs.reports.push_rows.Goals as goal

pub loop-done-init : goal.loop-done-init
loop-done-init c = (adds-none c.args.finder.now c.args.walk.now.text c.args.walk.now.line c.args.rows.now.items, refl, counted-start c.args.tick.now, refl, omega arith, refl)

pub next-requires : goal.next-requires
next-requires c =
    omega (arith, c.loop-done-test.true, c.requires, c.loop-done.invariant.4, ap line_count c.loop-done.invariant.3)

pub returns-in_err-row_of-clause-count : goal.returns-in_err-row_of-clause-count
returns-in_err-row_of-clause-count c =
    counted-most c.loop-done._done c.args.count c.args.tick.now c.loop-done.tick c.row_of.new.tick c.loop-done.invariant.2 c.row_of.ensures.count c.row_of.ensures.grows c.row_of.ensures.wholes (omega (arith, c.loop-done-test.true))

pub returns-in_err-push-clause-count : goal.returns-in_err-push-clause-count
returns-in_err-push-clause-count c =
    counted-most c.loop-done._done c.args.count c.args.tick.now c.loop-done.tick c.row_of.new.tick c.loop-done.invariant.2 c.row_of.ensures.count c.row_of.ensures.grows c.row_of.ensures.wholes (omega (arith, c.loop-done-test.true))

pub loop-done-preserved : goal.loop-done-preserved
loop-done-preserved c =
    let pattern = c.args.finder.now in
    let text = c.args.walk.now.text in
    let at = c.args.walk.now.line in
    let done = c.loop-done._done in
    let inv = c.loop-done.invariant in
    let inside : at + done < line_count text = omega (arith, c.loop-done-test.true, c.requires) in
    let own_is : own_text c.next.result ≡ line_text text (at + done) = c.next.ensures.own ∙ ap (λ t. line_text t c.loop-done.walk.line) inv.3 ∙ ap (line_text text) inv.4 in
    let row : IsRow pattern (own_text c.next.result) c.in_ok-row_of.field-0 = subst (λ p. IsRow p (own_text c.next.result) c.in_ok-row_of.field-0) inv.1 c.in_ok-row_of.ensures.row in
    let next = c.next.ensures.line in (
      adds-one pattern text at done c.args.rows.now.items c.loop-done.rows.items c.push.new.self.items (own_text c.next.result) c.in_ok-row_of.field-0 inside inv.0 own_is row c.in_ok-push.ensures.items,
      c.row_of.ensures.finder ∙ inv.1,
      counted-more done c.args.tick.now c.loop-done.tick c.row_of.new.tick inv.2 c.row_of.ensures.count c.row_of.ensures.grows c.row_of.ensures.wholes,
      c.next.ensures.text ∙ inv.3,
      omega (arith, next, inv.4),
      c.row_of.ensures.looked ∙ inv.5,
    )

pub returns-clause-line : goal.returns-clause-line
returns-clause-line c = omega (arith, c.loop-done.invariant.4, c.loop-done-test.false, c.loop-done.auto._done-end)

pub returns-clause-rows : goal.returns-clause-rows
returns-clause-rows c =
    let all : c.loop-done._done ≡ c.args.count = omega (arith, c.loop-done-test.false, c.loop-done.auto._done-end) in
    subst (λ n. AddsRows c.args.finder.now (lines_between c.args.walk.now.text c.args.walk.now.line (c.args.walk.now.line + n)) c.args.rows.now.items c.loop-done.rows.items) all c.loop-done.invariant.0

pub returns-clause-count : goal.returns-clause-count
returns-clause-count c = counted-few c.loop-done._done c.args.count c.args.tick.now c.loop-done.tick c.loop-done.invariant.2 (omega (arith, c.loop-done.auto._done-end))

pub returns-clause-each : goal.returns-clause-each
returns-clause-each c =
    let all : c.loop-done._done ≡ c.args.count = omega (arith, c.loop-done-test.false, c.loop-done.auto._done-end) in
    subst (λ n. MakesAsMany n c.args.tick.now c.loop-done.tick) all c.loop-done.invariant.2
