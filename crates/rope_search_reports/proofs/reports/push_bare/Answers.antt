use Rattle.std.proofs.Common.{◌≡◌, ◌<◌, [], ◌++◌, replicate, refl, sym, subst, ◌∙◌, arith, append-nil, chars}
use Rattle.std.proofs.lemmas.Str.{chars-nil}
use Rattle.regex_cursor.proofs.TreeLaws.{finds_of_trees, one_tree}
use Rattle.rope_search_reports.specs.Report.{IsRow}
use Rattle.rope_search_reports.specs.Ticks.{MakesAsMany}
use Rattle.rope_search_reports.proofs.BareLemmas.{bare-more, counted-start, counted-more, counted-most, counted-few}
use Rattle.rope_search_reports.proofs.ReportLaws.{IsRow-one, list-one}
use Rattle.rope_search_reports.proofs.reports.push_bare.Goals as goal

pub loop-done-init : goal.loop-done-init
loop-done-init c = (sym (append-nil c.args.rows.now.items), refl, counted-start c.args.tick.now, refl)

pub returns-in_err-row_of-clause-count : goal.returns-in_err-row_of-clause-count
returns-in_err-row_of-clause-count c =
    counted-most c.loop-done._done c.args.count c.args.tick.now c.loop-done.tick c.row_of.new.tick c.loop-done.invariant.2 c.row_of.ensures.count c.row_of.ensures.grows c.row_of.ensures.wholes (omega (arith, c.loop-done-test.true))

pub returns-in_err-push-clause-count : goal.returns-in_err-push-clause-count
returns-in_err-push-clause-count c =
    counted-most c.loop-done._done c.args.count c.args.tick.now c.loop-done.tick c.row_of.new.tick c.loop-done.invariant.2 c.row_of.ensures.count c.row_of.ensures.grows c.row_of.ensures.wholes (omega (arith, c.loop-done-test.true))

pub loop-done-preserved : goal.loop-done-preserved
loop-done-preserved c =
    let inv = c.loop-done.invariant in
    let some : 0 < c.args.count = omega (arith, c.loop-done-test.true) in
    let row : IsRow c.args.finder.now [] c.in_ok-row_of.field-0 =
    subst (λ t. IsRow c.args.finder.now t c.in_ok-row_of.field-0) chars-nil (subst (λ p. IsRow p (chars []) c.in_ok-row_of.field-0) inv.1 c.in_ok-row_of.ensures.row) in
    let empty : c.in_ok-row_of.field-0 ≡ [] = IsRow-one (list-one one_tree finds_of_trees) c.args.finder.now [] c.in_ok-row_of.field-0 [] row (c.requires some) in (
      bare-more c.args.rows.now.items c.loop-done.rows.items c.push.new.self.items c.in_ok-row_of.field-0 c.loop-done._done inv.0 empty c.in_ok-push.ensures.items,
      c.row_of.ensures.finder ∙ inv.1,
      counted-more c.loop-done._done c.args.tick.now c.loop-done.tick c.row_of.new.tick inv.2 c.row_of.ensures.count c.row_of.ensures.grows c.row_of.ensures.wholes,
      c.row_of.ensures.looked ∙ inv.3,
    )

pub returns-clause-rows : goal.returns-clause-rows
returns-clause-rows c =
    let all : c.loop-done._done ≡ c.args.count = omega (arith, c.loop-done-test.false, c.loop-done.auto._done-end) in
    subst (λ n. c.loop-done.rows.items ≡ c.args.rows.now.items ++ replicate n []) all c.loop-done.invariant.0

pub returns-clause-count : goal.returns-clause-count
returns-clause-count c = counted-few c.loop-done._done c.args.count c.args.tick.now c.loop-done.tick c.loop-done.invariant.2 (omega (arith, c.loop-done.auto._done-end))

pub returns-clause-each : goal.returns-clause-each
returns-clause-each c =
    let all : c.loop-done._done ≡ c.args.count = omega (arith, c.loop-done-test.false, c.loop-done.auto._done-end) in
    subst (λ n. MakesAsMany n c.args.tick.now c.loop-done.tick) all c.loop-done.invariant.2
