use Rattle.std.proofs.Common.{◌≡◌, ℕ, ◌+◌, ◌-◌, ◌≤◌, min, nat_cmp, refl, sym, ap, subst, ◌∙◌, arith}
use Rattle.std.specs.Ordering.{ord_min}
use Rattle.std.proofs.lemmas.Bool.Decides.{nat_tests}
use Rattle.ropey.specs.Chunks.{text_of}
use Rattle.ropey.specs.Slices.{slice_text}
use Rattle.rope_search_reports.specs.Drafts.{AddsRows, lines_between}
use Rattle.rope_search_reports.specs.Report.{AreRows}
use Rattle.rope_search_reports.specs.Ticks.{MakesAsMany}
use Rattle.rope_search_reports.specs.Text.{line_count}
use Rattle.rope_search_reports.proofs.BareLemmas.{counted-start, lines-alike, rows-one, rows-start, turn-of}
use Rattle.rope_search_reports.proofs.FinderLemmas.{whole-is}
use Rattle.rope_search_reports.proofs.WalkLemmas.{UpTo}
use Rattle.rope_search_reports.proofs.reports.rows_of_lines.Goals as goal

min-is : (a b : ℕ) → ord_min nat_cmp a b ≡ min a b
min-is a b = grind (arith, nat_tests)

-- some lines are searched if some are left
some-count : (few left count : ℕ) → count ≡ min few left → 1 ≤ few → 1 ≤ left → 1 ≤ count
some-count few left count is one more = omega (arith, is, one, more)

pub at-walk-requires : goal.at-walk-requires
at-walk-requires c =
    let whole : slice_text c.slice.result ≡ text_of c.args.text.now = ap text_of c.slice.ensures ∙ whole-is c.args.text.now in
    omega (arith, c.requires.ordered, c.requires.within, ap line_count whole)

pub push_rows-requires : goal.push_rows-requires
push_rows-requires c =
    let whole : slice_text c.slice.result ≡ text_of c.args.text.now = ap text_of c.slice.ensures ∙ whole-is c.args.text.now in
    omega (arith, c.requires.within, c.if-first-end-2.true, c.at-walk.ensures.line, ap line_count (c.at-walk.ensures.text ∙ whole))

pub returns-then-first-end-2-clause-rows : goal.returns-then-first-end-2-clause-rows
returns-then-first-end-2-clause-rows c =
    let pattern = c.args.finder.now in
    let text = text_of c.args.text.now in
    let first = c.args.first in
    let whole : slice_text c.slice.result ≡ text = ap text_of c.slice.ensures ∙ whole-is c.args.text.now in
    let walk = c.at-walk.result in
    let text_is : walk.text ≡ text = c.at-walk.ensures.text ∙ whole in
    let line_is : walk.line ≡ first = c.at-walk.ensures.line in
    let rows = c.push_rows.new.rows.items in
    let adds : AddsRows pattern (lines_between text first (first + 1)) c.in_ok-rows.rows.items rows =
    subst (λ n. AddsRows pattern (lines_between text n (n + 1)) c.in_ok-rows.rows.items rows) line_is
    (subst (λ t. AddsRows pattern (lines_between t walk.line (walk.line + 1)) c.in_ok-rows.rows.items rows) text_is c.in_ok-push_rows.ensures.rows) in
    let end_is : first + 1 ≡ c.args.end = omega (arith, c.if-first-end-2.true) in
    subst (λ n. AreRows pattern (lines_between text first n) rows) end_is (rows-one pattern text first c.in_ok-rows.rows.items rows c.in_ok-rows.ensures.items adds)

pub loop-walk-init : goal.loop-walk-init
loop-walk-init c =
    let pattern = c.args.finder.now in
    let own = slice_text c.lines_up_to.result in
    let up : UpTo (text_of c.args.text.now) own c.args.end = record { lines = c.lines_up_to.ensures.lines; within = c.lines_up_to.ensures.within; few = c.lines_up_to.ensures.few } in
    let walk = c.at-walk-2.result in
    let text_is : walk.text ≡ own = c.at-walk-2.ensures.text in
    let line_is : walk.line ≡ c.args.first = c.at-walk-2.ensures.line in
    let none : AreRows pattern (lines_between walk.text c.args.first walk.line) c.in_ok-rows.rows.items =
    subst (λ n. AreRows pattern (lines_between walk.text c.args.first n) c.in_ok-rows.rows.items) (sym line_is)
    (subst (AreRows pattern (lines_between walk.text c.args.first c.args.first)) (sym c.in_ok-rows.ensures.items) (rows-start pattern walk.text c.args.first)) in
    let zero_is : 0 ≡ walk.line - c.args.first = omega (arith, line_is) in (
      none,
      refl,
      subst (λ n. MakesAsMany n c.args.tick.now c.args.tick.now) zero_is (counted-start c.args.tick.now),
      omega (arith, line_is),
      omega (arith, line_is, c.requires.ordered),
      omega arith,
      subst (λ t. UpTo (text_of c.args.text.now) t c.args.end) (sym text_is) up,
      omega arith,
    )

pub loop-walk-preserved : goal.loop-walk-preserved
loop-walk-preserved c =
    let pattern = c.args.finder.now in
    let text = c.loop-walk.walk.text in
    let first = c.args.first in
    let at = c.loop-walk.walk.line in
    let count = c.min-count.result in
    let passed = c.in_ok-passed.passed in
    let inv = c.loop-walk.invariant in
    let mid = c.in_ok-push_rows-2.ensures.line in
    let text_is : c.push_rows-in-loop-walk.new.walk.text ≡ text = c.push_rows-in-loop-walk.ensures.text in
    let finder_is = c.push_rows-in-loop-walk.ensures.finder ∙ inv.1 in
    let adds : AddsRows pattern (lines_between text at (at + count)) c.loop-walk.rows.items c.push_rows-in-loop-walk.new.rows.items =
    subst (λ p. AddsRows p (lines_between text at (at + count)) c.loop-walk.rows.items c.push_rows-in-loop-walk.new.rows.items) inv.1 c.in_ok-push_rows-2.ensures.rows in
    let passes : AddsRows pattern (lines_between text (at + count) (at + count + passed)) c.push_rows-in-loop-walk.new.rows.items c.pass_over.new.rows.items =
    subst (λ p. AddsRows p (lines_between text (at + count) (at + count + passed)) c.push_rows-in-loop-walk.new.rows.items c.pass_over.new.rows.items) finder_is
    (subst (λ t. AddsRows c.push_rows-in-loop-walk.new.finder (lines_between t (at + count) (at + count + passed)) c.push_rows-in-loop-walk.new.rows.items c.pass_over.new.rows.items) text_is
    (subst (λ n. AddsRows c.push_rows-in-loop-walk.new.finder (lines_between c.push_rows-in-loop-walk.new.walk.text n (n + passed)) c.push_rows-in-loop-walk.new.rows.items c.pass_over.new.rows.items) mid c.in_ok-passed.ensures.rows)) in
    let turn = turn-of pattern text first at count passed c.loop-walk.rows.items c.push_rows-in-loop-walk.new.rows.items c.pass_over.new.rows.items c.args.tick.now c.loop-walk.tick c.push_rows-in-loop-walk.new.tick c.pass_over.new.tick
    inv.3 inv.0 inv.2 adds c.in_ok-push_rows-2.ensures.each passes c.in_ok-passed.ensures.each in
    let line_is : c.pass_over.new.walk.line ≡ at + count + passed = omega (arith, c.in_ok-passed.ensures.line, mid) in
    let now_text : c.pass_over.new.walk.text ≡ text = c.pass_over.ensures.text ∙ text_is in
    let few : 1 ≤ count = some-count c.loop-walk.few (c.args.end - c.line_idx-in-loop-walk.result) c.min-count.result (c.min-count.ensures ∙ min-is c.loop-walk.few (c.args.end - c.line_idx-in-loop-walk.result)) inv.5
    (omega (arith, c.loop-walk-test.true, c.line_idx.ensures.line, c.line_idx-in-loop-walk.ensures.line)) in (
      subst (λ t. AreRows pattern (lines_between t first c.pass_over.new.walk.line) c.pass_over.new.rows.items) (sym now_text)
          (subst (λ n. AreRows pattern (lines_between text first n) c.pass_over.new.rows.items) (sym line_is) turn.are),
      c.pass_over.ensures.finder ∙ finder_is,
      subst (λ n. MakesAsMany (n - first) c.args.tick.now c.pass_over.new.tick) (sym line_is) turn.ticks,
      omega (arith, inv.3, line_is),
      omega (arith, line_is, mid, c.in_ok-passed.ensures.within),
      c.lines_before_asking-few.ensures,
      subst (λ t. UpTo (text_of c.args.text.now) t c.args.end) (sym now_text) inv.6,
      omega (arith, inv.7, inv.3, c.push_rows-in-loop-walk.ensures.looked, c.pass_over.ensures.looks, c.in_ok-passed.ensures.looked, c.in_ok-passed.ensures.within, mid, line_is, few),
    )

pub returns-clause-rows : goal.returns-clause-rows
returns-clause-rows c =
    let inv = c.loop-walk.invariant in
    let up = inv.6 in
    let end_is : c.loop-walk.walk.line ≡ c.args.end = omega (arith, inv.4, c.loop-walk-test.false) in
    subst (λ ls. AreRows c.args.finder.now ls c.loop-walk.rows.items) (lines-alike (text_of c.args.text.now) c.loop-walk.walk.text c.args.first c.args.end c.requires.ordered up.lines)
    (subst (λ n. AreRows c.args.finder.now (lines_between c.loop-walk.walk.text c.args.first n) c.loop-walk.rows.items) end_is inv.0)
