use Rattle.std.proofs.Common.{◌≡◌, ◌+◌, ◌-◌, ◌≤◌, refl, ap, subst, ◌∙◌, arith}
use Rattle.std.proofs.lemmas.Bool.Decides.{nat_tests}
use Rattle.std.proofs.lemmas.Grind.{common_steps}
use Rattle.str_indices.specs.Text.{byte_len}
use Rattle.rope_search_reports.specs.Position.{line_at}
use Rattle.rope_search_reports.specs.Text.{line_count}
use Rattle.ropey.specs.Chunks.{text_of}
use Rattle.rope_search_reports.proofs.WeaveLemmas.{IsSplice, change_at, next-at, Woven-at, Woven-more, Woven-start, Woven-turn, Woven-report, start-is, ordered-at, count-at, few-at, last-alike, once-at, drop-none, max-is, first-is, first-within}
use Rattle.rope_search_reports.specs.declared.changes.Splice.{Splice}
use Rattle.rope_search_reports.specs.Drafts.{AddsRowsOf}
use Rattle.rope_search_reports.specs.Patches.{AreInTurn, made_by}
use Rattle.rope_search_reports.proofs.MadeLemmas.{counted-made, made-spliced}
use Rattle.rope_search_reports.proofs.FinderLemmas.{whole-is}
use Rattle.ropey.specs.Slices.{slice_text}
use Rattle.rope_search_reports.proofs.LineLemmas.{lines-counted}
use Rattle.rope_search_reports.proofs.PlaceLemmas.{line_inside}
use Rattle.rope_search_reports.proofs.changes.patches_of.Goals as goal

pub loop-change-init : goal.loop-change-init
loop-change-init c =
    let none : made_by c.new-patches.result.items ≡ 0 = ap made_by c.new-patches.ensures.items in (
      λ n are. (n, Woven-start _ _ _ _ _ _ c.new-patches.ensures.items are, omega arith, omega arith, omega (arith, none)),
      refl,
      refl,
      omega arith,
      omega arith,
      omega arith,
      omega (arith, none),
      omega arith,
      c.teller-new_lines.ensures ∙ c.at_place-walk.ensures.text ∙ ap text_of c.slice.ensures ∙ whole-is c.args.new.now,
      c.of-old_lines.ensures ∙ ap text_of c.slice-2.ensures ∙ whole-is c.args.old.now,
      c.at_place-walk.ensures.text ∙ ap text_of c.slice.ensures ∙ whole-is c.args.new.now,
      omega (
        arith,
        c.at_place-walk.ensures.line,
        ap (λ t. line_at t c.first_start.result) (ap text_of c.slice.ensures ∙ whole-is c.args.new.now),
        ap (line_at (text_of c.args.new.now)) (first-is c.args.changes.now c.first_start.result c.first_start.ensures.first c.first_start.ensures.none),
      ),
      omega arith,
      omega arith,
      omega arith,
    )

pub at_place-walk-requires : goal.at_place-walk-requires
at_place-walk-requires c =
    let first = first-is c.args.changes.now c.first_start.result c.first_start.ensures.first c.first_start.ensures.none in
    let within = first-within (text_of c.args.old.now) (text_of c.args.new.now) c.args.changes.now c.requires.changed.0 c.first_start.result c.requires.changed.1 first in
    omega (arith, within, ap byte_len (ap text_of c.slice.ensures ∙ whole-is c.args.new.now))

pub teller-new_lines-requires : goal.teller-new_lines-requires
teller-new_lines-requires c =
    omega (arith, c.at_place-walk.ensures.line, ap line_count c.at_place-walk.ensures.text, line_inside (slice_text c.slice.result) c.first_start.result)

pub add_rows-requires-clause-ahead : goal.add_rows-requires-clause-ahead
add_rows-requires-clause-ahead c =
    let start = start-is c.loop-change.done _ c.line.result c.max-start.result (c.line.ensures.line ∙ ap (λ t. line_at t (change_at c.args.changes.now c.loop-change.change-index).new_start) c.loop-change.invariant.8) (c.max-start.ensures ∙ max-is c.loop-change.done c.line.result) in
    omega (arith, c.loop-change.invariant.11, start)

pub line-requires : goal.line-requires
line-requires c =
    let next = next-at _ _ _ c.args.changes.now _ _ _ _ _ c.loop-change-test.true (c.loop-change.invariant.0 c.requires.changed.0 c.requires.changed.1).1 in
    omega (arith, next.new_ordered, next.new_within, ap byte_len c.loop-change.invariant.8)

pub line-stop-requires : goal.line-stop-requires
line-stop-requires c =
    let next = next-at _ _ _ c.args.changes.now _ _ _ _ _ c.loop-change-test.true (c.loop-change.invariant.0 c.requires.changed.0 c.requires.changed.1).1 in
    omega (arith, next.new_within, ap byte_len (c.line.ensures.text ∙ c.loop-change.invariant.8))

pub add_rows-requires-clause-ordered : goal.add_rows-requires-clause-ordered
add_rows-requires-clause-ordered c =
    let next = next-at _ _ _ c.args.changes.now _ _ _ _ _ c.loop-change-test.true (c.loop-change.invariant.0 c.requires.changed.0 c.requires.changed.1).1 in
    ordered-at _ _ _ _ next.lines.ordered (start-is c.loop-change.done _ c.line.result c.max-start.result (c.line.ensures.line ∙ ap (λ t. line_at t (change_at c.args.changes.now c.loop-change.change-index).new_start) c.loop-change.invariant.8) (c.max-start.ensures ∙ max-is c.loop-change.done c.line.result)) (c.line-stop.ensures.line ∙ ap (λ t. line_at t (change_at c.args.changes.now c.loop-change.change-index).new_end) (c.line.ensures.text ∙ c.loop-change.invariant.8))

pub returns-in_err-add_rows-clause-count : goal.returns-in_err-add_rows-clause-count
returns-in_err-add_rows-clause-count c = λ n are.
    let so = c.loop-change.invariant.0 n are in
    let next = next-at _ _ _ c.args.changes.now _ _ _ _ _ c.loop-change-test.true so.1 in
    let sum = count-at _ _ _ _ _ _ next.others _ _ _ _ so.2 next.counts next.few (start-is c.loop-change.done _ c.line.result c.max-start.result (c.line.ensures.line ∙ ap (λ t. line_at t (change_at c.args.changes.now c.loop-change.change-index).new_start) c.loop-change.invariant.8) (c.max-start.ensures ∙ max-is c.loop-change.done c.line.result)) (c.line-stop.ensures.line ∙ ap (λ t. line_at t (change_at c.args.changes.now c.loop-change.change-index).new_end) (c.line.ensures.text ∙ c.loop-change.invariant.8)) c.add_rows.ensures.count.made in
    omega (arith, sum)

pub returns-in_err-add_rows-clause-looks : goal.returns-in_err-add_rows-clause-looks
returns-in_err-add_rows-clause-looks c = λ n are.
    let so = c.loop-change.invariant.0 n are in
    let next = next-at _ _ _ c.args.changes.now _ _ _ _ _ c.loop-change-test.true so.1 in
    let sum = count-at _ _ _ _ _ _ next.others _ _ _ _ so.3 next.counts next.few (start-is c.loop-change.done _ c.line.result c.max-start.result (c.line.ensures.line ∙ ap (λ t. line_at t (change_at c.args.changes.now c.loop-change.change-index).new_start) c.loop-change.invariant.8) (c.max-start.ensures ∙ max-is c.loop-change.done c.line.result)) (c.line-stop.ensures.line ∙ ap (λ t. line_at t (change_at c.args.changes.now c.loop-change.change-index).new_end) (c.line.ensures.text ∙ c.loop-change.invariant.8)) c.add_rows.ensures.looks in
    omega (arith, sum)

pub overflow_add-first : goal.overflow_add-first
overflow_add-first c =
    let next = next-at _ _ _ c.args.changes.now _ _ _ _ _ c.loop-change-test.true (c.loop-change.invariant.0 c.requires.changed.0 c.requires.changed.1).1 in
    let start = start-is c.loop-change.done _ c.line.result c.max-start.result (c.line.ensures.line ∙ ap (λ t. line_at t (change_at c.args.changes.now c.loop-change.change-index).new_start) c.loop-change.invariant.8) (c.max-start.ensures ∙ max-is c.loop-change.done c.line.result) in
    let few : line_at (text_of c.args.old.now) (change_at c.args.changes.now c.loop-change.change-index).old_end + 1 ≤ line_count (text_of c.args.old.now) = grind (arith, common_steps) in
    omega (arith, next.lines.within, start, few, c.requires.old_fits)

pub lines_kept-kept-requires-clause-text : goal.lines_kept-kept-requires-clause-text
lines_kept-kept-requires-clause-text c = c.loop-change.invariant.9

pub lines_kept-kept-requires-clause-within : goal.lines_kept-kept-requires-clause-within
lines_kept-kept-requires-clause-within c =
    let next = next-at _ _ _ c.args.changes.now _ _ _ _ _ c.loop-change-test.true (c.loop-change.invariant.0 c.requires.changed.0 c.requires.changed.1).1 in
    next.old_within

pub lines_kept-kept-requires-clause-done : goal.lines_kept-kept-requires-clause-done
lines_kept-kept-requires-clause-done c = omega (arith, c.line-stop.ensures.few, ap line_count (c.line.ensures.text ∙ c.loop-change.invariant.8))

pub lines_kept-kept-requires-clause-alike : goal.lines_kept-kept-requires-clause-alike
lines_kept-kept-requires-clause-alike c = λ is_last.
    let changes = c.args.changes.now in
    let next = next-at _ _ _ changes _ _ _ _ _ c.loop-change-test.true (c.loop-change.invariant.0 c.requires.changed.0 c.requires.changed.1).1 in
    let last = (c.line-stop.ensures.line ∙ ap (λ t. line_at t (change_at changes c.loop-change.change-index).new_end) (c.line.ensures.text ∙ c.loop-change.invariant.8)) in
    let none : c.loop-change.left - 1 ≡ 0 = grind (arith, nat_tests, is_last) in
    let gone = drop-none (c.loop-change.change-index + 1) changes (omega (arith, none, c.loop-change.invariant.12)) in
    last-alike _ _ _ _ _ _ _ next gone c.line-stop.result last

pub loop-change-preserved : goal.loop-change-preserved
loop-change-preserved c =
    let changes = c.args.changes.now in
    let old = text_of c.args.old.now in
    let new = text_of c.args.new.now in
    let so = c.loop-change.invariant in
    let start = start-is c.loop-change.done _ c.line.result c.max-start.result (c.line.ensures.line ∙ ap (λ t. line_at t (change_at c.args.changes.now c.loop-change.change-index).new_start) c.loop-change.invariant.8) (c.max-start.ensures ∙ max-is c.loop-change.done c.line.result) in
    let last = (c.line-stop.ensures.line ∙ ap (λ t. line_at t (change_at c.args.changes.now c.loop-change.change-index).new_end) (c.line.ensures.text ∙ c.loop-change.invariant.8)) in
    let first = next-at _ _ _ changes _ _ _ _ _ c.loop-change-test.true (so.0 c.requires.changed.0 c.requires.changed.1).1 in
    let few-lines : c.line-stop.result + 1 ≤ line_count new = omega (arith, c.line-stop.ensures.few, ap line_count (c.line.ensures.text ∙ c.loop-change.invariant.8)) in
    let splice : Splice = record {
      first = c.loop-change.kept + (c.max-start.result - c.loop-change.done);
      end = c.lines_kept-kept.result;
      start = c.max-start.result;
      stop = c.line-stop.result + 1;
    } in
    let spliced : IsSplice old new (change_at changes c.loop-change.change-index) c.loop-change.kept c.loop-change.done splice =
    record { start = start; stop = ap (λ n. n + 1) last; first = refl; ends = c.lines_kept-kept.ensures.lines } in
    let added : AddsRowsOf c.args.finder.now new splice c.loop-change.patches.items c.add_rows.new.patches.items =
    subst (λ p. AddsRowsOf p new splice c.loop-change.patches.items c.add_rows.new.patches.items) so.1 c.in_ok-add_rows.ensures.added in
    let made = made-spliced c.args.finder.now new splice _ _ (ordered-at _ _ _ _ first.lines.ordered start last) few-lines added in (
      λ all are.
          let here-so = so.0 all are in
          let next = next-at _ _ _ changes _ _ _ _ _ c.loop-change-test.true here-so.1 in
          let here = Woven-at _ _ _ changes _ _ _ _ _ c.loop-change-test.true here-so.1 in (
            next.others,
            Woven-more _ _ _ _ _ _ _ _ _ _ splice here next spliced added,
            count-at _ _ _ _ _ _ next.others _ _ _ _ here-so.2 next.counts next.few start last c.add_rows.ensures.count.made,
            count-at _ _ _ _ _ _ next.others _ _ _ _ here-so.3 next.counts next.few start last c.add_rows.ensures.looks,
            few-at _ _ _ _ _ _ next.others _ _ _ _ here-so.4 next.counts next.few start last made refl,
          ),
      c.add_rows.ensures.finder ∙ so.1,
      c.add_rows.ensures.count.no_whole ∙ so.2,
      once-at _ _ _ _ _ _ so.3 (first.lines.forward) first.lines.ordered start last c.add_rows.ensures.count.made,
      few-lines,
      once-at _ _ _ _ _ _ so.5 (first.lines.forward) first.lines.ordered start last c.add_rows.ensures.looks,
      counted-made c.args.tick.now c.loop-change.tick c.add_rows.new.tick _ _ _ _ so.6 c.in_ok-add_rows.ensures.each made refl,
      omega (arith, so.7, c.add_rows.ensures.looks, made),
      c.line-stop.ensures.text ∙ c.line.ensures.text ∙ so.8,
      c.lines_kept-kept.ensures.text ∙ so.9,
      c.in_ok-add_rows.ensures.text ∙ so.10,
      omega (arith, c.in_ok-add_rows.ensures.line),
      omega (arith, so.12, c.loop-change-test.true),
      omega (arith, so.13, c.add_rows.ensures.count.grows),
      omega (arith, so.14, c.in_ok-add_rows.ensures.each.made, made),
    )

pub returns-clause-turn : goal.returns-clause-turn
returns-clause-turn c =
    let patches = c.loop-change.patches.items in
    subst (λ n. AreInTurn 0 n patches) (lines-counted (text_of c.args.old.now))
    (Woven-turn _ _ _ _ _ _ _ _ (c.loop-change.invariant.0 c.requires.changed.0 c.requires.changed.1).1)

pub returns-clause-report : goal.returns-clause-report
returns-clause-report c = Woven-report _ _ _ _ _ _ _ _ (drop-none c.loop-change.change-index c.args.changes.now c.loop-change-test.false) (c.loop-change.invariant.0 c.requires.changed.0 c.requires.changed.1).1

pub returns-clause-few : goal.returns-clause-few
returns-clause-few c = λ n are.
    let few = (c.loop-change.invariant.0 n are).4 in
    omega (arith, few)

pub returns-in_err-add_rows-clause-once : goal.returns-in_err-add_rows-clause-once
returns-in_err-add_rows-clause-once c =
    let next = next-at _ _ _ c.args.changes.now _ _ _ _ _ c.loop-change-test.true (c.loop-change.invariant.0 c.requires.changed.0 c.requires.changed.1).1 in
    let few : c.line-stop.result + 1 ≤ line_count (text_of c.args.new.now) = omega (arith, c.line-stop.ensures.few, ap line_count (c.line.ensures.text ∙ c.loop-change.invariant.8)) in
    let sum = once-at _ _ _ _ _ _ c.loop-change.invariant.3 next.lines.forward next.lines.ordered (start-is c.loop-change.done _ c.line.result c.max-start.result (c.line.ensures.line ∙ ap (λ t. line_at t (change_at c.args.changes.now c.loop-change.change-index).new_start) c.loop-change.invariant.8) (c.max-start.ensures ∙ max-is c.loop-change.done c.line.result)) (c.line-stop.ensures.line ∙ ap (λ t. line_at t (change_at c.args.changes.now c.loop-change.change-index).new_end) (c.line.ensures.text ∙ c.loop-change.invariant.8)) c.add_rows.ensures.count.made in
    record { grows = omega (arith, c.loop-change.invariant.13, c.add_rows.ensures.count.grows); made = omega (arith, sum, few); no_whole = c.add_rows.ensures.count.no_whole ∙ c.loop-change.invariant.2 }

pub returns-in_err-add_rows-clause-looks_once : goal.returns-in_err-add_rows-clause-looks_once
returns-in_err-add_rows-clause-looks_once c =
    let next = next-at _ _ _ c.args.changes.now _ _ _ _ _ c.loop-change-test.true (c.loop-change.invariant.0 c.requires.changed.0 c.requires.changed.1).1 in
    let few : c.line-stop.result + 1 ≤ line_count (text_of c.args.new.now) = omega (arith, c.line-stop.ensures.few, ap line_count (c.line.ensures.text ∙ c.loop-change.invariant.8)) in
    let sum = once-at _ _ _ _ _ _ c.loop-change.invariant.5 next.lines.forward next.lines.ordered (start-is c.loop-change.done _ c.line.result c.max-start.result (c.line.ensures.line ∙ ap (λ t. line_at t (change_at c.args.changes.now c.loop-change.change-index).new_start) c.loop-change.invariant.8) (c.max-start.ensures ∙ max-is c.loop-change.done c.line.result)) (c.line-stop.ensures.line ∙ ap (λ t. line_at t (change_at c.args.changes.now c.loop-change.change-index).new_end) (c.line.ensures.text ∙ c.loop-change.invariant.8)) c.add_rows.ensures.looks in
    omega (arith, sum, few)
