-- The rows so far.
use Rattle.std.proofs.Common.{◌≡◌, ◌+◌}
use Rattle.rope_search_reports.specs.Drafts.{AddsRows, lines_between}
use Rattle.rope_search_reports.specs.Ticks.{MakesAsMany}
use Rattle.rope_search_reports.proofs.reports.push_rows.Given as goal

abbrev pub invariant-loop-done : goal.invariant-loop-done
invariant-loop-done l =
    AddsRows l.initial.finder (lines_between l.initial.walk.text l.initial.walk.line (l.initial.walk.line + l._done)) l.initial.rows.items l.rows.items
    × (l.finder ≡ l.initial.finder) × MakesAsMany l._done l.initial.tick l.tick
    × (l.walk.text ≡ l.initial.walk.text) × (l.walk.line ≡ l.initial.walk.line + l._done)
    × (l.tick.looked ≡ l.initial.tick.looked)
