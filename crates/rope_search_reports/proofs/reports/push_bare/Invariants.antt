-- The rows so far.
use Rattle.std.proofs.Common.{◌≡◌, [], ◌++◌, replicate}
use Rattle.rope_search_reports.specs.Ticks.{MakesAsMany}
use Rattle.rope_search_reports.proofs.reports.push_bare.Given as goal

abbrev pub invariant-loop-done : goal.invariant-loop-done
invariant-loop-done l =
    (l.rows.items ≡ l.initial.rows.items ++ replicate l._done [])
    × (l.finder ≡ l.initial.finder) × MakesAsMany l._done l.initial.tick l.tick
    × (l.tick.looked ≡ l.initial.tick.looked)
