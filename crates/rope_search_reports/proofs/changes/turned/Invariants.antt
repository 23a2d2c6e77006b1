-- The changes reversed so far.
use Rattle.std.proofs.Common.{◌≡◌, length, drop, vec_len, vec_capacity}
use Rattle.rope_search_reports.specs.Turned.{turned_changes}
use Rattle.rope_search_reports.proofs.TurnLemmas.{TurnsOn}
use Rattle.rope_search_reports.proofs.changes.turned.Given as goal

abbrev pub invariant-loop-change : goal.invariant-loop-change
invariant-loop-change l =
    TurnsOn l.at_old l.at_new (drop l.change-index l.changes) l.back.items (turned_changes 0 0 l.changes)
    × (vec_len l.back ≡ l.change-index) × (vec_capacity l.back ≡ length l.changes)
