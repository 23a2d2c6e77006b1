use Rattle.std.proofs.Common.{◌≡◌, ℕ, ◌+◌, ◌-◌, ◌*◌, ◌^◌, ◌<◌, ◌≤◌, ◌⊎◌, length, get_or}
use Rattle.ropey_tree.specs.declared.counts.Counts.{Counts}
use Rattle.ropey_tree.specs.Counts.{amount}
use Rattle.ropey_tree.proofs.running_totals.RunningTotals.find.Given as goal

-- The result is `low` or one of the `left` indices after it; whether the end is past `i` is known
-- of the last of them or the one before it.
abbrev pub invariant-loop-left : goal.invariant-loop-left
invariant-loop-left l =
    (l.low + l.left < length l.self)
    × ((d : Counts) → 0 < l.low → amount l.by (get_or l.self (l.low - 1) d) ≤ l.i)
    × ((d : Counts) → (k : ℕ) × (l.low ≤ k) × (k ≤ l.low + l.left) × (l.low + l.left ≤ k + 1) × ((l.i < amount l.by (get_or l.self k d)) ⊎ (k + 1 ≡ length l.self)))
    × (l.visits.nodes ≡ l.fn.visits.nodes)
    × (l.fn.visits.comparisons ≤ l.visits.comparisons)
    × (l.visits.comparisons ≤ l.fn.visits.comparisons + 5)
    × (2 ^ (l.visits.comparisons - l.fn.visits.comparisons) * l.left ≤ 23)
    × ((l.left + 1 ≡ length l.self) ⊎ (l.fn.visits.comparisons < l.visits.comparisons))

abbrev pub decreases-loop-left : goal.decreases-loop-left
decreases-loop-left l = l.left
