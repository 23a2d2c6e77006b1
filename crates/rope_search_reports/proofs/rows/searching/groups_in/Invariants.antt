-- The groups so far.
use Rattle.std.proofs.Common.{◌≡◌, ◌-◌, ◌++◌, None, length, map, replicate}
use Rattle.std.specs.List.{range_with_len}
use Rattle.rope_search_reports.specs.Finders.{group_told}
use Rattle.rope_search_reports.proofs.rows.searching.groups_in.Given as goal

abbrev pub invariant-loop-k : goal.invariant-loop-k
invariant-loop-k l =
    (length l.groups ≡ 10) × (l.groups ≡ map (group_told l.slots) (range_with_len 0 l.k) ++ replicate (10 - l.k) None)
