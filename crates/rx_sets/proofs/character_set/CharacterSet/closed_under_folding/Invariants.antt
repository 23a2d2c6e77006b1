use Rattle.std.proofs.Common.{◌≡◌, ℕ, ◌||◌, take}
use Rattle.std.specs.List.{list_any}
use Rattle.rx_sets.specs.Sets.{in_ranges}
use Rattle.rx_sets.proofs.FoldLemmas.{leads_to}
use Rattle.rx_sets.proofs.character_set.CharacterSet.closed_under_folding.Given as goal

-- the members, and what the pairs so far lead to
abbrev pub invariant-loop-pair : goal.invariant-loop-pair
invariant-loop-pair l = (n : ℕ) → in_ranges l.ranges.items n ≡ (in_ranges l.self n || list_any (leads_to l.self n) (take l.pair-index l.pair-items))
