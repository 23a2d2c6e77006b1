use Rattle.std.proofs.Common.{◌≡◌, ◌≤◌, ◌++◌, drop}
use Rattle.rx_sets.specs.Sets.{RiseFrom, scalar_count}
use Rattle.rx_sets.proofs.RangeLemmas.{gaps_from}
use Rattle.rx_sets.proofs.character_set.CharacterSet.complement.Given as goal

-- what is still to come completes the gaps
abbrev pub invariant-loop-range : goal.invariant-loop-range
invariant-loop-range l = record {
  whole : l.gaps.items ++ gaps_from l.next (drop l.range-index l.range-items) ≡ gaps_from 0 l.range-items;
  rise : RiseFrom l.next (drop l.range-index l.range-items);
  bound : l.next ≤ scalar_count;
}
