use Rattle.std.proofs.Common.{◌≡◌, ◌≤◌, ◌++◌, drop}
use Rattle.rx_sets.specs.Sets.{scalar_count}
use Rattle.rx_sets.proofs.RangeLemmas.{joined_from}
use Rattle.rx_sets.proofs.character_set.CharacterSet.from_ranges.Given as goal

-- what is still to come completes what is joined
abbrev pub invariant-loop-range : goal.invariant-loop-range
invariant-loop-range l = record {
  whole : l.joined.items ++ joined_from l.start l.end (drop l.range-index l.range-items) ≡ joined_from 0 0 l.range-items;
  bound : l.end ≤ scalar_count;
}
