use Rattle.std.proofs.Common.{drop}
use Rattle.rx_sets.specs.Unions.{LeadsOut}
use Rattle.rx_sets.proofs.UnionLemmas.{Completes}
use Rattle.rx_sets.proofs.foldings.push_seconds.Given as goal

-- the pairs that are still to come complete what is appended
abbrev pub invariant-loop-pair : goal.invariant-loop-pair
invariant-loop-pair l = Completes (LeadsOut l.low l.high) l.initial.ranges.items l.ranges.items (drop l.pair-index l.pairs) l.pairs
