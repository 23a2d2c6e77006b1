use Rattle.std.proofs.Common.{drop}
use Rattle.rx_sets.specs.Unions.{InSpan}
use Rattle.rx_sets.proofs.UnionLemmas.{Completes}
use Rattle.rx_sets.proofs.foldings.push_items.Given as goal

-- the items that are still to come complete what is appended
abbrev pub invariant-loop-item : goal.invariant-loop-item
invariant-loop-item l = Completes (InSpan l.fold) l.initial.ranges.items l.ranges.items (drop l.item-index l.items) l.items
