use Rattle.std.proofs.Common.{◌-◌, ◌≤◌, length}
use Rattle.memchr.specs.Find.{Nowhere}
use Rattle.rx_literals.specs.NeedleTables.{MayOccurAt}
use Rattle.rx_literals.proofs.needle_table.NeedleTable.find_from.Given as goal

abbrev pub invariant-loop-at : goal.invariant-loop-at
invariant-loop-at l = record {
  low : l.fn.from ≤ l.at;
  inside : l.at ≤ length l.hay;
  none : Nowhere (MayOccurAt l.self l.hay) l.fn.from l.at;
}

abbrev pub decreases-loop-at : goal.decreases-loop-at
decreases-loop-at l = length l.hay - l.at
