use Rattle.std.proofs.Common.{ℕ, List, take}
use Rattle.std.specs.Borrow.{Bor}
use Rattle.std.specs.List.{All}
use Rattle.rx_literals.specs.NeedleTables.{MayOccurAt}
use Rattle.rx_literals.proofs.needle_table.NeedleTable.of.Given as goal

abbrev pub invariant-loop-needle : goal.invariant-loop-needle
invariant-loop-needle l = All (λ (needle : Bor (List ℕ)). MayOccurAt l.table needle.now 0) (take l.needle-index l.needles)
