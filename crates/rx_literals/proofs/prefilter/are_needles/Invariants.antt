use Rattle.std.proofs.Common.{ℕ, List, take}
use Rattle.std.specs.Borrow.{Bor}
use Rattle.std.specs.List.{All}
use Rattle.rx_literals.specs.Needles.{IsNeedle}
use Rattle.rx_literals.proofs.prefilter.are_needles.Given as goal

abbrev pub invariant-loop-needle : goal.invariant-loop-needle
invariant-loop-needle l = All (λ (needle : Bor (List ℕ)). IsNeedle needle.now) (take l.needle-index l.needles)
