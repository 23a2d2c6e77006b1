use Rattle.std.proofs.Common.{◌≤◌, ℕ, List, length, take}
use Rattle.std.specs.Borrow.{Bor}
use Rattle.std.specs.List.{All}
use Rattle.rx_literals.proofs.prefilter.longest_of.Given as goal

abbrev pub invariant-loop-needle : goal.invariant-loop-needle
invariant-loop-needle l = record {
  some : 1 ≤ l.longest;
  below : All (λ (needle : Bor (List ℕ)). length needle.now ≤ l.longest) (take l.needle-index l.needles);
}
