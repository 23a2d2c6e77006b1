use Rattle.std.proofs.Common.{ℕ, List, take}
use Rattle.std.specs.Borrow.{Bor}
use Rattle.std.specs.List.{All}
use Rattle.rx_literals.specs.FirstBytes.{BeginsAmong}
use Rattle.rx_literals.proofs.first_bytes.FirstBytes.of.Given as goal

abbrev pub invariant-loop-needle : goal.invariant-loop-needle
invariant-loop-needle l = All (λ (needle : Bor (List ℕ)). BeginsAmong l.first needle.now) (take l.needle-index l.needles)
