use Rattle.std.proofs.Common.{length, string_bytes}
use Rattle.std.proofs.Common.{String, Global}
use Rattle.rx_literals.proofs.KeptLaws.{AreLeft}
use Rattle.rx_literals.proofs.beginning.without_longer.Given as goal

abbrev pub invariant-loop-literal : goal.invariant-loop-literal
invariant-loop-literal l = AreLeft (λ (literal : String Global). string_bytes literal) l.fn.literals.items l.literals.items l.kept.items

abbrev pub decreases-loop-literal : goal.decreases-loop-literal
decreases-loop-literal l = length l.literals.items
