use Rattle.std.proofs.Common.{◌≡◌, ◌++◌, map, length, string_bytes}
use Rattle.rx_literals.proofs.beginning.Beginnings.literals.Given as goal

abbrev pub invariant-loop-beginning : goal.invariant-loop-beginning
invariant-loop-beginning l = map (λ literal. string_bytes literal) l.literals.items ++ map (λ stem. stem.literal) l.list.items ≡ map (λ stem. stem.literal) l.fn.self.list.items

abbrev pub decreases-loop-beginning : goal.decreases-loop-beginning
decreases-loop-beginning l = length l.list.items
