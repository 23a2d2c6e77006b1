use Rattle.std.proofs.Common.{◌≡◌, map, take, string_bytes}
use Rattle.rx_literals.proofs.beginning.prefilter_of.Given as goal

abbrev pub invariant-loop-literal : goal.invariant-loop-literal
invariant-loop-literal l = map (λ needle. needle.now) l.needles.items ≡ map (λ literal. string_bytes literal) (take l.literal-index l.literals)
