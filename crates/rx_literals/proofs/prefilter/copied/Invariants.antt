use Rattle.std.proofs.Common.{◌≡◌, take, map}
use Rattle.rx_literals.proofs.prefilter.copied.Given as goal

abbrev pub invariant-loop-needle : goal.invariant-loop-needle
invariant-loop-needle l = map (λ copy. copy.items) l.copies.items ≡ map (λ needle. needle.now) (take l.needle-index l.needles)
