use Rattle.std.proofs.Common.{ℕ, Vec, Global}
use Rattle.rx_literals.proofs.NeedleLaws.{Carries}
use Rattle.rx_literals.proofs.prefilter.Parts.find_at.Given as goal

abbrev pub invariant-loop-needle : goal.invariant-loop-needle
invariant-loop-needle l = Carries (λ (needle : Vec ℕ Global). needle.items) l.hay l.at l.needle-items l.needle-index
