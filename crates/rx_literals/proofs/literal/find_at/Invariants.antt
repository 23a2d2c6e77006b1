use Rattle.std.proofs.Common.{◌≡◌, ℕ, Vec, Global}
use Rattle.rx_input.specs.Cursors.{IsSameContent}
use Rattle.rx_literals.specs.Needles.{bytes_to_end}
use Rattle.rx_literals.proofs.NeedleLaws.{Carries}
use Rattle.rx_literals.proofs.literal.find_at.Given as goal

abbrev pub invariant-loop-needle : goal.invariant-loop-needle
invariant-loop-needle g l = record {
  same : IsSameContent l.fn.input.cursor l.input.cursor;
  asked : l.input.asked ≡ l.fn.input.asked;
  carries : Carries (λ (needle : Vec ℕ Global). needle.items) (bytes_to_end l.fn.input) l.at l.needle-items l.needle-index;
}
