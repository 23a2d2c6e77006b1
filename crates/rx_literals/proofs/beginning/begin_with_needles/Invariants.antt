use Rattle.std.proofs.Common.{String, Global, Vec, ℕ, string_bytes, map, take}
use Rattle.rx_literals.specs.Ways.{StandFor}
use Rattle.rx_literals.proofs.beginning.begin_with_needles.Given as goal

-- the needles represent the literals so far
abbrev pub invariant-loop-literal : goal.invariant-loop-literal
invariant-loop-literal l = StandFor (map (λ (needle : Vec ℕ Global). needle.items) l.needles) (map (λ (literal : String Global). string_bytes literal) (take l.literal-index l.literals))
