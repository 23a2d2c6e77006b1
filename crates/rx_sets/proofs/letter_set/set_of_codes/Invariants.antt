use Rattle.std.proofs.Common.{[], drop}
use Rattle.rx_sets.specs.Sets.{Range}
use Rattle.rx_sets.specs.Unions.{Between}
use Rattle.rx_sets.proofs.UnionLemmas.{Completes}
use Rattle.rx_sets.proofs.letter_set.set_of_codes.Given as goal

-- the ranges that are still to come complete what is appended
abbrev pub invariant-loop-range : goal.invariant-loop-range
invariant-loop-range l = Completes (λ c (r : Range). Between r.0 r.1 c) [] l.ranges.items (drop l.range-index l.codes) l.codes
