-- The remaining digits spell, after the value so far, what all of them spell.
use Rattle.std.proofs.Common.{◌↔◌, ◌<◌, ◌^◌, ℕ, drop}
use Rattle.rope_search.specs.Header.{Spelling}
use Rattle.rope_search.proofs.headers.number_of.Given as goal

abbrev pub invariant-loop-digit : goal.invariant-loop-digit
invariant-loop-digit l =
    (l.value < 2 ^ 64) × ((n : ℕ) → Spelling 0 l.digits n ↔ Spelling l.value (drop l.digit-index l.digits) n)
