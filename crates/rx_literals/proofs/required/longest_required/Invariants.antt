use Rattle.std.proofs.Common.{[], ◌∷◌, string_bytes, IfSome}
use Rattle.rx_program.specs.Programs.{character_program}
use Rattle.rx_literals.specs.Requirements.{MatchesContain}
use Rattle.rx_literals.proofs.required.longest_required.Given as goal

abbrev pub invariant-loop-index : goal.invariant-loop-index
invariant-loop-index l = IfSome l.longest (λ literal. MatchesContain (string_bytes literal ∷ []) (character_program l.program))
