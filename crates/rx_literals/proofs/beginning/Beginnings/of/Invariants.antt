use Rattle.std.proofs.Common.{[], ◌∷◌}
use Rattle.rx_program.specs.Programs.{character_program}
use Rattle.rx_literals.specs.Ways.{StemsLeadTo}
use Rattle.rx_literals.proofs.beginning.Beginnings.of.Given as goal

abbrev pub invariant-loop : goal.invariant-loop
invariant-loop l = StemsLeadTo (character_program l.program) (record { literal = []; node = l.program.start } ∷ []) l.beginnings.list.items
