use Rattle.std.proofs.Common.{string_bytes}
use Rattle.rx_program.specs.Programs.{character_program}
use Rattle.rx_literals.specs.Spellings.{SpellsLiteral}
use Rattle.rx_literals.proofs.exact.spelled.Given as goal

abbrev pub invariant-loop : goal.invariant-loop
invariant-loop l = SpellsLiteral (character_program l.program) (string_bytes l.spelling.literal) l.spelling.at
