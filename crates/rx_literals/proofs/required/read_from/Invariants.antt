use Rattle.std.proofs.Common.{string_bytes}
use Rattle.rx_program.specs.Programs.{character_program}
use Rattle.rx_literals.specs.Requirements.{ReadsTo}
use Rattle.rx_literals.proofs.required.read_from.Given as goal

abbrev pub invariant-loop : goal.invariant-loop
invariant-loop l = ReadsTo (character_program l.program) l.fn.at (string_bytes l.literal) l.next
