use Rattle.std.proofs.Common.{string_bytes}
use Rattle.rx_program.specs.Programs.{character_program}
use Rattle.rx_literals.proofs.SpellingLaws.{spells_on}
use Rattle.rx_literals.proofs.exact.Spelling.step.Goals as goal

pub returns-in_ok-push-in-Some : goal.returns-in_ok-push-in-Some
returns-in_ok-push-in-Some c = λ spells.
    spells_on (character_program c.args.program.now) (string_bytes c.args.self.now.literal) (string_bytes c.push.new.self) c.args.self.now.at c.in-Some.read.0 c.in-Some.read.1 c.in-Some.ensures c.in_ok-push-in-Some.ensures.bytes spells
