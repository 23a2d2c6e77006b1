use Rattle.rx_walks.proofs.ProgramTurnLaws.{program_turns}
use Rattle.rx_walks.proofs.laws_back.program_turns.Goals as goal

pub returns : goal.returns
returns g c = λ put member p h low high. program_turns put member p h low high
