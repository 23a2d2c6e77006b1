use Rattle.rx_walks.proofs.ProgramTurnLaws.{program_turns_in_bytes}
use Rattle.rx_walks.proofs.laws_back.program_turns_in_bytes.Goals as goal

pub returns : goal.returns
returns g c = λ member p step members h low high. program_turns_in_bytes member p step members h low high
