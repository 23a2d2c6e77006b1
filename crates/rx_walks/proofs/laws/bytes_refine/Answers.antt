use Rattle.rx_walks.proofs.ProgramLaws.{bytes_refine}
use Rattle.rx_walks.proofs.laws.bytes_refine.Goals as goal

pub returns : goal.returns
returns c = λ w put first step nodes p members. bytes_refine put first step nodes p members
