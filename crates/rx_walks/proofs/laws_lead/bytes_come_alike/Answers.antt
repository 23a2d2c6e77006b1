use Rattle.rx_walks.proofs.ByteComeLaws.{comes_in, comes_out}
use Rattle.rx_walks.proofs.laws_lead.bytes_come_alike.Goals as goal

pub returns : goal.returns
returns g c = λ put first step nodes h members never x i z j. ((λ comes. comes_in put first step nodes h members never comes), (λ comes. comes_out put first step nodes h members never comes))
