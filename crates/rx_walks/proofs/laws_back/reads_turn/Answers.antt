use Rattle.rx_walks.proofs.StandLaws.{reads_turn}
use Rattle.rx_walks.proofs.laws_back.reads_turn.Goals as goal

pub returns : goal.returns
returns g c = λ member h x i j k from to within high. reads_turn member h x i j k from to within high
