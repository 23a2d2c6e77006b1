use Rattle.rx_walks.proofs.LeadBackLaws.{bytes_stepped}
use Rattle.rx_walks.proofs.laws_lead.bytes_are_stepped.Goals as goal

pub returns : goal.returns
returns g c = λ put step nodes h i j q r e. bytes_stepped put step nodes h i j q r e
