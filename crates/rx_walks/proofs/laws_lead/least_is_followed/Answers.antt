use Rattle.rx_walks.proofs.LeadLaws.{follows_least}
use Rattle.rx_walks.proofs.laws_lead.least_is_followed.Goals as goal

pub returns : goal.returns
returns g c = λ m told forward finite n q i. follows_least m told forward finite n q i
