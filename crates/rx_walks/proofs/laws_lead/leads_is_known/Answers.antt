use Rattle.rx_walks.proofs.LeadLaws.{leads_known}
use Rattle.rx_walks.proofs.laws_lead.leads_is_known.Goals as goal

pub returns : goal.returns
returns g c = λ m n told forward finite q i. leads_known m told forward finite n q i
