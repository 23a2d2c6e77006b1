use Rattle.std.specs.Prelude.{IsTrue}
use Rattle.rx_walks.proofs.LeadBackLaws.{leads_by, by_leads}
use Rattle.rx_walks.proofs.laws_lead.leads_is_told_back.Goals as goal

pub returns : goal.returns
returns g c = λ m stepped i beyond same q. ((λ by. by_leads m stepped i (λ r. IsTrue (beyond r)) (λ r. (same r).0) by), (λ leads. leads_by m stepped i (λ r. IsTrue (beyond r)) (λ r. (same r).1) leads.path))
