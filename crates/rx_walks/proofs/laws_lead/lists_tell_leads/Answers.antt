use Rattle.rx_walks.proofs.LeadTellLaws.{tells_leads}
use Rattle.rx_walks.proofs.laws_lead.lists_tell_leads.Goals as goal

pub returns : goal.returns
returns g c = λ put member step p h low high members never. tells_leads put member step p h low high members never
