use Rattle.rx_walks.proofs.ComeBackLaws.{to_back, from_back}
use Rattle.rx_walks.proofs.laws_lead.reverse_tells_leads.Goals as goal

pub returns : goal.returns
returns g c = λ put member p h low high q i below from to. (
  (λ leads. to_back put member p h low high q i leads),
  (λ one. from_back put member p h low high q i below from to one.0 one.1 one.2),
)
