use Rattle.rx_walks.proofs.RefinementLaws.{refined, unrefined, least_refined}
use Rattle.rx_walks.proofs.laws.walks_agree.Goals as goal

pub returns : goal.returns
returns c = λ w cm b f same seen n q i. ((λ choices t. ((λ walk. refined same walk), (λ walk. unrefined seen q same walk))), (λ t. least_refined same))
