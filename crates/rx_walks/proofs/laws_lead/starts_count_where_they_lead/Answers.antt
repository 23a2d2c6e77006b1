use Rattle.rx_walks.proofs.ListingLaws.{starts_count}
use Rattle.rx_walks.proofs.laws_lead.starts_count_where_they_lead.Goals as goal

pub returns : goal.returns
returns g c = λ member is_word p s q i. starts_count member is_word p s q i
