use Rattle.rx_walks.proofs.ListingExistLaws.{program_lists}
use Rattle.rx_walks.proofs.laws_lead.listings_exist.Goals as goal

pub returns : goal.returns
returns g c = λ member is_word p s q. program_lists member is_word p s q
