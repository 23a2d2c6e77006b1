use Rattle.rx_walks.proofs.ListingLaws.{listings_are_matches}
use Rattle.rx_walks.proofs.laws_lead.listings_are_matches.Goals as goal

pub returns : goal.returns
returns g c = λ member is_word p s q ms starts lists. listings_are_matches member is_word p s q ms starts lists
