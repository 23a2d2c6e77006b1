use Rattle.rx_walks.proofs.ListingLaws.{byte_listings_are_matches}
use Rattle.rx_walks.proofs.laws_lead.byte_listings_are_matches.Goals as goal

pub returns : goal.returns
returns g c = λ keeping member is_word p step members s q ms starts lists. byte_listings_are_matches member is_word p s keeping step members q ms starts lists
