use Rattle.rx_walks.proofs.SearchLaws.{search_finds}
use Rattle.rx_walks.proofs.FindLaws.{find_from_finds}
use Rattle.rx_walks.proofs.RefinementLaws.{finds_unrefined}
use Rattle.rx_walks.proofs.laws.searches_find.Goals as goal

pub returns : goal.returns
returns c = λ w cm b f s fresh q out same whole searches. find_from_finds whole (finds_unrefined q same (search_finds searches))
