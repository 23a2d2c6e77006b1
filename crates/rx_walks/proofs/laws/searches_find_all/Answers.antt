use Rattle.rx_walks.proofs.AllSearchLaws.{search_finds_all}
use Rattle.rx_walks.proofs.AllFindLaws.{find_all_from_finds, finds_all_unrefined}
use Rattle.rx_walks.proofs.laws.searches_find_all.Goals as goal

pub returns : goal.returns
returns c = λ w cm bm f s fresh q out same whole on in_c in_b searches. let n = fresh 0 in find_all_from_finds fresh in_c whole (finds_all_unrefined q same in_c in_b n (search_finds_all on in_b n searches))
