use Rattle.rx_walks.proofs.AllFindLaws.{readers_find_all}
use Rattle.rx_walks.proofs.laws_back.readers_find_all.Goals as goal

pub returns : goal.returns
returns g c = λ put first step nodes h s fresh q out members whole searches. readers_find_all put first step nodes h s fresh q out members whole searches
