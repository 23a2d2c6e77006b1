use Rattle.rx_walks.proofs.OwnerLaws.{owners_keep_patterns}
use Rattle.rx_walks.proofs.laws_back.owners_keep_patterns.Goals as goal

pub returns : goal.returns
returns g c = λ member is_word p owner has s k q i t e at path. owners_keep_patterns member is_word p owner has s k q i t e at path
