use Rattle.rx_walks.proofs.PathLaws.{path_has_walk, walk_reaches}
use Rattle.rx_walks.proofs.laws.paths_have_walks.Goals as goal

pub returns : goal.returns
returns c = λ w m same n q i p e. ((λ path. path_has_walk same path n), (λ reached. walk_reaches reached))
