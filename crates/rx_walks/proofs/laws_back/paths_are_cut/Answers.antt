use Rattle.rx_walks.proofs.CutLaws.{path_in, path_out}
use Rattle.rx_walks.proofs.laws_back.paths_are_cut.Goals as goal

pub returns : goal.returns
returns g c = λ member nodes h high lower q i p e near. ((λ path. path_in member nodes h high lower near path), (λ path. path_out member nodes h high lower path))
