use Rattle.rx_walks.proofs.TrailLaws.{path_trail, trail_path}
use Rattle.rx_walks.proofs.laws_back.paths_are_trails.Goals as goal

pub returns : goal.returns
returns g c = λ put first nodes h q i p e. ((λ path. path_trail put first nodes h path), (λ trail. trail_path put first nodes h trail))
