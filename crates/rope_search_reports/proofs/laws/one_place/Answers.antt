use Rattle.rope_search_reports.proofs.SpotLemmas.{spot-one}
use Rattle.rope_search_reports.proofs.TextPlaces.{places}
use Rattle.rope_search_reports.proofs.laws.one_place.Goals as goal

pub returns : goal.returns
returns c = λ text spot place place' scalars at at'. spot-one places text scalars spot place place' at at'
