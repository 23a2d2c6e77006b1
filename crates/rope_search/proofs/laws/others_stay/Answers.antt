use Rattle.rope_search.proofs.OthersLaws.{others_stay}
use Rattle.rope_search.proofs.laws.others_stay.Goals as goal

pub returns : goal.returns
returns c = others_stay
