use Rattle.rx_sets.proofs.SetLaws.{canonical_unique}
use Rattle.rx_sets.proofs.laws.a_set_has_one_list_of_ranges.Goals as goal

pub returns : goal.returns
returns c = λ ranges others rise rise' members. canonical_unique ranges others rise rise' members
