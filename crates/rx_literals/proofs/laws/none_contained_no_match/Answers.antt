use Rattle.rx_literals.proofs.RequirementLaws.{none_contained_no_match}
use Rattle.rx_literals.proofs.laws.none_contained_no_match.Goals as goal

pub returns : goal.returns
returns c = none_contained_no_match
