use Rattle.rx_literals.proofs.RequirementLaws.{beginnings_are_contained}
use Rattle.rx_literals.proofs.laws.beginnings_are_contained.Goals as goal

pub returns : goal.returns
returns c = beginnings_are_contained
