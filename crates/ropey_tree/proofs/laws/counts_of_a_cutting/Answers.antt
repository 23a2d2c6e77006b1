use Rattle.ropey_tree.proofs.CuttingLaws.{counts_of_a_cutting}
use Rattle.ropey_tree.proofs.laws.counts_of_a_cutting.Goals as goal

pub returns : goal.returns
returns c = counts_of_a_cutting
