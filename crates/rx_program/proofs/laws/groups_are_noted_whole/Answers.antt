use Rattle.rx_program.proofs.GroupLaws.{groups_are_noted_whole}
use Rattle.rx_program.proofs.laws.groups_are_noted_whole.Goals as goal

pub returns : goal.returns
returns c = groups_are_noted_whole
