use Rattle.rx_program.proofs.EmptyLaws.{may_be_empty_is_told, empty_paths_are_told}
use Rattle.rx_program.proofs.laws.may_be_empty_is_told.Goals as goal

pub returns : goal.returns
returns c = record { trees = may_be_empty_is_told; paths = empty_paths_are_told }
