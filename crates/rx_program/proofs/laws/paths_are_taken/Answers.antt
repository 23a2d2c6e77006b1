use Rattle.rx_program.proofs.TakingLaws.{paths_are_taken, searches_take_paths}
use Rattle.rx_program.proofs.laws.paths_are_taken.Goals as goal

pub returns : goal.returns
returns c = record { anywhere = paths_are_taken; searches = searches_take_paths }
