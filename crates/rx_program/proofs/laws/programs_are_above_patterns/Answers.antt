use Rattle.std.proofs.Common.{[], ◌∷◌, refl}
use Rattle.rx_walks.specs.Programs.{one_pattern, several}
use Rattle.rx_program.specs.Laws.{ProgramsAreAbovePatterns}
use Rattle.rx_program.proofs.laws.programs_are_above_patterns.Goals as goal

above : ProgramsAreAbovePatterns
above [] terminator = several refl
above (tree ∷ []) terminator = one_pattern refl
above (tree ∷ other ∷ trees) terminator = several refl

pub returns : goal.returns
returns c = above
