-- Laws of the definitions.
use Rattle.std.specs.Prelude.{◌≡◌, ℕ, List}
use Rattle.std.specs.List.{concat}
use Rattle.ropey_tree.specs.Counts.{counts_of, total}
use Rattle.ropey_tree.specs.Cutting.{IsCutting}

-- the counts of leaf texts together are those of their text
abbrev pub CountsAreOfTheText : Type 0
CountsAreOfTheText = (pieces : List (List ℕ)) → IsCutting pieces → total pieces ≡ counts_of (concat pieces)
