-- When a program is too large.
use Rattle.std.specs.Prelude.{ℕ, ◌+◌, ◌*◌, ◌<◌, List, [], ◌∷◌, Option, Some, None}
use Rattle.rx_grammar.specs.Trees.{Tree}
use Rattle.rx_grammar.specs.Weights.{pattern_weight}

-- the weight of patterns together
abbrev pub sum_of_weights : List Tree → ℕ
sum_of_weights [] = 0
sum_of_weights (tree ∷ trees) = pattern_weight tree + sum_of_weights trees

-- with the node above them, unless there is exactly one
abbrev pub weight_of_all : List Tree → ℕ
weight_of_all (tree ∷ []) = pattern_weight tree
weight_of_all trees = 1 + sum_of_weights trees

-- 40 for each unit of weight exceeds the limit; without one, the weight exceeds the greatest
abbrev pub IsTooLarge : Option ℕ → ℕ → Type 0
IsTooLarge (Some limit) weight = limit < 40 * weight
IsTooLarge None weight = 2147483646 < weight

-- the limit in an error
abbrev pub told_limit : Option ℕ → ℕ
told_limit (Some limit) = limit
told_limit None = 85899345840
