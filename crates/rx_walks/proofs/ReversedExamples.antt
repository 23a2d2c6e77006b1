-- A worked example: the reverse program of `ab|b`.
use Rattle.std.proofs.Common.{◌≡◌, ℕ, List, [], ◌∷◌, refl}
use Rattle.rx_walks.specs.Looks.{Look}
use Rattle.rx_walks.specs.Programs.{Node, match, pass, set}
use Rattle.rx_walks.specs.Reversed.{back_nodes}

abbrev pub nodes : List (Node Look ℕ)
nodes = pass (1 ∷ 3 ∷ []) ∷ set 97 2 ∷ set 98 4 ∷ set 98 4 ∷ match 0 ∷ []

-- node q: reached q; node 5 + p: back along the edges of p; node 10: the end; nodes 11 and 12:
-- starts
turned : back_nodes nodes (0 ∷ []) ≡
    pass (10 ∷ []) ∷ pass (5 ∷ []) ∷ pass (6 ∷ []) ∷ pass (5 ∷ []) ∷ pass (7 ∷ 8 ∷ [])
    ∷ pass (0 ∷ []) ∷ set 97 1 ∷ set 98 2 ∷ set 98 3 ∷ pass []
    ∷ match 0 ∷ pass (4 ∷ []) ∷ pass (4 ∷ []) ∷ []
turned = refl
