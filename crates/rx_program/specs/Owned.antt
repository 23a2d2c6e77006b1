-- The pattern of each node of a program.
use Rattle.std.specs.Prelude.{ℕ, zero, suc, ◌+◌, Bool, nat_lt, cond, List, [], ◌∷◌, Option, Some, None}
use Rattle.rx_utf8.specs.Automata.{is_in}
use Rattle.rx_grammar.specs.Trees.{Tree}
use Rattle.rx_grammar.specs.Weights.{size_of}
use Rattle.rx_walks.specs.Finds.{Search}
use Rattle.rx_walks.specs.Owners.{HasOwners, KeepsPatterns}
use Rattle.rx_program.specs.Code.{program_of}

-- patterns in sequence, the first with number p and at node `at`
abbrev pub owner_from : ℕ → List Tree → ℕ → ℕ → Option ℕ
owner_from p [] at q = None
owner_from p (tree ∷ trees) at q =
    cond (nat_lt q (at + 3 + size_of tree)) (Some p)
    (owner_from (p + 1) trees (at + 3 + size_of tree) q)

abbrev pub below_top : (ℕ → Option ℕ) → ℕ → Option ℕ
below_top owner zero = None
below_top owner (suc q) = owner (suc q)

-- the node above several patterns, or none, has none
abbrev pub owner_in : List Tree → ℕ → Option ℕ
owner_in [] = below_top (owner_from 0 [] 1)
owner_in (tree ∷ []) = owner_from 0 (tree ∷ []) 0
owner_in (tree ∷ other ∷ trees) = below_top (owner_from 0 (tree ∷ other ∷ trees) 1)

-- the edges of the program of patterns stay in their pattern
abbrev pub ProgramsHaveOwners : Type 0
ProgramsHaveOwners = (trees : List Tree) (terminator : ℕ)
    → HasOwners (program_of trees terminator) (owner_in trees)

-- therefore in each search the walks from a pattern's start do
abbrev pub ProgramsKeepPatterns : Type 0
ProgramsKeepPatterns = (trees : List Tree) (terminator : ℕ) (is_word : ℕ → Bool) (s : Search)
    → KeepsPatterns is_in is_word (program_of trees terminator) s
