-- Sets of nodes of a program.
use Rattle.std.specs.Prelude.{◌≡◌, ◌↔◌, ◌⊎◌, ℕ, ◌<◌, ◌≤◌, ◌++◌, Bool, true, false, List, [], ◌∷◌, length, Some, slice_get, Contains}
use Rattle.rx_program.specs.declared.states.State.{State}
use Rattle.rx_steps.specs.Nodes.{index_from, end_from, width_of}

-- nodes of a program, and the number of nodes of each of its states
pub record NodeSetView : Type 0 where
  pub widths : List ℕ
  pub nodes : List (ℕ × ℕ)

-- a node's index is among these
abbrev pub IsIn : List ℕ → List ℕ → ℕ × ℕ → Type 0
IsIn widths ids q = (k : ℕ) × (index_from 0 widths q.0 q.1 ≡ Some k) × Contains ids k

-- the nodes are those with these indices
abbrev pub AreOf : List ℕ → List ℕ → List (ℕ × ℕ) → Type 0
AreOf widths ids nodes = (q : ℕ × ℕ) → IsIn widths ids q ↔ Contains nodes q

-- a node was appended to a set, or is already there, if it has an index
abbrev pub IsAdded : List ℕ → List (ℕ × ℕ) → ℕ × ℕ → Bool → List (ℕ × ℕ) → Type 0
IsAdded widths old q true new = (new ≡ old ++ q ∷ []) × (length new ≤ end_from 0 widths)
IsAdded widths old q false new = (new ≡ old)
    × ((k : ℕ) → index_from 0 widths q.0 q.1 ≡ Some k → Contains old q)

-- a node was added if it was requested and has an index, and no other one was
pub record IsAddedIf (widths : List ℕ) (old : List (ℕ × ℕ)) (x : ℕ × ℕ) (is_asked : Bool)
    (new : List (ℕ × ℕ)) : Type 0 where
  pub only : (q : ℕ × ℕ) → Contains new q → Contains old q ⊎ ((x ≡ q) × (is_asked ≡ true))
  pub others : (q : ℕ × ℕ) → Contains old q → Contains new q
  pub there : (k : ℕ) → is_asked ≡ true → index_from 0 widths x.0 x.1 ≡ Some k → Contains new x

-- all nodes of a program's states are among these
abbrev pub AreAllNodes : List State → List (ℕ × ℕ) → Type 0
AreAllNodes states nodes = (q s : ℕ) (x : State) → slice_get states q ≡ Some x → s < width_of x
    → Contains nodes (q, s)
