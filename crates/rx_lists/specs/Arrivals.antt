-- The epsilon transitions of a program's states, by the states to which they lead.
use Rattle.std.specs.Prelude.{◌≡◌, ℕ, ◌<◌, List, [], ◌∷◌, length, map, Some, Vec, slice_get, Contains}
use Rattle.rx_program.specs.declared.states.State.{State}
use Rattle.rx_program.specs.declared.states.State.TheVariants as state

-- the states to which a state has epsilon transitions
abbrev pub edges_of : State → List ℕ
edges_of (state.Ranges automaton next) = []
edges_of (state.Look asked next) = next ∷ []
edges_of (state.Empty next) = next ∷ []
edges_of (state.BinaryUnion first second) = first ∷ second ∷ []
edges_of (state.Union alternates) = alternates.items
edges_of (state.Capture slot next) = next ∷ []
edges_of (state.Match pattern) = []

-- the nodes of lists
abbrev pub nodes_in : {Z : Type 0} → List (Vec (ℕ × ℕ) Z) → List (List (ℕ × ℕ))
nodes_in lists = map (λ list. list.items) lists

-- a node is in the list of a state
abbrev pub IsInList : List (List (ℕ × ℕ)) → ℕ → ℕ × ℕ → Type 0
IsInList lists on q =
    (list : List (ℕ × ℕ)) × (slice_get lists on ≡ Some list) × Contains list q

-- a node was added to the lists of these states
pub record AreTold (from : ℕ × ℕ) (ons : List ℕ) (old new : List (List (ℕ × ℕ))) : Type 0 where
  pub count : length new ≡ length old
  pub others : (on : ℕ) (q : ℕ × ℕ) → IsInList old on q → IsInList new on q
  pub there : (k on : ℕ) → slice_get ons k ≡ Some on → on < length old → IsInList new on from

-- the lists have the transitions that lead to one of the first `count` states
abbrev pub TellEdges : List State → ℕ → List (List (ℕ × ℕ)) → Type 0
TellEdges states count lists = (q k on : ℕ) (x : State) → slice_get states q ≡ Some x
    → slice_get (edges_of x) k ≡ Some on → on < count → IsInList lists on (q, 0)
