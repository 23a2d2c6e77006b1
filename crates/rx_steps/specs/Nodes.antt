-- The nodes of a program: its states, each with the states of its automaton, if it has one.
use Rattle.std.specs.Prelude.{◌≡◌, ℕ, zero, suc, ◌+◌, ◌-◌, nat_lt, Bool, true, false, ◌++◌, Contains, IsTrue, ◌↔◌, List, [], ◌∷◌, length, map, cond, Option, Some, None, slice_get}
use Rattle.rx_program.specs.declared.states.State.{State}
use Rattle.rx_program.specs.declared.states.State.TheVariants as state
use Rattle.rx_program.specs.Programs.{ByteProgram}

-- the number of nodes of a state
abbrev pub width_of : State → ℕ
width_of (state.Ranges automaton next) = length automaton.value.rows
width_of _ = 1

abbrev pub widths_of : ByteProgram → List ℕ
widths_of p = map width_of p.states

-- the index of a node among all nodes, counted from `first`, by the number of nodes of each state
abbrev pub index_from : ℕ → List ℕ → ℕ → ℕ → Option ℕ
index_from first [] q s = None
index_from first (n ∷ widths) zero s = cond (nat_lt s n) (Some (first + s)) None
index_from first (n ∷ widths) (suc q) s = index_from (first + n) widths q s

-- the index of each state's first node, and the number of all nodes
abbrev pub node_starts : ℕ → List ℕ → List ℕ
node_starts first [] = first ∷ []
node_starts first (n ∷ widths) = first ∷ node_starts (first + n) widths

abbrev pub end_from : ℕ → List ℕ → ℕ
end_from first [] = first
end_from first (n ∷ widths) = end_from (first + n) widths

-- a state without an automaton is a single node
abbrev pub MayStand : Option State → ℕ → Type 0
MayStand (Some (state.Ranges automaton next)) s = Unit {0}
MayStand _ s = s ≡ 0

abbrev pub IsNodeIn : List State → ℕ × ℕ → Type 0
IsNodeIn states q = MayStand (slice_get states q.0) q.1

-- the number of nodes of each state, from the indices of the first ones
abbrev pub widths_in : List ℕ → List ℕ
widths_in [] = []
widths_in (first ∷ []) = []
widths_in (first ∷ second ∷ starts) = (second - first) ∷ widths_in (second ∷ starts)

-- the number of nodes of a program
abbrev pub node_count : ByteProgram → ℕ
node_count p = end_from 0 (widths_of p)

-- the number of nodes of each state, the indices of the nodes that were seen, and the number of
-- nodes that were followed
pub record SeenNodes : Type 0 where
  pub widths : List ℕ
  pub ids : List ℕ
  pub followed : ℕ

-- as many nodes were followed as were added to those seen
abbrev pub AreCounted : SeenNodes → SeenNodes → Type 0
AreCounted before after = after.followed + length before.ids ≡ before.followed + length after.ids

-- a node's index is added to a set, if it has one that isn't in the set; the flag reports that
abbrev pub IsInserted : Option ℕ → Bool → List ℕ → List ℕ → Type 0
IsInserted None is_new ids ids' = (is_new ≡ false) × (ids' ≡ ids)
IsInserted (Some k) true ids ids' = (Contains ids k → ⊥) × (ids' ≡ ids ++ k ∷ [])
IsInserted (Some k) false ids ids' = Contains ids k × (ids' ≡ ids)

-- whether a node is in a set, by its index; one without an index isn't
abbrev pub IsMember : Option ℕ → Bool → List ℕ → Type 0
IsMember None is_seen ids = is_seen ≡ false
IsMember (Some k) is_seen ids = IsTrue is_seen ↔ Contains ids k
