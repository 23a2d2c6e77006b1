-- The nodes that walks reach, if one may start at every offset.
use Rattle.std.specs.Prelude.{◌≡◌, ℕ, List, Some, slice_get, Contains}
use Rattle.rx_walks.specs.Machines.{Machine, goes, reads}

-- epsilon transitions and reads lead from a node at an offset to a node at an offset
pub data Comes {Q N : Type 0} (m : Machine Q N) (q : Q) (i : ℕ) : Q → ℕ → Type 0 where
  at_once : Comes m q i q i
  on_edge : {r : Q} {j : ℕ} (rs : List Q) (t : Q) (k : ℕ) → Comes m q i r j → m.move j r ≡ goes rs
      → slice_get rs k ≡ Some t → Comes m q i t j
  on_read : {r : Q} {j : ℕ} (t : Q) (k : ℕ) → Comes m q i r j → m.move j r ≡ reads t k
      → Comes m q i t k

-- a walk reaches a node at an offset, from the start node at some offset
pub record Reached {Q N : Type 0} (m : Machine Q N) (start : Q) (i : ℕ) (q : Q) : Type 0 where
  pub from : ℕ
  pub comes : Comes m start from q i

-- a read reaches it
pub record ReadTo {Q N : Type 0} (m : Machine Q N) (start : Q) (i : ℕ) (q : Q) : Type 0 where
  pub before : Q
  pub place : ℕ
  pub reached : Reached m start place before
  pub reading : m.move place before ≡ reads q i

-- epsilon transitions at an offset lead from some of these nodes to a node
pub data IsInClosure {Q N : Type 0} (m : Machine Q N) (i : ℕ) (from : Q → Type 0) : Q → Type 0 where
  among : {q : Q} → from q → IsInClosure m i from q
  onward : {q r : Q} (rs : List Q) (k : ℕ) → IsInClosure m i from q → m.move i q ≡ goes rs
      → slice_get rs k ≡ Some r → IsInClosure m i from r

-- a thread is at a node
abbrev pub ThreadStandsAt : {Q : Type 0} → List (ℕ × Q) → Q → Type 0
ThreadStandsAt threads q = (s : ℕ) × Contains threads (s, q)
