-- Paths, which may take a pair of node and offset twice.
use Rattle.std.specs.Prelude.{◌≡◌, ℕ, List, [], ◌∷◌, Some, slice_get, Contains}
use Rattle.rx_walks.specs.Machines.{Machine, Outcome, ends, goes, reads}

-- a path from a node at an offset to the end of a match of a pattern
pub data Path {Q N : Type 0} (m : Machine Q N) : Q → ℕ → ℕ → ℕ → Type 0 where
  at_end : {q : Q} {i p : ℕ} → m.move i q ≡ ends p → Path m q i p i
  by_edge : {q : Q} {i p e : ℕ} (rs : List Q) (r : Q) (k : ℕ) → m.move i q ≡ goes rs
      → slice_get rs k ≡ Some r
      → Path m r i p e → Path m q i p e
  by_read : {q : Q} {i p e : ℕ} (r : Q) (j : ℕ) → m.move i q ≡ reads r j → Path m r j p e
      → Path m q i p e

-- a path with its choices of epsilon transitions, the pairs of node and offset that it takes, and
-- its outcome
pub data PathThrough {Q N : Type 0} (m : Machine Q N) : N → Q → ℕ → List ℕ → List (Q × ℕ)
    → Outcome N → Type 0 where
  through_end : {n : N} {q : Q} {i p : ℕ} → m.move i q ≡ ends p
      → PathThrough m n q i [] ((q, i) ∷ []) (record { pattern = p; end = i; notes = n })
  through_edge : {n : N} {q : Q} {i k : ℕ} {cs : List ℕ} {pairs : List (Q × ℕ)} {t : Outcome N}
      (rs : List Q) (r : Q)
      → m.move i q ≡ goes rs → slice_get rs k ≡ Some r
      → PathThrough m (m.note i q n) r i cs pairs t
      → PathThrough m n q i (k ∷ cs) ((q, i) ∷ pairs) t
  through_read : {n : N} {q : Q} {i : ℕ} {cs : List ℕ} {pairs : List (Q × ℕ)} {t : Outcome N}
      (r : Q) (j : ℕ)
      → m.move i q ≡ reads r j → PathThrough m n r j cs pairs t
      → PathThrough m n q i cs ((q, i) ∷ pairs) t

-- the elements are distinct
abbrev pub HasNoRepeat : {X : Type 0} → List X → Type 0
HasNoRepeat [] = Unit {0}
HasNoRepeat (x ∷ xs) = (Contains xs x → ⊥) × HasNoRepeat xs
