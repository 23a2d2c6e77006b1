-- Nodes that lead to a match, and the walk over them.
use Rattle.std.specs.Prelude.{◌≡◌, ℕ, ◌+◌, List, [], ◌∷◌, ◌++◌, map, Option, Some, None, slice_get, Contains}
use Rattle.rx_walks.specs.Machines.{Machine, Outcome, ends, goes, reads}
use Rattle.rx_walks.specs.Walks.{IsNew}
use Rattle.rx_walks.specs.Paths.{Path}

-- some path from a node at an offset reaches a match end
pub record LeadsToMatch {Q N : Type 0} (m : Machine Q N) (q : Q) (i : ℕ) : Type 0 where
  pub pattern : ℕ
  pub end : ℕ
  pub path : Path m q i pattern end

-- What threads at an offset find, without the nodes entered there: depth first, in order of
-- preference, skipping nodes that were entered and nodes that don't lead. The first that matches is
-- the end; the first that reads is followed, and all other threads are dropped.
pub data Follows {Q N : Type 0} (m : Machine Q N) : ℕ → List Q → List (N × Q) → Option (Outcome N)
    → Type 0 where
  nothing : {i : ℕ} {seen : List Q} → Follows m i seen [] None
  entered : {i : ℕ} {seen : List Q} {n : N} {q : Q} {others : List (N × Q)}
      {out : Option (Outcome N)} → Contains seen q
      → Follows m i seen others out → Follows m i seen ((n, q) ∷ others) out
  leads_not : {i : ℕ} {seen : List Q} {n : N} {q : Q} {others : List (N × Q)}
      {out : Option (Outcome N)} → (LeadsToMatch m q i → ⊥)
      → Follows m i seen others out → Follows m i seen ((n, q) ∷ others) out
  matched : {i p : ℕ} {seen : List Q} {n : N} {q : Q} {others : List (N × Q)} → IsNew seen q
      → m.move i q ≡ ends p
      → Follows m i seen ((n, q) ∷ others) (Some (record { pattern = p; end = i; notes = n }))
  opened : {i : ℕ} {seen : List Q} {n : N} {q : Q} {others : List (N × Q)}
      {out : Option (Outcome N)} (rs : List Q)
      → IsNew seen q → LeadsToMatch m q i → m.move i q ≡ goes rs
      → Follows m i (q ∷ seen) (map (λ r. (m.note i q n, r)) rs ++ others) out
      → Follows m i seen ((n, q) ∷ others) out
  read : {i j : ℕ} {seen : List Q} {n : N} {q : Q} {others : List (N × Q)}
      {out : Option (Outcome N)} (r : Q)
      → IsNew seen q → LeadsToMatch m q i → m.move i q ≡ reads r j
      → Follows m j [] ((n, r) ∷ []) out → Follows m i seen ((n, q) ∷ others) out

-- a node leads at an offset because of nodes that lead at the next one
pub data LeadsBy {Q N : Type 0} (m : Machine Q N) (i : ℕ) (beyond : Q → Type 0) : Q → Type 0 where
  match_ends : {q : Q} {p : ℕ} → m.move i q ≡ ends p → LeadsBy m i beyond q
  edge_leads : {q : Q} (rs : List Q) (r : Q) (k : ℕ) → m.move i q ≡ goes rs → slice_get rs k ≡ Some r
      → LeadsBy m i beyond r → LeadsBy m i beyond q
  read_leads : {q : Q} (r : Q) → m.move i q ≡ reads r (i + 1) → beyond r → LeadsBy m i beyond q
