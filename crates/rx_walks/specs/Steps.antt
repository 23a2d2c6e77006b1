-- How an engine follows walks: offset by offset, with ordered threads.
use Rattle.std.specs.Prelude.{◌≡◌, ℕ, ◌+◌, ◌<◌, ◌≤◌, List, [], ◌∷◌, ◌++◌, map, Option, Some, None, Contains}
use Rattle.rx_walks.specs.Machines.{Machine, Outcome, ends, goes, reads}
use Rattle.rx_walks.specs.Walks.{IsNew, IsLeast, HasNoWalk}

-- of threads at an offset, each a node with its notes: the least walk of the first one that has a
-- walk
pub data Best {Q N : Type 0} (m : Machine Q N) (seen : List Q) (i : ℕ) : List (N × Q)
    → Option (Outcome N) → Type 0 where
  none : Best m seen i [] None
  hit : {n : N} {q : Q} {t : Outcome N} {others : List (N × Q)} → IsLeast m seen n q i t
      → Best m seen i ((n, q) ∷ others) (Some t)
  miss : {n : N} {q : Q} {out : Option (Outcome N)} {others : List (N × Q)} → HasNoWalk m seen n q i
      → Best m seen i others out → Best m seen i ((n, q) ∷ others) out

-- One step: threads at an offset, without the nodes seen there, give the threads at the next
-- offset, in order, up to the first match end. Epsilon transitions are followed depth first, with
-- one list of seen nodes for all threads.
pub data Steps {Q N : Type 0} (m : Machine Q N) (i : ℕ) : List Q → List (N × Q) → List (N × Q)
    → Option (Outcome N) → Type 0 where
  done : {seen : List Q} → Steps m i seen [] [] None
  passed : {seen : List Q} {n : N} {q : Q} {others next : List (N × Q)} {met : Option (Outcome N)}
      → Contains seen q
      → Steps m i seen others next met → Steps m i seen ((n, q) ∷ others) next met
  met : {seen : List Q} {n : N} {q : Q} {p : ℕ} {others : List (N × Q)} → IsNew seen q
      → m.move i q ≡ ends p
      → Steps m i seen ((n, q) ∷ others) [] (Some (record { pattern = p; end = i; notes = n }))
  opened : {seen : List Q} {n : N} {q : Q} {others next : List (N × Q)} {met : Option (Outcome N)}
      (rs : List Q)
      → IsNew seen q → m.move i q ≡ goes rs
      → Steps m i (q ∷ seen) (map (λ r. (m.note i q n, r)) rs ++ others) next met
      → Steps m i seen ((n, q) ∷ others) next met
  read : {seen : List Q} {n : N} {q : Q} {others next : List (N × Q)} {met : Option (Outcome N)}
      (r : Q)
      → IsNew seen q → m.move i q ≡ reads r (i + 1)
      → Steps m i (q ∷ seen) others next met → Steps m i seen ((n, q) ∷ others) ((n, r) ∷ next) met

-- a step that is under way: the nodes seen, the threads that are left, and those for the next
-- offset
abbrev pub StepsSoFar : {Q N : Type 0} → Machine Q N → ℕ → List (N × Q) → List Q → List (N × Q)
    → List (N × Q) → Type 0
StepsSoFar {Q} {N} m i threads seen stack out =
    (next : List (N × Q)) (met : Option (Outcome N)) → Steps m i seen stack next met
    → Steps m i [] threads (out ++ next) met

-- the same threads without some at a node of an earlier one
pub data Thins {Q N : Type 0} : List Q → List (N × Q) → List (N × Q) → Type 0 where
  thin_end : {seen : List Q} → Thins seen [] []
  kept : {seen : List Q} {n : N} {q : Q} {xs ys : List (N × Q)} → Thins (q ∷ seen) xs ys
      → Thins seen ((n, q) ∷ xs) ((n, q) ∷ ys)
  left_out : {seen : List Q} {n : N} {q : Q} {xs ys : List (N × Q)} → Contains seen q
      → Thins seen xs ys
      → Thins seen ((n, q) ∷ xs) ys

-- the first outcome, or else the second
abbrev pub either : {A : Type 0} → Option A → Option A → Option A
either None second = second
either (Some x) second = Some x

-- of the offsets from i on at which a match may begin: the least walk of the first one that has a
-- walk
pub data FindsFrom {Q N : Type 0} (m : Machine Q N) (begins : ℕ → Type 0) (fresh : ℕ → N) (q : Q)
    (i : ℕ) : Option (Outcome N) → Type 0 where
  nowhere : ((j : ℕ) → i ≤ j → begins j → HasNoWalk m [] (fresh j) q j)
      → FindsFrom m begins fresh q i None
  found : {t : Outcome N} (j : ℕ) → i ≤ j → begins j → IsLeast m [] (fresh j) q j t
      → ((k : ℕ) → i ≤ k → k < j → begins k → HasNoWalk m [] (fresh k) q k)
      → FindsFrom m begins fresh q i (Some t)

-- the search loop, with the current threads and the last match end: without one, each offset at
-- which a match may begin adds a thread after the others
pub data Searches {Q N : Type 0} (m : Machine Q N) (begins : ℕ → Type 0) (fresh : ℕ → N) (q : Q) : ℕ
    → List (N × Q) → Option (Outcome N) → Option (Outcome N) → Type 0 where
  over : {i : ℕ} {met : Option (Outcome N)} → (met ≡ None → (j : ℕ) → i ≤ j → begins j → ⊥)
      → Searches m begins fresh q i [] met met
  started : {i : ℕ} {live next thin : List (N × Q)} {ended out : Option (Outcome N)} → begins i
      → Steps m i [] (live ++ (fresh i, q) ∷ []) next ended → Thins [] next thin
      → Searches m begins fresh q (i + 1) thin ended out → Searches m begins fresh q i live None out
  stepped : {i : ℕ} {live next thin : List (N × Q)} {met ended out : Option (Outcome N)}
      → (met ≡ None → begins i → ⊥)
      → Steps m i [] live next ended → Thins [] next thin
      → Searches m begins fresh q (i + 1) thin (either ended met) out
      → Searches m begins fresh q i live met out
