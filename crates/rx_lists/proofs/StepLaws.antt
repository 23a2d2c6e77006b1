-- What is followed of a step of one thread: the first of its threads that leads.
use Rattle.std.proofs.Common.{◌≡◌, ℕ, suc, ◌+◌, ◌⊎◌, List, [], ◌∷◌, ◌++◌, map, Option, Some, slice_get, Contains, refl, subst, inl, inr}
use Rattle.rx_walks.specs.Machines.{Machine, Outcome, goes, reads}
use Rattle.rx_walks.specs.Paths.{at_end, by_edge, by_read}
use Rattle.rx_walks.specs.Steps.{Steps, done, passed, met, opened as opens, read as puts}
use Rattle.rx_walks.specs.Leading.{LeadsToMatch, Follows, nothing, entered, leads_not, matched, opened, read}
use Rattle.rx_walks.proofs.FollowLaws.{leads_on}
use Rattle.rx_walks.proofs.WalkLaws.{Contains-head, Contains-tail, Contains-cases}

-- what the first leading thread of a step is followed to; if none leads, the step's match end
pub data Chosen {Q N : Type 0} (m : Machine Q N) (i : ℕ) : List (N × Q) → Option (Outcome N) → Option (Outcome N) → Type 0 where
  none_leads : {end : Option (Outcome N)} → Chosen m i [] end end
  other_leads : {n : N} {q : Q} {others : List (N × Q)} {end out : Option (Outcome N)} → (LeadsToMatch m q i → ⊥) → Chosen m i others end out → Chosen m i ((n, q) ∷ others) end out
  first_leads : {n : N} {q : Q} {others : List (N × Q)} {end out : Option (Outcome N)} → LeadsToMatch m q i → Follows m i [] ((n, q) ∷ []) out → Chosen m i ((n, q) ∷ others) end out

-- the second threads are the first without some that don't lead
data Drops {Q N : Type 0} (m : Machine Q N) (i : ℕ) : List (N × Q) → List (N × Q) → Type 0 where
  no_more : Drops m i [] []
  kept : {n : N} {q : Q} {xs ys : List (N × Q)} → Drops m i xs ys → Drops m i ((n, q) ∷ xs) ((n, q) ∷ ys)
  dropped : {n : N} {q : Q} {xs ys : List (N × Q)} → (LeadsToMatch m q i → ⊥) → Drops m i xs ys → Drops m i ((n, q) ∷ xs) ys

drops_same : {Q N : Type 0} {m : Machine Q N} {i : ℕ} (n : N) (rs : List Q) {xs ys : List (N × Q)} → Drops m i xs ys → Drops m i (map (λ r. (n, r)) rs ++ xs) (map (λ r. (n, r)) rs ++ ys)
drops_same n [] d = d
drops_same n (r ∷ rs) d = kept (drops_same n rs d)

drops_all : {Q N : Type 0} {m : Machine Q N} {i : ℕ} (n : N) (rs : List Q) {xs ys : List (N × Q)} → ((k : ℕ) (r : Q) → slice_get rs k ≡ Some r → LeadsToMatch m r i → ⊥) → Drops m i xs ys
    → Drops m i (map (λ r. (n, r)) rs ++ xs) ys
drops_all n [] never d = d
drops_all n (r ∷ rs) never d = dropped (never 0 r refl) (drops_all n rs (λ k x at. never (suc k) x at) d)

module _ {Q N : Type 0} (m : Machine Q N) (i : ℕ) (Here : Q → Type 0) (known : (q : Q) → Here q → LeadsToMatch m q i ⊎ (LeadsToMatch m q i → ⊥))
    (stays : (q r : Q) (rs : List Q) (k : ℕ) → Here q → m.move i q ≡ goes rs → slice_get rs k ≡ Some r → Here r) where
  abbrev AreHere : List (N × Q) → Type 0
  AreHere [] = Unit {0}
  AreHere (x ∷ xs) = Here x.1 × AreHere xs

  more_here : (n : N) (rs : List Q) (xs : List (N × Q)) → ((k : ℕ) (r : Q) → slice_get rs k ≡ Some r → Here r) → AreHere xs → AreHere (map (λ r. (n, r)) rs ++ xs)
  more_here n [] xs all here = here
  more_here n (r ∷ rs) xs all here = (all 0 r refl, more_here n rs xs (λ k x at. all (suc k) x at) here)

  -- seen by the step, and seen by what is followed: all but nodes that don't lead
  abbrev Covers : List Q → List Q → Type 0
  Covers seen others = (x : Q) → Contains seen x → Contains others x ⊎ (LeadsToMatch m x i → ⊥)

  abbrev IsPart : List Q → List Q → Type 0
  IsPart others seen = (x : Q) → Contains others x → Contains seen x

  both_more : (seen others : List Q) (q : Q) → IsPart others seen → IsPart (q ∷ others) (q ∷ seen)
  both_more seen others q part x c = elim (Contains-cases others q x c) [ inl e ↦ Contains-head seen q x e | inr c' ↦ Contains-tail seen q x (part x c') ]

  one_more : (seen others : List Q) (q : Q) → IsPart others seen → IsPart others (q ∷ seen)
  one_more seen others q part x c = Contains-tail seen q x (part x c)

  covers_both : (seen others : List Q) (q : Q) → Covers seen others → Covers (q ∷ seen) (q ∷ others)
  covers_both seen others q covers x c = elim (Contains-cases seen q x c) [
    | inl e ↦ inl (Contains-head others q x e)
    | inr c' ↦ elim (covers x c') [ inl c'' ↦ inl (Contains-tail others q x c'') | inr never ↦ inr never ]
  ]

  covers_never : (seen others : List Q) (q : Q) → (LeadsToMatch m q i → ⊥) → Covers seen others → Covers (q ∷ seen) others
  covers_never seen others q never covers x c = elim (Contains-cases seen q x c) [
    | inl e ↦ inr (subst (λ y. LeadsToMatch m y i → ⊥) e never)
    | inr c' ↦ covers x c'
  ]

  edges_never : (q : Q) (rs : List Q) → m.move i q ≡ goes rs → (LeadsToMatch m q i → ⊥) → (k : ℕ) (r : Q) → slice_get rs k ≡ Some r → LeadsToMatch m r i → ⊥
  edges_never q rs is never k r at leads = never (record { pattern = leads.pattern; end = leads.end; path = by_edge rs r k is at leads.path })

  read_never : (q r : Q) → m.move i q ≡ reads r (i + 1) → (LeadsToMatch m q i → ⊥) → LeadsToMatch m r (i + 1) → ⊥
  read_never q r is never leads = never (record { pattern = leads.pattern; end = leads.end; path = by_read r (i + 1) is leads.path })

  not_first : {n : N} {r : Q} {others : List (N × Q)} {end out : Option (Outcome N)} → (LeadsToMatch m r (i + 1) → ⊥) → Chosen m (i + 1) ((n, r) ∷ others) end out → Chosen m (i + 1) others end out
  not_first never (other_leads never' chosen) = chosen
  not_first never (first_leads leads follows) = absurd (never leads)

  is_first : {n : N} {r : Q} {others : List (N × Q)} {end out : Option (Outcome N)} → LeadsToMatch m r (i + 1) → Chosen m (i + 1) ((n, r) ∷ others) end out → Follows m (i + 1) [] ((n, r) ∷ []) out
  is_first leads (other_leads never chosen) = absurd (never leads)
  is_first leads (first_leads leads' follows) = follows

  step_follows : {seen seen' : List Q} {stack stack' next : List (N × Q)} {end out : Option (Outcome N)} → Steps m i seen stack next end → Drops m i stack stack' → IsPart seen' seen → Covers seen seen' → AreHere stack
      → Chosen m (i + 1) next end out → Follows m i seen' stack' out
  step_follows done no_more part covers here none_leads = nothing
  step_follows (passed {q = q} c on) (kept d) part covers here chosen = elim (covers q c) [
    | inl c' ↦ entered c' (step_follows on d part covers here.1 chosen)
    | inr never ↦ leads_not never (step_follows on d part covers here.1 chosen)
  ]
  step_follows (passed c on) (dropped never d) part covers here chosen = step_follows on d part covers here.1 chosen
  step_follows (met {q = q} new is) (kept d) part covers here none_leads = matched (λ c. new (part q c)) is
  step_follows (met {p = p} new is) (dropped never d) part covers here chosen = absurd (never (record { pattern = p; end = i; path = at_end is }))
  step_follows {seen = seen} {seen' = seen'} (opens {n = n} {q = q} {others = others} rs new is on) (kept d) part covers here chosen = elim (known q here.0) [
    | inl leads ↦ opened rs (λ c. new (part q c)) leads is
        (step_follows on (drops_same (m.note i q n) rs d) (both_more seen seen' q part) (covers_both seen seen' q covers) (more_here (m.note i q n) rs others (λ k r at. stays q r rs k here.0 is at) here.1) chosen)
    | inr never ↦ leads_not never
        (step_follows on (drops_all (m.note i q n) rs (edges_never q rs is never) d) (one_more seen seen' q part) (covers_never seen seen' q never covers) (more_here (m.note i q n) rs others (λ k r at. stays q r rs k here.0 is at) here.1) chosen)
  ]
  step_follows {seen = seen} {seen' = seen'} (opens {n = n} {q = q} {others = others} rs new is on) (dropped never d) part covers here chosen =
      step_follows on (drops_all (m.note i q n) rs (edges_never q rs is never) d) (one_more seen seen' q part) (covers_never seen seen' q never covers) (more_here (m.note i q n) rs others (λ k r at. stays q r rs k here.0 is at) here.1) chosen
  step_follows {seen = seen} {seen' = seen'} (puts {q = q} r new is on) (kept d) part covers here chosen = elim (known q here.0) [
    | inl leads ↦ read r (λ c. new (part q c)) leads is (is_first (leads_on is leads) chosen)
    | inr never ↦ leads_not never (step_follows on d (one_more seen seen' q part) (covers_never seen seen' q never covers) here.1 (not_first (read_never q r is never) chosen))
  ]
  step_follows {seen = seen} {seen' = seen'} (puts {q = q} r new is on) (dropped never d) part covers here chosen =
      step_follows on d (one_more seen seen' q part) (covers_never seen seen' q never covers) here.1 (not_first (read_never q r is never) chosen)

  -- for a single thread
  pub thread_follows : (n : N) (q : Q) (next : List (N × Q)) (end out : Option (Outcome N)) → Here q → Steps m i [] ((n, q) ∷ []) next end → Chosen m (i + 1) next end out → Follows m i [] ((n, q) ∷ []) out
  thread_follows n q next end out here steps chosen = step_follows steps (kept no_more) (λ x c. c) (λ x c. inl c) (here, tt) chosen
