-- The search loop finds the least start.
use Rattle.std.proofs.Common.{◌≡◌, ℕ, ◌+◌, ◌≤◌, ◌⊎◌, List, [], ◌∷◌, ◌++◌, Option, Some, None, refl, subst, arith, inl, inr}
use Rattle.std.proofs.lemmas.Bool.{cases_order}
use Rattle.rx_walks.specs.Machines.{Machine, Outcome}
use Rattle.rx_walks.specs.Walks.{HasNoWalk}
use Rattle.rx_walks.specs.Steps.{Thins, Best, none, hit, miss, Steps, either, FindsFrom, nowhere, found, Searches, over, started, stepped}
use Rattle.rx_walks.proofs.WalkLaws.{step_keeps, thinned_best}

best_is : {Q N : Type 0} {m : Machine Q N} {seen : List Q} {i : ℕ} {threads : List (N × Q)} {out out' : Option (Outcome N)} → out ≡ out' → Best m seen i threads out → Best m seen i threads out'
best_is {m = m} {seen = seen} {i = i} {threads = threads} e best = subst (λ x. Best m seen i threads x) e best

-- the best of two lists
split_some : {Q N : Type 0} {m : Machine Q N} {seen : List Q} {i : ℕ} {t : Outcome N} (xs ys : List (N × Q)) → Best m seen i (xs ++ ys) (Some t)
    → Best m seen i xs (Some t) ⊎ (Best m seen i xs None × Best m seen i ys (Some t))
split_some [] ys best = inr (none, best)
split_some (x ∷ xs) ys (hit one) = inl (hit one)
split_some (x ∷ xs) ys (miss never best) = elim (split_some xs ys best) [ inl b ↦ inl (miss never b) | inr b ↦ inr (miss never b.0, b.1) ]

split_none : {Q N : Type 0} {m : Machine Q N} {seen : List Q} {i : ℕ} (xs ys : List (N × Q)) → Best m seen i (xs ++ ys) None → Best m seen i xs None × Best m seen i ys None
split_none [] ys best = (none, best)
split_none (x ∷ xs) ys (miss never best) = let b = split_none xs ys best in (miss never b.0, b.1)

-- one more start
first_place : (i j : ℕ) → i ≤ j → (i ≡ j) ⊎ (i + 1 ≤ j)
first_place i j from = elim (cases_order i j) [ inl e ↦ inl e | inr (inl below) ↦ inr (omega (arith, below)) | inr (inr above) ↦ absurd (omega (arith, above, from)) ]

finds_from : {Q N : Type 0} {m : Machine Q N} {begins : ℕ → Type 0} {fresh : ℕ → N} {q : Q} {i : ℕ} {out : Option (Outcome N)} → (begins i → HasNoWalk m [] (fresh i) q i)
    → FindsFrom m begins fresh q (i + 1) out → FindsFrom m begins fresh q i out
finds_from {m = m} {begins = begins} {fresh = fresh} {q = q} {i = i} never (nowhere all) = nowhere (λ j from b. elim (first_place i j from) [
  | inl e ↦ subst (λ x. begins x → HasNoWalk m [] (fresh x) q x) e never b
  | inr above ↦ all j above b
])
finds_from {m = m} {begins = begins} {fresh = fresh} {q = q} {i = i} never (found j from b one before) = found j (omega (arith, from)) b one (λ k from' below b'. elim (first_place i k from') [
  | inl e ↦ subst (λ x. begins x → HasNoWalk m [] (fresh x) q x) e never b'
  | inr above ↦ before k above below b'
])

-- the result of a search, from its threads, the last match end and the later starts
pub data Answers {Q N : Type 0} (m : Machine Q N) (begins : ℕ → Type 0) (fresh : ℕ → N) (q : Q) (i : ℕ) (live : List (N × Q)) (met : Option (Outcome N)) : Option (Outcome N) → Type 0 where
  by_live : {t : Outcome N} → Best m [] i live (Some t) → Answers m begins fresh q i live met (Some t)
  by_met : {t : Outcome N} → Best m [] i live None → met ≡ Some t → Answers m begins fresh q i live met (Some t)
  by_start : {out : Option (Outcome N)} → Best m [] i live None → met ≡ None → FindsFrom m begins fresh q i out → Answers m begins fresh q i live met out

over_answers : {Q N : Type 0} {m : Machine Q N} {begins : ℕ → Type 0} {fresh : ℕ → N} {q : Q} {i : ℕ} (met : Option (Outcome N)) → (met ≡ None → (j : ℕ) → i ≤ j → begins j → ⊥)
    → Answers m begins fresh q i [] met met
over_answers None empty = by_start none refl (nowhere (λ j from b cs t w. empty refl j from b))
over_answers (Some t) empty = by_met none refl

live_or_start : {Q N : Type 0} {m : Machine Q N} {begins : ℕ → Type 0} {fresh : ℕ → N} {q : Q} {i : ℕ} {t : Outcome N} (live : List (N × Q)) → begins i
    → Best m [] i (live ++ (fresh i, q) ∷ []) (Some t) → Answers m begins fresh q i live None (Some t)
live_or_start {m = m} {begins = begins} {fresh = fresh} {q = q} {i = i} {t = t} live b best = elim (split_some live _ best) [ inl l ↦ by_live l | inr s ↦ begun s.0 s.1 ]
  where
    begun : Best m [] i live None → Best m [] i ((fresh i, q) ∷ []) (Some t) → Answers m begins fresh q i live None (Some t)
    begun l (miss never other) = elim other [ ]
    begun l (hit one) = by_start l refl (found i (omega arith) b one (λ k from below. absurd (omega (arith, from, below))))

start_alone : {Q N : Type 0} {m : Machine Q N} {n : N} {q : Q} {i : ℕ} → Best m [] i ((n, q) ∷ []) None → HasNoWalk m [] n q i
start_alone (miss never best) = never

started_answers : {Q N : Type 0} {m : Machine Q N} {begins : ℕ → Type 0} {fresh : ℕ → N} {q : Q} {i : ℕ} {live next : List (N × Q)} {met out : Option (Outcome N)} → begins i
    → Steps m i [] (live ++ (fresh i, q) ∷ []) next met → Answers m begins fresh q (i + 1) next met out → Answers m begins fresh q i live None out
started_answers {live = live} b steps (by_live best) = live_or_start live b (step_keeps steps best)
started_answers {live = live} b steps (by_met best e) = live_or_start live b (best_is e (step_keeps steps best))
started_answers {live = live} b steps (by_start best e finds) =
    let both = split_none live _ (best_is e (step_keeps steps best)) in
    by_start both.0 refl (finds_from (λ b'. start_alone both.1) finds)

stepped_answers : {Q N : Type 0} {m : Machine Q N} {begins : ℕ → Type 0} {fresh : ℕ → N} {q : Q} {i : ℕ} {live next : List (N × Q)} {out : Option (Outcome N)} (met now : Option (Outcome N))
    → (met ≡ None → begins i → ⊥) → Steps m i [] live next now → Answers m begins fresh q (i + 1) next (either now met) out → Answers m begins fresh q i live met out
stepped_answers met now held steps (by_live best) = by_live (step_keeps steps best)
stepped_answers met (Some t) held steps (by_met best e) = by_live (best_is e (step_keeps steps best))
stepped_answers met None held steps (by_met best e) = by_met (step_keeps steps best) e
stepped_answers met (Some t) held steps (by_start best e finds) = absurd (cc e)
stepped_answers met None held steps (by_start best e finds) = by_start (step_keeps steps best) e (finds_from (λ b. absurd (held e b)) finds)

fuller : {Q N : Type 0} {m : Machine Q N} {begins : ℕ → Type 0} {fresh : ℕ → N} {q : Q} {i : ℕ} {next thin : List (N × Q)} {met out : Option (Outcome N)} → Thins [] next thin
    → Answers m begins fresh q i thin met out → Answers m begins fresh q i next met out
fuller thins (by_live best) = by_live (thinned_best thins best)
fuller thins (by_met best e) = by_met (thinned_best thins best) e
fuller thins (by_start best e finds) = by_start (thinned_best thins best) e finds

pub search_answers : {Q N : Type 0} {m : Machine Q N} {begins : ℕ → Type 0} {fresh : ℕ → N} {q : Q} {i : ℕ} {live : List (N × Q)} {met out : Option (Outcome N)}
    → Searches m begins fresh q i live met out → Answers m begins fresh q i live met out
search_answers (over {met = met} empty) = over_answers met empty
search_answers (started b steps thins rest) = started_answers b steps (fuller thins (search_answers rest))
search_answers (stepped {met = met} {ended = ended'} held steps thins rest) = stepped_answers met ended' held steps (fuller thins (search_answers rest))

-- without threads and a match end at first, the search finds
pub search_finds : {Q N : Type 0} {m : Machine Q N} {begins : ℕ → Type 0} {fresh : ℕ → N} {q : Q} {i : ℕ} {out : Option (Outcome N)} → Searches m begins fresh q i [] None out → FindsFrom m begins fresh q i out
search_finds searches = found_by (search_answers searches)
  where
    none_live : {Q N : Type 0} {m : Machine Q N} {seen : List Q} {i : ℕ} {t : Outcome N} → Best m seen i [] (Some t) → ⊥
    none_live best = elim best [ ]

    found_by : {Q N : Type 0} {m : Machine Q N} {begins : ℕ → Type 0} {fresh : ℕ → N} {q : Q} {i : ℕ} {out : Option (Outcome N)} → Answers m begins fresh q i [] None out → FindsFrom m begins fresh q i out
    found_by (by_live best) = absurd (none_live best)
    found_by (by_met best e) = absurd (cc e)
    found_by (by_start best e finds) = finds
