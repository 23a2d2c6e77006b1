-- Threads without slots.
use Rattle.std.proofs.Common.{◌≡◌, ℕ, zero, suc, ◌+◌, ◌<◌, ◌≤◌, List, [], ◌∷◌, ◌++◌, length, take, get_or, Option, Some, None, slice_get, IsSomeAnd, refl, sym, ap, ap₂, subst, ◌∙◌, arith}
use Rattle.std.proofs.lemmas.List.{append_assoc, append-nil}
use Rattle.std.proofs.lemmas.Option.{slice_get-get_or}
use Rattle.rx_steps.specs.Threads.{Thread}
use Rattle.rx_steps.specs.Alike.{AreBare}
use Rattle.rx_dfa.specs.States.{started}

pub bare_append : (threads others : List Thread) → AreBare threads → AreBare others → AreBare (threads ++ others)
bare_append [] others bare bare' = bare'
bare_append (t ∷ threads) others bare bare' = (bare.0, bare_append threads others bare.1 bare')

pub started_bare : (o : Option ℕ) → AreBare (started o)
started_bare None = tt
started_bare (Some q) = (refl, tt)

bare_at : (threads : List Thread) (i : ℕ) (x : Thread) → AreBare threads → i < length threads → (get_or threads i x).0 ≡ []
bare_at [] i x bare lt = absurd (omega (arith, lt))
bare_at (t ∷ threads) zero x bare lt = bare.0
bare_at (t ∷ threads) (suc i) x bare lt = bare_at threads i x bare.1 (omega (arith, lt))

-- one more of the first threads
take_one : (threads others : List Thread) (i : ℕ) (x : Thread) → i < length threads → take i threads ++ get_or threads i x ∷ others ≡ take (suc i) threads ++ others
take_one [] others i x lt = absurd (omega (arith, lt))
take_one (t ∷ threads) others zero x lt = refl
take_one (t ∷ threads) others (suc i) x lt = ap (λ xs. t ∷ xs) (take_one threads others i x (omega (arith, lt)))

pub thread_is : (threads : List Thread) (i : ℕ) (x : Thread) (q : ℕ × ℕ) → AreBare threads → i < length threads → q ≡ (get_or threads i x).1 → get_or threads i x ≡ ([], q)
thread_is threads i x q bare lt e = whole (get_or threads i x) (bare_at threads i x bare lt) e
  where
    whole : (t : Thread) → t.0 ≡ [] → q ≡ t.1 → t ≡ ([], q)
    whole (n, r) f g = ap (λ k. (k, r)) f ∙ ap (λ s. ([], s)) (sym g)

-- one more thread is added
pub push_one : (threads others all : List Thread) (i : ℕ) (q : ℕ × ℕ) → AreBare others → i < length others → IsSomeAnd (slice_get others i) (λ t. q ≡ t.1) → threads ≡ all ++ take i others
    → threads ++ ([], q) ∷ [] ≡ all ++ take (i + 1) others
push_one threads others all i q bare lt is e =
    let x : Thread = ([], q) in
    let at : q ≡ (get_or others i x).1 = subst (λ o. IsSomeAnd o (λ t. q ≡ t.1)) (slice_get-get_or others i x lt) is in
    let here : get_or others i x ≡ x = thread_is others i x q bare lt at in
    let more : suc i ≡ i + 1 = omega arith in
    let front : take i others ++ x ∷ [] ≡ take (i + 1) others = ap (λ t. take i others ++ t ∷ []) (sym here) ∙ take_one others [] i x lt ∙ append-nil (take (suc i) others) ∙ ap (λ j. take j others) more in
    ap (λ xs. xs ++ x ∷ []) e ∙ append_assoc all (take i others) (x ∷ []) ∙ ap (λ xs. all ++ xs) front

-- the first `n` threads have the same nodes
abbrev pub SameUpTo : List Thread → List Thread → ℕ → Type 0
SameUpTo threads others n = (k : ℕ) (x : Thread) → k < n → (get_or threads k x).1 ≡ (get_or others k x).1

pub same_bare : (threads others : List Thread) → AreBare threads → AreBare others → length threads ≡ length others → SameUpTo threads others (length threads) → threads ≡ others
same_bare [] [] bare bare' e same = refl
same_bare [] (u ∷ others) bare bare' e same = absurd (omega (arith, e))
same_bare (t ∷ threads) [] bare bare' e same = absurd (omega (arith, e))
same_bare (t ∷ threads) (u ∷ others) bare bare' e same =
    ap₂ (λ x xs. x ∷ xs) (one t u bare.0 bare'.0 (same 0 t (omega arith))) (same_bare threads others bare.1 bare'.1 (omega (arith, e)) (λ k x lt. same (suc k) x (omega (arith, lt))))
  where
    one : (t u : Thread) → t.0 ≡ [] → u.0 ≡ [] → t.1 ≡ u.1 → t ≡ u
    one (n, q) (m, r) f g h = ap (λ k. (k, q)) (f ∙ sym g) ∙ ap (λ s. (m, s)) h

pub same_before : (threads others : List Thread) (n m : ℕ) → m ≤ n → SameUpTo threads others n → SameUpTo threads others m
same_before threads others n m le same k x lt = same k x (omega (arith, le, lt))

-- lists with different nodes at an index differ
pub differ_at : (threads others : List Thread) (i : ℕ) (q r : ℕ × ℕ) → IsSomeAnd (slice_get threads i) (λ t. q ≡ t.1) → IsSomeAnd (slice_get others i) (λ t. r ≡ t.1) → (q ≡ r → ⊥) → threads ≡ others → ⊥
differ_at threads others i q r is is' other e = apart (slice_get others i) (subst (λ xs. IsSomeAnd (slice_get xs i) (λ t. q ≡ t.1)) e is) is'
  where
    apart : (o : Option Thread) → IsSomeAnd o (λ t. q ≡ t.1) → IsSomeAnd o (λ t. r ≡ t.1) → ⊥
    apart None here there = here
    apart (Some t) here there = other (here ∙ sym there)
