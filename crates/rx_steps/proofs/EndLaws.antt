-- The best of the match ends at an offset.
use Rattle.std.proofs.Common.{inl, inr, ◌≡◌, ◌⊎◌, ℕ, zero, suc, ◌+◌, ◌<◌, List, [], ◌∷◌, ◌++◌, length, take, Option, Some, None, slice_get, IsSomeAnd, refl, ap, ◌∙◌, arith}
use Rattle.std.proofs.lemmas.List.{append_assoc}
use Rattle.rx_walks.specs.StepsAll.{Met, met_first, met_other}
use Rattle.rx_steps.specs.declared.started.MetEnd.{MetEnd}
use Rattle.rx_steps.specs.Threads.{Thread}
use Rattle.rx_steps.specs.ListsAll.{Started, IsBestMet, IsNoWorse, end_met_by, ended_from, nodes_of, started_at}

abbrev Ends : Type 0
Ends = List (ℕ × ℕ)

pub met_left : (xs ys : Ends) (s k : ℕ) → Met s k xs → Met s k (xs ++ ys)
met_left [] ys s k m = elim m [ ]
met_left (x ∷ xs) ys s k (met_first e f) = met_first e f
met_left (x ∷ xs) ys s k (met_other m) = met_other (met_left xs ys s k m)

pub met_right : (xs ys : Ends) (s k : ℕ) → Met s k ys → Met s k (xs ++ ys)
met_right [] ys s k m = m
met_right ((s', k') ∷ xs) ys s k m = met_other (met_right xs ys s k m)

pub met_either : (xs ys : Ends) (s k : ℕ) → Met s k (xs ++ ys) → Met s k xs ⊎ Met s k ys
met_either [] ys s k m = inr m
met_either (x ∷ xs) ys s k (met_first e f) = inl (met_first e f)
met_either (x ∷ xs) ys s k (met_other m) = elim (met_either xs ys s k m) [ inl a ↦ inl (met_other a) | inr b ↦ inr b ]

none_in : (s k : ℕ) → Met s k [] → ⊥
none_in s k m = elim m [ ]

-- one that is no worse than a second is no worse than a third that the second is no worse than
still_no_worse : (a b c : MetEnd) → IsNoWorse a b → IsNoWorse b c → IsNoWorse a c
still_no_worse a b c ab bc = record {
  by_start = omega (arith, ab.by_start, bc.by_start);
  by_pattern = λ e.
      let f : a.start ≡ b.start = omega (arith, e, ab.by_start, bc.by_start) in
      let g : b.start ≡ c.start = omega (arith, e, f) in
      omega (arith, ab.by_pattern f, bc.by_pattern g);
}

pub only_first : (xs ys : Ends) (best : Option MetEnd) → IsBestMet xs best → IsBestMet ys None → IsBestMet (xs ++ ys) best
only_first xs ys None one other = λ s k m. elim (met_either xs ys s k m) [ inl a ↦ one s k a | inr b ↦ other s k b ]
only_first xs ys (Some a) one other = (met_left xs ys a.start a.pattern one.0, λ s k m. elim (met_either xs ys s k m) [ inl x ↦ one.1 s k x | inr y ↦ absurd (other s k y) ])

pub only_second : (xs ys : Ends) (best : Option MetEnd) → IsBestMet xs None → IsBestMet ys best → IsBestMet (xs ++ ys) best
only_second xs ys None one other = λ s k m. elim (met_either xs ys s k m) [ inl a ↦ one s k a | inr b ↦ other s k b ]
only_second xs ys (Some a) one other = (met_right xs ys a.start a.pattern other.0, λ s k m. elim (met_either xs ys s k m) [ inl x ↦ absurd (one s k x) | inr y ↦ other.1 s k y ])

pub first_best : (xs ys : Ends) (a b : MetEnd) → IsBestMet xs (Some a) → IsBestMet ys (Some b) → IsNoWorse a b → IsBestMet (xs ++ ys) (Some a)
first_best xs ys a b one other is = (
  met_left xs ys a.start a.pattern one.0,
  λ s k m. elim (met_either xs ys s k m) [
    | inl x ↦ one.1 s k x
    | inr y ↦ still_no_worse a b (record { start = s; pattern = k }) is (other.1 s k y)
  ],
)

pub second_best : (xs ys : Ends) (a b : MetEnd) → IsBestMet xs (Some a) → IsBestMet ys (Some b) → IsNoWorse b a → IsBestMet (xs ++ ys) (Some b)
second_best xs ys a b one other is = (
  met_right xs ys b.start b.pattern other.0,
  λ s k m. elim (met_either xs ys s k m) [
    | inl x ↦ still_no_worse b a (record { start = s; pattern = k }) is (one.1 s k x)
    | inr y ↦ other.1 s k y
  ],
)

-- none, and one
pub none_met : IsBestMet [] None
none_met = none_in

pub one_met : (start k : ℕ) → IsBestMet (ended_from start (k ∷ [])) (end_met_by start (Some k))
one_met start k = (met_first refl refl, λ s k' m. only m)
  where
    only : {s k' : ℕ} → Met s k' ((start, k) ∷ []) → IsNoWorse (record { start = start; pattern = k }) (record { start = s; pattern = k' })
    only (met_first e f) = record { by_start = omega (arith, e); by_pattern = λ g. omega (arith, f) }
    only {s = s} {k' = k'} (met_other m) = absurd (none_in s k' m)

-- ---- threads that are added one by one

one_more_started : (s : ℕ) (xs : List Thread) (n : ℕ) (q : ℕ × ℕ) → n < length xs → IsSomeAnd (slice_get xs n) (λ t. q ≡ t.1) → started_at s (nodes_of (take n xs)) ++ (s, q) ∷ [] ≡ started_at s (nodes_of (take (suc n) xs))
one_more_started s [] n q lt here = absurd (omega (arith, lt))
one_more_started s (x ∷ xs) zero q lt here = ap (λ r. (s, r) ∷ []) here
one_more_started s (x ∷ xs) (suc n) q lt here = ap (λ zs. (s, x.1) ∷ zs) (one_more_started s xs n q (omega (arith, lt)) here)

started_more : (s : ℕ) (before : List Started) (xs : List Thread) (n : ℕ) (q : ℕ × ℕ) → n < length xs → IsSomeAnd (slice_get xs n) (λ t. q ≡ t.1)
    → (before ++ started_at s (nodes_of (take n xs))) ++ (s, q) ∷ [] ≡ before ++ started_at s (nodes_of (take (n + 1) xs))
started_more s before xs n q lt here =
    let more : suc n ≡ n + 1 = omega arith in
    append_assoc before (started_at s (nodes_of (take n xs))) ((s, q) ∷ []) ∙ ap (λ zs. before ++ zs) (one_more_started s xs n q lt here) ∙ ap (λ k. before ++ started_at s (nodes_of (take k xs))) more

pub pushed_more : (s : ℕ) (before old new : List Started) (x : Started) (xs : List Thread) (n : ℕ) (q : ℕ × ℕ) → new ≡ old ++ x ∷ [] → x ≡ (s, q) → old ≡ before ++ started_at s (nodes_of (take n xs)) → n < length xs → IsSomeAnd (slice_get xs n) (λ t. q ≡ t.1)
    → new ≡ before ++ started_at s (nodes_of (take (n + 1) xs))
pushed_more s before old new x xs n q e f g within here =
    e ∙ ap (λ y. old ++ y ∷ []) f ∙ ap (λ ys. ys ++ (s, q) ∷ []) g ∙ started_more s before xs n q within here
