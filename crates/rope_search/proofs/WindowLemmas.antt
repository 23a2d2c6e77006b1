-- The part of a list between two places, in two parts of which the first is in the list's front.
use Rattle.std.proofs.Common.{◌≡◌, ℕ, ◌+◌, ◌-◌, ◌<◌, ◌≤◌, min, max, List, [], ◌∷◌, ◌++◌, length, take, drop, inl, inr, refl, sym, ap, ◌∙◌, arith, append-nil, length-take}
use Rattle.std.proofs.Math.Seq.{take-add}
use Rattle.std.proofs.lemmas.Bool.{cases_lt}
use Rattle.std.proofs.lemmas.List.{drop-drop, drop-take, drop_all, length-drop, take-take, take_all}

-- nothing is between a place and itself, or one before it
none-taken : {A : Type 0} (n : ℕ) (l : List A) → n ≡ 0 → take n l ≡ []
none-taken n l is = ap (λ k. take k l) is

none-left : {A : Type 0} (n k : ℕ) (l : List A) → length l ≤ n → take k (drop n l) ≡ []
none-left n k l few = ap (take k) (drop_all n l few) ∙ take_all k [] (omega arith)

-- what is between two places, of which the second may be past the end
clipped : {A : Type 0} (from to end : ℕ) (l : List A) → end ≡ min to (length l) → take (end - from) (drop from l) ≡ take (to - from) (drop from l)
clipped from to end l is = elim (cases_lt to (length l)) [
  | inl inside ↦ ap (λ k. take (k - from) (drop from l)) (omega (arith, is, inside))
  | inr past ↦
      take_all (end - from) (drop from l) (omega (arith, is, past, length-drop from l))
      ∙ sym (take_all (to - from) (drop from l) (omega (arith, past, length-drop from l)))
]

-- up to a place before which the front ends
in-front : {A : Type 0} (from to done : ℕ) (l : List A) → to ≤ done → take (to - from) (drop from (take done l)) ≡ take (to - from) (drop from l)
in-front from to done l low = elim (cases_lt to from) [
  | inl turned ↦ none-taken (to - from) (drop from (take done l)) (omega (arith, turned)) ∙ sym (none-taken (to - from) (drop from l) (omega (arith, turned)))
  | inr ordered ↦
      let whole : from + (to - from) ≡ to = omega (arith, ordered) in
      sym (drop-take from (to - from) (take done l)) ∙ ap (λ k. drop from (take k (take done l))) whole ∙ ap (drop from) (take-take to done l low)
      ∙ ap (λ k. drop from (take k l)) (sym whole) ∙ drop-take from (to - from) l
]

-- from a place in the front to one behind it
across : {A : Type 0} (from to done : ℕ) (l : List A) → from ≤ done → done ≤ to → done ≤ length l
    → take (to - from) (drop from (take done l)) ++ take (to - done) (drop done l) ≡ take (to - from) (drop from l)
across from to done l low high within =
    let long : length (drop from (take done l)) ≡ done - from = omega (arith, length-drop from (take done l), length-take done l, within) in
    let whole : from + (done - from) ≡ done = omega (arith, low) in
    let first : take (to - from) (drop from (take done l)) ≡ take (done - from) (drop from l) =
    take_all (to - from) (drop from (take done l)) (omega (arith, long, high)) ∙ ap (λ k. drop from (take k l)) (sym whole) ∙ drop-take from (done - from) l in
    let second : drop done l ≡ drop (done - from) (drop from l) = ap (λ k. drop k l) (sym whole) ∙ sym (drop-drop (done - from) from l) in
    let sum : (done - from) + (to - done) ≡ to - from = omega (arith, low, high) in
    ap (λ x. x ++ take (to - done) (drop done l)) first ∙ ap (λ x. take (done - from) (drop from l) ++ take (to - done) x) second
    ∙ sym (take-add (done - from) (to - done) (drop from l)) ∙ ap (λ k. take k (drop from l)) sum

-- The part between two places is what of it is in the list's front, and behind that what is not.
pub two-parts : {A : Type 0} (from to done end first : ℕ) (l : List A) → done ≤ length l → end ≡ min to (length l) → first ≡ min (max from done) end
    → take (to - from) (drop from (take done l)) ++ take (end - first) (drop first l) ≡ take (to - from) (drop from l)
two-parts from to done end first l within ends starts = elim (cases_lt done to) [
  | inr low ↦
      ap (λ x. take (to - from) (drop from (take done l)) ++ x) (none-taken (end - first) (drop first l) (omega (arith, ends, starts, low, within)))
      ∙ append-nil (take (to - from) (drop from (take done l))) ∙ in-front from to done l low
  | inl high ↦ elim (cases_lt from done) [
    | inl front ↦
        let first_is : first ≡ done = omega (arith, ends, starts, high, front, within) in
        let before : from ≤ done = omega (arith, front) in
        let ahead : done ≤ to = omega (arith, high) in
        ap (λ k. take (to - from) (drop from (take done l)) ++ take (end - k) (drop k l)) first_is
        ∙ ap (λ x. take (to - from) (drop from (take done l)) ++ x) (clipped done to end l ends)
        ∙ across from to done l before ahead within
    | inr behind ↦
        let none : take (to - from) (drop from (take done l)) ≡ [] = none-left from (to - from) (take done l) (omega (arith, length-take done l, behind)) in
        let rest : take (end - first) (drop first l) ≡ take (end - from) (drop from l) = elim (cases_lt end from) [
          | inl past ↦ none-taken (end - first) (drop first l) (omega (arith, starts, behind, past)) ∙ sym (none-taken (end - from) (drop from l) (omega (arith, past)))
          | inr near ↦ ap (λ k. take (end - k) (drop k l)) (omega (arith, starts, behind, near))
        ] in
        ap (λ x. x ++ take (end - first) (drop first l)) none ∙ rest ∙ clipped from to end l ends
  ]
]
