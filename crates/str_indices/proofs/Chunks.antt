-- Sums over a list of numbers by chunks of it, lane by lane.
use Rattle.std.proofs.Common.{◌≡◌, ℕ, suc, ◌+◌, ◌-◌, ◌*◌, ◌<◌, ◌≤◌, List, [], ◌∷◌, inl, inr, length, take, drop, sum, get_or, refl, ap, sym, ◌∙◌, arith}
use Rattle.std.proofs.Math.Seq.{take-add}
use Rattle.std.proofs.lemmas.Bool.{cases_lt}
use Rattle.std.proofs.lemmas.Grind.{same_number_lists}
use Rattle.std.proofs.lemmas.List.{length-take-le, length-drop, get_or-take, get_or-drop, get_or_past}
use Rattle.std.proofs.lemmas.List.Sums.{sum_by-cons, sum_by-append}
use Rattle.str_indices.specs.Lanes.{HasLanes, LanesUpTo}

sum-zeros : (xs : List ℕ) → ((i : ℕ) → i < length xs → get_or xs i 0 ≡ 0) → sum xs ≡ 0
sum-zeros [] h = refl
sum-zeros (x ∷ xs) h = sum_by-cons (λ x. x) x xs ∙ omega (arith, h 0 (omega arith), sum-zeros xs (λ i l. h (suc i) (omega arith)))

pub no_lanes-sum : (n : ℕ) (xs : List ℕ) → HasLanes n xs (λ _. 0) → sum xs ≡ 0
no_lanes-sum n xs h = sum-zeros xs (λ i l. h.each i (omega (arith, h.long)))

pub no_lanes-small : (n : ℕ) (xs : List ℕ) → HasLanes n xs (λ _. 0) → LanesUpTo 0 xs
no_lanes-small n xs h i =
    elim (cases_lt i n) as (λ _. get_or xs i 0 ≤ 0) [
      | inl l ↦ omega (arith, h.each i l)
      | inr past ↦ omega (arith, get_or_past xs i 0 (omega (arith, h.long)))
    ]

sum-pairs : (xs ys zs : List ℕ) → length xs ≡ length zs → length ys ≡ length zs → ((i : ℕ) → i < length zs → get_or zs i 0 ≡ get_or xs i 0 + get_or ys i 0) → sum zs ≡ sum xs + sum ys
sum-pairs [] [] [] p q h = refl
sum-pairs (x ∷ xs) (y ∷ ys) (z ∷ zs) p q h =
    sum_by-cons (λ x. x) z zs
    ∙ omega (arith, h 0 (omega arith), sum-pairs xs ys zs (omega arith) (omega arith) (λ i l. h (suc i) (omega arith)), sum_by-cons (λ x. x) x xs, sum_by-cons (λ x. x) y ys)
sum-pairs [] (y ∷ ys) [] p q h = absurd (omega arith)
sum-pairs (x ∷ xs) ys [] p q h = absurd (omega arith)
sum-pairs [] ys (z ∷ zs) p q h = absurd (omega arith)
sum-pairs (x ∷ xs) [] (z ∷ zs) p q h = absurd (omega arith)

-- ---- the chunk `part` of ws is added to the lanes xs
pub more-sum : (n at : ℕ) (ws xs part ys : List ℕ) → at + n ≤ length ws → length xs ≡ n → HasLanes n part (λ i. get_or ws (at + i) 0) → HasLanes n ys (λ i. get_or xs i 0 + get_or part i 0)
    → sum (take at ws) + sum ys ≡ sum (take (at + n) ws) + sum xs
more-sum n at ws xs part ys room long loaded added =
    let same : part ≡ take n (drop at ws) =
    same_number_lists part (take n (drop at ws)) (omega (arith, loaded.long, length-take-le n (drop at ws) (omega (arith, length-drop at ws))))
    (λ k l. let inside : k < n = omega (arith, loaded.long) in loaded.each k inside ∙ sym (get_or-take n (drop at ws) k 0 inside ∙ get_or-drop at ws k 0)) in
    omega (
      arith,
      sum-pairs xs part ys (omega (arith, added.long)) (omega (arith, added.long, loaded.long)) (λ i l. added.each i (omega (arith, added.long))),
      ap sum same,
      ap sum (take-add at n ws),
      sum_by-append (λ x. x) (take at ws) (take n (drop at ws)),
    )

pub more-small : (n at t : ℕ) (ws xs part ys : List ℕ) → ((i : ℕ) → get_or ws i 0 ≤ 2) → LanesUpTo (2 * t) xs → HasLanes n part (λ i. get_or ws (at + i) 0) → HasLanes n ys (λ i. get_or xs i 0 + get_or part i 0)
    → LanesUpTo (2 * (t + 1)) ys
more-small n at t ws xs part ys small low loaded added i =
    elim (cases_lt i n) as (λ _. get_or ys i 0 ≤ 2 * (t + 1)) [
      | inl l ↦ omega (arith, added.each i l, loaded.each i l, small (at + i), low i)
      | inr past ↦ omega (arith, get_or_past ys i 0 (omega (arith, added.long)))
    ]

-- more numbers have a greater sum
pub sum-take-le_more : (ws : List ℕ) (m n : ℕ) → m ≤ n → sum (take m ws) ≤ sum (take n ws)
sum-take-le_more ws m n h =
    let e : n ≡ m + (n - m) = omega arith in
    omega (arith, ap (λ k. sum (take k ws)) e, ap sum (take-add m (n - m) ws), sum_by-append (λ x. x) (take m ws) (take (n - m) (drop m ws)))
