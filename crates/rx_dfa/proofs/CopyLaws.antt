-- Lists that are copied element by element.
use Rattle.std.proofs.Common.{◌≡◌, ℕ, zero, suc, ◌+◌, ◌<◌, List, [], ◌∷◌, ◌++◌, length, take, get_or, refl, ap, ◌∙◌, arith}

-- one more of the first elements
pub take_next : {A : Type 0} (xs : List A) (k : ℕ) (x : A) → k < length xs → take k xs ++ get_or xs k x ∷ [] ≡ take (k + 1) xs
take_next xs k x lt =
    let more : suc k ≡ k + 1 = omega arith in
    one xs x k lt ∙ ap (λ n. take n xs) more
  where
    one : {A : Type 0} (xs : List A) (x : A) (k : ℕ) → k < length xs → take k xs ++ get_or xs k x ∷ [] ≡ take (suc k) xs
    one [] x k lt = absurd (omega (arith, lt))
    one (y ∷ xs) x zero lt = refl
    one (y ∷ xs) x (suc k) lt = ap (λ ys. y ∷ ys) (one xs x k (omega (arith, lt)))
