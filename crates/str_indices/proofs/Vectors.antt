-- What the operations on vectors hold at each lane.
use Rattle.std.proofs.Common.{◌≡◌, ℕ, suc, ◌+◌, ◌<◌, List, [], ◌∷◌, Bool, false, true, bit_and, cond, length, get_or, sum, replicate, refl, sym, ap, ◌∙◌, arith}
use Rattle.std.specs.Prelude.{◌&&◌}
use Rattle.std.specs.Simd.Lanes.{zip2, sel_l, Each2, sum_l}
use Rattle.std.proofs.lemmas.Simd.{length-zip2, get_or-zip2, get_or-replicate, length-sel_l, get_or-sel_l, length-replicate}
use Rattle.std.proofs.lemmas.List.Sums.{sum_by-cons}
use Rattle.str_indices.specs.Lanes.{HasLanes}

-- an operator on two vectors
pub HasLanes-zip2 : (n : ℕ) (f : ℕ → ℕ → ℕ) (a b : List ℕ) → length a ≡ n → length b ≡ n → HasLanes n (zip2 f a b) (λ k. f (get_or a k 0) (get_or b k 0))
HasLanes-zip2 n f a b p q = record {
  long = length-zip2 f a b (p ∙ sym q) ∙ p;
  each = λ k l. get_or-zip2 f a b k 0 0 0 (omega arith) (omega arith);
}

-- 1 where a test of two lanes passes, and else 0
pub HasLanes-compared : (n : ℕ) (t : ℕ → ℕ → Bool) (a b : List ℕ) → length a ≡ n → length b ≡ n
    → HasLanes n (sel_l (zip2 t a b) (replicate n 1) (replicate n 0)) (λ k. cond (t (get_or a k 0) (get_or b k 0)) 1 0)
HasLanes-compared n t a b p q =
    let long : length (zip2 t a b) ≡ n = length-zip2 t a b (p ∙ sym q) ∙ p in
    let ones : length (replicate {A = ℕ} n 1) ≡ n = length-replicate n 1 in
    let zeros : length (replicate {A = ℕ} n 0) ≡ n = length-replicate n 0 in
    record {
      long = length-sel_l (zip2 t a b) (replicate n 1) (replicate n 0) (long ∙ sym ones) (long ∙ sym zeros) ∙ long;
      each = λ k l.
          get_or-sel_l (zip2 t a b) (replicate n 1) (replicate n 0) k 0 (omega arith) (omega arith) (omega arith)
          ∙ (λ i. cond (get_or-zip2 t a b k 0 0 false (omega arith) (omega arith) i) (get_or-replicate n k 1 0 l i) (get_or-replicate n k 0 0 l i));
    }

-- the same with one byte in all lanes, on the right or on the left
pub HasLanes-right : (n : ℕ) (t : ℕ → ℕ → Bool) (a : List ℕ) (x : ℕ) → length a ≡ n
    → HasLanes n (sel_l (zip2 t a (replicate n x)) (replicate n 1) (replicate n 0)) (λ k. cond (t (get_or a k 0) x) 1 0)
HasLanes-right n t a x p =
    let h = HasLanes-compared n t a (replicate n x) p (length-replicate n x) in
    record { long = h.long; each = λ k l. h.each k l ∙ ap (λ y. cond (t (get_or a k 0) y) 1 0) (get_or-replicate n k x 0 l) }

pub HasLanes-left : (n : ℕ) (t : ℕ → ℕ → Bool) (x : ℕ) (b : List ℕ) → length b ≡ n
    → HasLanes n (sel_l (zip2 t (replicate n x) b) (replicate n 1) (replicate n 0)) (λ k. cond (t x (get_or b k 0)) 1 0)
HasLanes-left n t x b p =
    let h = HasLanes-compared n t (replicate n x) b (length-replicate n x) p in
    record { long = h.long; each = λ k l. h.each k l ∙ ap (λ y. cond (t y (get_or b k 0)) 1 0) (get_or-replicate n k x 0 l) }

-- a fact of the two vectors' lanes, place by place
pub Each2-from_each : {A B : Type 0} (P : A → B → Type 0) (xs : List A) (ys : List B) (c : A) (d : B) → length xs ≡ length ys
    → ((i : ℕ) → i < length xs → P (get_or xs i c) (get_or ys i d)) → Each2 P xs ys
Each2-from_each P [] ys c d e h = tt
Each2-from_each P (x ∷ xs) [] c d e h = tt
Each2-from_each P (x ∷ xs) (y ∷ ys) c d e h = (h 0 (omega arith), Each2-from_each P xs ys c d (omega arith) (λ i l. h (suc i) (omega arith)))

-- std's sum from the left
pub sum_is_sum_l : (xs : List ℕ) → sum xs ≡ sum_l xs
sum_is_sum_l [] = refl
sum_is_sum_l (x ∷ xs) = sum_by-cons (λ x. x) x xs ∙ ap (λ n. x + n) (sum_is_sum_l xs)

-- two tests as numbers
pub bit_and-tests : (a b : Bool) → bit_and (cond a 1 0) (cond b 1 0) ≡ cond (a && b) 1 0
bit_and-tests true true = refl
bit_and-tests true false = refl
bit_and-tests false true = refl
bit_and-tests false false = refl
