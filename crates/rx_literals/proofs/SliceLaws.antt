-- Needles that are given as slices.
use Rattle.std.proofs.Common.{◌≡◌, ℕ, zero, suc, ◌<◌, ◌≤◌, Bool, false, ◌==◌, List, [], ◌∷◌, map, take, get_or, length, refl, sym, subst, arith}
use Rattle.std.specs.List.{All}
use Rattle.std.proofs.lemmas.List.{length-map, take_all}
use Rattle.std.proofs.lemmas.List.Elements.{All-get_or, All-head, All-map, All-same}
use Rattle.rx_literals.specs.Needles.{IsNeedle, AreNeedles}

pub get_or_mapped : {A B : Type 0} (f : A → B) (xs : List A) (k : ℕ) (d : A) (e : B) → k < length xs → get_or (map f xs) k e ≡ f (get_or xs k d)
get_or_mapped f [] k d e below = absurd (omega (arith, below))
get_or_mapped f (x ∷ xs) zero d e below = refl
get_or_mapped f (x ∷ xs) (suc k) d e below = get_or_mapped f xs k d e (omega (arith, below))

module _ {A : Type 0} (f : A → List ℕ) (xs : List A) where
  -- what is known of each up to an index after the last one
  pub all_of : (P : List ℕ → Type 0) (k : ℕ) → length xs ≤ k → All (λ x. P (f x)) (take k xs) → All P (map f xs)
  all_of P k over all = All-map P f xs (subst (λ ys. All (λ x. P (f x)) ys) (take_all k xs over) all)

  pub are_needles : (k : ℕ) → length xs ≤ k → 1 ≤ length xs → length xs ≤ 16 → All (λ x. IsNeedle (f x)) (take k xs) → AreNeedles (map f xs)
  are_needles k over some few all = record {
    some = omega (arith, length-map xs f, some);
    few = omega (arith, length-map xs f, few);
    each = all_of IsNeedle k over all;
  }

  pub needle_of : (k : ℕ) (d : A) → k < length xs → AreNeedles (map f xs) → IsNeedle (f (get_or xs k d))
  needle_of k d below are = subst IsNeedle (get_or_mapped f xs k d [] below) (All-get_or IsNeedle (map f xs) k [] (omega (arith, below, length-map xs f)) are.each)

pub not_empty : (n : ℕ) (b : Bool) → b ≡ (n == 0) → b ≡ false → 1 ≤ n
not_empty zero b is not = absurd (cc (is, not))
not_empty (suc n) b is not = omega arith

pub only_needle : (needles : List (List ℕ)) (needle : List ℕ) → needles ≡ needle ∷ [] → All IsNeedle needles → 1 ≤ length needle
only_needle needles needle one each = let own = All-head IsNeedle needle [] (All-same IsNeedle (needle ∷ []) needles (sym one) each) in own.0
