-- What follows from a text's beginning in two ways.
use Rattle.std.proofs.Common.{◌≡◌, ℕ, ◌==◌, Bool, true, false, List, [], ◌∷◌, ◌++◌, length, refl, sym, ap, ap₂, subst, ◌∙◌, arith, true≢false}
use Rattle.std.proofs.lemmas.Bool.{eqb-false}
use Rattle.std.specs.List.{AllByRecursion}
use Rattle.rx_grammar.specs.Input.{Begins, Stops}

pub first_is : {t u v : List ℕ} {a b : ℕ} → t ≡ a ∷ u → t ≡ b ∷ v → a ≡ b
first_is e f = cc

pub rest_is : {t u v : List ℕ} {a b : ℕ} → t ≡ a ∷ u → t ≡ b ∷ v → u ≡ v
rest_is e f = cc

-- a text doesn't begin with two characters
pub apart : {t u v : List ℕ} {a b : ℕ} → t ≡ a ∷ u → t ≡ b ∷ v → (a == b) ≡ false → ⊥
apart {a = a} {b = b} e f different = eqb-false a b different (first_is e f)

-- nor with two that a test distinguishes
pub told_apart : {t u v : List ℕ} {a b : ℕ} (p : ℕ → Bool) → t ≡ a ∷ u → t ≡ b ∷ v → p a ≡ true → p b ≡ false → ⊥
told_apart p e f passes fails = true≢false (sym passes ∙ ap p (first_is e f) ∙ fails)

-- a text that begins with a character doesn't stop before it
pub Stops-not : {t u : List ℕ} {a : ℕ} (p : ℕ → Bool) → Stops p t → t ≡ a ∷ u → p a ≡ true → ⊥
Stops-not {a = a} p stops e passes =
    let fails : p a ≡ false = subst (Stops p) e stops in true≢false (sym passes ∙ fails)

pub Begins-from : {t u : List ℕ} {a : ℕ} → t ≡ a ∷ u → Begins a t
Begins-from {u = u} {a = a} e = subst (Begins a) (sym e) refl

-- a text has one longest start that passes a test
pub fronts : (p : ℕ → Bool) (xs ys u v : List ℕ) → AllByRecursion (λ c. p c ≡ true) xs → AllByRecursion (λ c. p c ≡ true) ys → Stops p u → Stops p v → xs ++ u ≡ ys ++ v → (xs ≡ ys) × (u ≡ v)
fronts p [] [] u v all all' stops stops' e = (refl, e)
fronts p [] (y ∷ ys) u v all all' stops stops' e = absurd (Stops-not p stops e all'.0)
fronts p (x ∷ xs) [] u v all all' stops stops' e = absurd (Stops-not p stops' (sym e) all.0)
fronts p (x ∷ xs) (y ∷ ys) u v all all' stops stops' e =
    let tails : xs ++ u ≡ ys ++ v = rest_is refl e in
    let heads : x ≡ y = first_is refl e in
    let rest = fronts p xs ys u v all.1 all'.1 stops stops' tails in
    (ap₂ (λ a l. a ∷ l) heads rest.0, rest.1)

-- and one front of a length
pub fronts_of_length : (xs ys u v : List ℕ) → length xs ≡ length ys → xs ++ u ≡ ys ++ v → (xs ≡ ys) × (u ≡ v)
fronts_of_length [] [] u v same e = (refl, e)
fronts_of_length [] (y ∷ ys) u v same e = absurd (omega arith)
fronts_of_length (x ∷ xs) [] u v same e = absurd (omega arith)
fronts_of_length (x ∷ xs) (y ∷ ys) u v same e =
    let tails : xs ++ u ≡ ys ++ v = rest_is refl e in
    let heads : x ≡ y = first_is refl e in
    let rest = fronts_of_length xs ys u v (omega arith) tails in
    (ap₂ (λ a l. a ∷ l) heads rest.0, rest.1)
