-- What a text begins with is decided, and whether a list has no element twice.
use Rattle.std.proofs.Common.{◌≡◌, ◌≢◌, ◌⊎◌, inl, inr, ℕ, zero, suc, ◌<◌, Bool, true, false, List, [], ◌∷◌, length, get_or, AllPairs, refl, sym, ap, ap₂, arith}
use Rattle.std.proofs.lemmas.Bool.{cases_eq, cases_Bool, true≢false}
use Rattle.std.specs.List.{AllByRecursion}
use Rattle.rx_sets.proofs.Decisions.{Decided, decided_true}
use Rattle.rx_grammar.specs.declared.input.CharacterTest.{CharacterTest}
use Rattle.rx_grammar.specs.Input.{Begins, Stops}
use Rattle.rx_grammar.specs.Readers.{SplitsFront, passes}

-- a text begins with a character, or doesn't
pub begins_or_not : (c : ℕ) (t : List ℕ) → ((u : List ℕ) × (t ≡ c ∷ u)) ⊎ (Begins c t → ⊥)
begins_or_not c [] = inr (λ begins. begins)
begins_or_not c (first ∷ u) = elim (cases_eq first c) [
  | inl e ↦ inl (u, ap (λ x. x ∷ u) e)
  | inr other ↦ inr other
]

pub decided_false : (b : Bool) → Decided (b ≡ false)
decided_false true = inr true≢false
decided_false false = inl refl

pub decided_stops : (test : ℕ → Bool) (t : List ℕ) → Decided (Stops test t)
decided_stops test [] = inl tt
decided_stops test (c ∷ u) = decided_false (test c)

pub decided_all : (test : ℕ → Bool) (cs : List ℕ) → Decided (AllByRecursion (λ c. test c ≡ true) cs)
decided_all test [] = inl tt
decided_all test (c ∷ cs) = elim (decided_true (test c)) [
  | inr fails ↦ inr (λ all. fails all.0)
  | inl here ↦ elim (decided_all test cs) [
    | inr fails ↦ inr (λ all. fails all.1)
    | inl all ↦ inl (here, all)
  ]
]

-- the longest start of a text that passes a test
pub front_of : (test : CharacterTest) (t : List ℕ) → (front : List ℕ) × (rest : List ℕ) × SplitsFront test t front rest
front_of test [] = ([], [], record { whole = refl; all = tt; ends = tt })
front_of test (c ∷ u) = elim (cases_Bool (passes test c)) [
  | inl here ↦
      let more = front_of test u in
      (c ∷ more.0, more.1, record { whole = ap (λ x. c ∷ x) more.2.whole; all = (here, more.2.all); ends = more.2.ends })
  | inr fails ↦ ([], c ∷ u, record { whole = refl; all = tt; ends = fails })
]

-- an element is at some index of a list, or at none
place_or_none : (A : Type 0) → ((a b : A) → Decided (a ≡ b)) → (x : A) (xs : List A)
    → ((k : ℕ) × (k < length xs) × ((d : A) → get_or xs k d ≡ x)) ⊎ ((k : ℕ) (d : A) → k < length xs → get_or xs k d ≢ x)
place_or_none A each x [] = inr (λ k d within. absurd (omega (arith, within)))
place_or_none A each x (y ∷ ys) = elim (each y x) [
  | inl e ↦ inl (0, omega arith, λ d. e)
  | inr other ↦ elim (place_or_none A each x ys) [
    | inl found ↦ inl (suc found.0, omega (arith, found.1), found.2)
    | inr nowhere ↦ inr (apart ys other nowhere)
  ]
]
  where
    apart : {A : Type 0} {x y : A} (ys : List A) → (y ≡ x → ⊥) → ((k : ℕ) (d : A) → k < length ys → get_or ys k d ≢ x) → (k : ℕ) (d : A) → k < length (y ∷ ys) → get_or (y ∷ ys) k d ≢ x
    apart ys other nowhere zero d within = other
    apart ys other nowhere (suc k) d within = nowhere k d (omega (arith, within))

-- the elements are distinct, or aren't
pub decided_once : (A : Type 0) → ((a b : A) → Decided (a ≡ b)) → (xs : List A) → Decided (AllPairs (λ (a b : A). a ≢ b) xs)
decided_once A each [] = inl (λ i j d less within. absurd (omega (arith, within)))
decided_once A each (x ∷ xs) = elim (decided_once A each xs) [
  | inr twice ↦ inr (λ once. twice (λ i j d less within. once (suc i) (suc j) d (omega (arith, less)) (omega (arith, within))))
  | inl once ↦ elim (place_or_none A each x xs) [
    | inl found ↦ inr (λ all. all 0 (suc found.0) x (omega arith) (omega (arith, found.1)) (sym (found.2 x)))
    | inr nowhere ↦ inl (pairs xs once nowhere)
  ]
]
  where
    pairs : {A : Type 0} {x : A} (xs : List A) → AllPairs (λ (a b : A). a ≢ b) xs → ((k : ℕ) (d : A) → k < length xs → get_or xs k d ≢ x) → AllPairs (λ (a b : A). a ≢ b) (x ∷ xs)
    pairs xs once nowhere i zero d less within = absurd (omega (arith, less))
    pairs xs once nowhere zero (suc j) d less within = λ e. nowhere j d (omega (arith, within)) (sym e)
    pairs xs once nowhere (suc i) (suc j) d less within = once i j d (omega (arith, less)) (omega (arith, within))

-- two names are one, or aren't
pub decided_name : (a b : List ℕ) → Decided (a ≡ b)
decided_name [] [] = inl refl
decided_name [] (d ∷ ds) = inr (λ e. absurd (cc))
decided_name (c ∷ cs) [] = inr (λ e. absurd (cc))
decided_name (c ∷ cs) (d ∷ ds) = elim (cases_eq c d) [
  | inr other ↦ inr (λ e. other (first e))
  | inl same ↦ elim (decided_name cs ds) [
    | inr other ↦ inr (λ e. other (rest e))
    | inl others ↦ inl (ap₂ (λ x xs. x ∷ xs) same others)
  ]
]
  where
    first : {c d : ℕ} {cs ds : List ℕ} → c ∷ cs ≡ d ∷ ds → c ≡ d
    first e = cc

    rest : {c d : ℕ} {cs ds : List ℕ} → c ∷ cs ≡ d ∷ ds → cs ≡ ds
    rest e = cc
