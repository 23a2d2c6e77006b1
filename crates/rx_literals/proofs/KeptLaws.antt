-- Needles that represent others.
use Rattle.std.proofs.Common.{◌≡◌, ℕ, zero, suc, ◌+◌, ◌<◌, ◌≤◌, ◌⊎◌, List, [], ◌∷◌, ◌++◌, map, take, get_or, length, refl, sym, ap, subst, ◌∙◌, arith, inl, inr}
use Rattle.std.proofs.lemmas.List.{map-append, take_more, take_all}
use Rattle.memchr.specs.Find.{OccursAt}
use Rattle.rx_literals.specs.Needles.{OneOccursAt, this_occurs, other_occurs}
use Rattle.rx_literals.specs.Ways.{StandFor}

occurs_left : (bytes : List ℕ) (i : ℕ) {xs : List (List ℕ)} (ys : List (List ℕ)) → OneOccursAt bytes i xs → OneOccursAt bytes i (xs ++ ys)
occurs_left bytes i ys (this_occurs h) = this_occurs h
occurs_left bytes i ys (other_occurs h) = other_occurs (occurs_left bytes i ys h)

occurs_right : (bytes : List ℕ) (i : ℕ) (xs ys : List (List ℕ)) → OneOccursAt bytes i ys → OneOccursAt bytes i (xs ++ ys)
occurs_right bytes i [] ys h = h
occurs_right bytes i (x ∷ xs) ys h = other_occurs (occurs_right bytes i xs ys h)

occurs_either : (bytes : List ℕ) (i : ℕ) (xs ys : List (List ℕ)) → OneOccursAt bytes i (xs ++ ys) → OneOccursAt bytes i xs ⊎ OneOccursAt bytes i ys
occurs_either bytes i [] ys h = inr h
occurs_either bytes i (x ∷ xs) ys (this_occurs h) = inl (this_occurs h)
occurs_either bytes i (x ∷ xs) ys (other_occurs h) = elim (occurs_either bytes i xs ys h) [ inl here ↦ inl (other_occurs here) | inr there ↦ inr there ]

occurs_alone : (bytes : List ℕ) (i : ℕ) (x : List ℕ) → OneOccursAt bytes i (x ∷ []) → OccursAt bytes x i
occurs_alone bytes i x (this_occurs h) = h
occurs_alone bytes i x (other_occurs h) = none h
  where
    none : OneOccursAt bytes i [] → OccursAt bytes x i
    none h = by h refl
      where
        by : {xs : List (List ℕ)} → OneOccursAt bytes i xs → xs ≡ [] → OccursAt bytes x i
        by (this_occurs h) e = absurd (cc e)
        by (other_occurs h) e = absurd (cc e)

-- a text that begins with a needle has it where it occurs
pub prefix_occurs : (literal other : List ℕ) → OccursAt literal other 0 → (bytes : List ℕ) (i : ℕ) → OccursAt bytes literal i → OccursAt bytes other i
prefix_occurs literal other begins bytes i occurs = record {
  fits = omega (arith, begins.fits, occurs.fits);
  reads = λ j below.
      let same : 0 + j ≡ j = omega arith in
      occurs.reads j (omega (arith, below, begins.fits)) ∙ ap (λ k. get_or literal k 0) (sym same) ∙ begins.reads j below;
}

module _ {X : Type 0} (f : X → List ℕ) where
  pub occurs_of : (xs : List X) (k : ℕ) (x : X) → k < length xs → x ≡ get_or xs k x → (bytes : List ℕ) (i : ℕ) → OccursAt bytes (f x) i → OneOccursAt bytes i (map f xs)
  occurs_of [] k x below is bytes i h = absurd (omega (arith, below))
  occurs_of (y ∷ ys) zero x below is bytes i h = this_occurs (subst (λ z. OccursAt bytes (f z) i) is h)
  occurs_of (y ∷ ys) (suc k) x below is bytes i h = other_occurs (occurs_of ys k x (omega (arith, below)) is bytes i h)

  -- if one of the first needles occurs, one that is left does or one that is kept
  abbrev pub AreLeft : List X → List X → List X → Type 0
  AreLeft needles left kept = (bytes : List ℕ) (i : ℕ) → OneOccursAt bytes i (map f needles) → OneOccursAt bytes i (map f left) ⊎ OneOccursAt bytes i (map f kept)

  last_or : (left more : List X) (x : X) → left ≡ more ++ x ∷ [] → (bytes : List ℕ) (i : ℕ) → OneOccursAt bytes i (map f left) → OneOccursAt bytes i (map f more) ⊎ OccursAt bytes (f x) i
  last_or left more x is bytes i h =
      let parts : map f left ≡ map f more ++ (f x ∷ []) = ap (map f) is ∙ map-append f more (x ∷ []) in
      elim (occurs_either bytes i (map f more) (f x ∷ []) (subst (λ xs. OneOccursAt bytes i xs) parts h)) [
        | inl here ↦ inl here
        | inr last ↦ inr (occurs_alone bytes i (f x) last)
      ]

  -- one that begins with a kept one is left out
  pub keeps_same : (kept : List X) (x : X) → ((bytes : List ℕ) (i : ℕ) → OccursAt bytes (f x) i → OneOccursAt bytes i (map f kept)) → StandFor (map f kept) (f x ∷ map f kept)
  keeps_same kept x begins bytes i (this_occurs h) = begins bytes i h
  keeps_same kept x begins bytes i (other_occurs h) = h

  -- another is kept
  pub keeps_more : (kept new : List X) (x : X) → new ≡ kept ++ x ∷ [] → StandFor (map f new) (f x ∷ map f kept)
  keeps_more kept new x is bytes i h = subst (λ xs. OneOccursAt bytes i xs) (sym (ap (map f) is ∙ map-append f kept (x ∷ []))) (by h)
    where
      by : OneOccursAt bytes i (f x ∷ map f kept) → OneOccursAt bytes i (map f kept ++ (f x ∷ []))
      by (this_occurs h) = occurs_right bytes i (map f kept) (f x ∷ []) (this_occurs h)
      by (other_occurs h) = occurs_left bytes i (f x ∷ []) h

  pub left_on : (needles left more kept new : List X) (x : X) → left ≡ more ++ x ∷ [] → StandFor (map f new) (f x ∷ map f kept) → AreLeft needles left kept → AreLeft needles more new
  left_on needles left more kept new x is stand all bytes i h = elim (all bytes i h) [
    | inl here ↦ elim (last_or left more x is bytes i here) [ inl front ↦ inl front | inr last ↦ inr (stand bytes i (this_occurs last)) ]
    | inr there ↦ inr (stand bytes i (other_occurs there))
  ]

  -- once none is left, the kept ones represent all
  pub kept_stand : (needles left kept : List X) → left ≡ [] → AreLeft needles left kept → StandFor (map f kept) (map f needles)
  kept_stand needles left kept none all bytes i h = elim (all bytes i h) [
    | inl here ↦ absurd (nothing (subst (λ xs. OneOccursAt bytes i (map f xs)) none here))
    | inr there ↦ there
  ]
    where
      nothing : OneOccursAt bytes i [] → ⊥
      nothing h = by h refl
        where
          by : {xs : List (List ℕ)} → OneOccursAt bytes i xs → xs ≡ [] → ⊥
          by (this_occurs h) e = absurd (cc e)
          by (other_occurs h) e = absurd (cc e)

pub stand_on : (first second third : List (List ℕ)) → StandFor second first → StandFor third second → StandFor third first
stand_on first second third a b bytes i h = b bytes i (a bytes i h)

-- needles that represent the first literals of a list
module _ {X : Type 0} (f : X → List ℕ) (needles : List (List ℕ)) (xs : List X) where
  pub stand_for_none : StandFor needles (map f (take 0 xs))
  stand_for_none bytes i h = absurd (nothing h refl)
    where
      nothing : {ys : List (List ℕ)} → OneOccursAt bytes i ys → ys ≡ [] → ⊥
      nothing (this_occurs h') e = absurd (cc e)
      nothing (other_occurs h') e = absurd (cc e)

  pub stand_for_more : (n : ℕ) (x : X) → n < length xs → x ≡ get_or xs n x → ((bytes : List ℕ) (i : ℕ) → OccursAt bytes (f x) i → OneOccursAt bytes i needles) → StandFor needles (map f (take n xs)) → StandFor needles (map f (take (n + 1) xs))
  stand_for_more n x lt is begins so_far bytes i h =
      let first : take (n + 1) xs ≡ take n xs ++ x ∷ [] = take_more xs n x lt ∙ ap (λ y. take n xs ++ y ∷ []) (sym is) in
      let parts : map f (take (n + 1) xs) ≡ map f (take n xs) ++ (f x ∷ []) = ap (map f) first ∙ map-append f (take n xs) (x ∷ []) in
      elim (occurs_either bytes i (map f (take n xs)) (f x ∷ []) (subst (λ ys. OneOccursAt bytes i ys) parts h)) [
        | inl here ↦ so_far bytes i here
        | inr last ↦ begins bytes i (occurs_alone bytes i (f x) last)
      ]

  pub stand_for_all : (n : ℕ) → length xs ≤ n → StandFor needles (map f (take n xs)) → StandFor needles (map f xs)
  stand_for_all n le so_far = subst (λ ys. StandFor needles (map f ys)) (take_all n xs le) so_far
