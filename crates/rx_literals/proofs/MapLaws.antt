-- Lists that are built element by element, and characters that are added to them.
use Rattle.std.proofs.Common.{◌≡◌, ℕ, ◌+◌, ◌<◌, Bool, true, false, ◌||◌, List, [], ◌∷◌, ◌++◌, map, take, get_or, length, refl, sym, ap, ◌∙◌, arith, append_assoc}
use Rattle.std.specs.Char.{IsScalar}
use Rattle.std.specs.List.{Contains, list_any}
use Rattle.std.proofs.lemmas.Grind.{take_at_read}
use Rattle.std.proofs.lemmas.List.{map-append}
use Rattle.std.proofs.lemmas.List.Folds.{list_any-append}
use Rattle.rx_sets.specs.Sets.{Range, in_range, ordinal}
use Rattle.rx_literals.specs.Ways.{HasMembers}

pub nothing : {X : Type 0} (xs : List X) → length xs ≡ 0 → xs ≡ []
nothing [] none = refl
nothing (x ∷ xs) none = absurd (omega (arith, none))

module _ {X Y Z : Type 0} (f : X → Z) (g : Y → Z) where
  -- an element moves from the front of one list to the end of another
  pub moved_on : (xs new : List X) (ys left : List Y) (x : X) (y : Y) (whole : List Z) → new ≡ xs ++ x ∷ [] → ys ≡ y ∷ left → f x ≡ g y → map f xs ++ map g ys ≡ whole → map f new ++ map g left ≡ whole
  moved_on xs new ys left x y whole is first same so_far =
      ap (λ zs. zs ++ map g left) (ap (map f) is ∙ map-append f xs (x ∷ [])) ∙ append_assoc (map f xs) (f x ∷ []) (map g left)
      ∙ ap (λ z. map f xs ++ z ∷ map g left) same ∙ ap (λ zs. map f xs ++ map g zs) (sym first) ∙ so_far

-- ---- members of sets

pub has_more : (ranges : List Range) (k : ℕ) (d : Range) (old new : List ℕ) → k < length ranges
    → ((c : ℕ) → Contains old c → Contains new c) → ((c : ℕ) → IsScalar c → in_range (ordinal c) (get_or ranges k d) ≡ true → Contains new c)
    → HasMembers (take k ranges) old → HasMembers (take (k + 1) ranges) new
has_more ranges k d old new below kept put so_far c scalar is =
    let range = get_or ranges k d in
    let longer : take (k + 1) ranges ≡ take k ranges ++ range ∷ [] = (take_at_read ranges k d below).1 in
    let parts = sym (list_any-append (in_range (ordinal c)) (take k ranges) (range ∷ [])) ∙ ap (list_any (in_range (ordinal c))) (sym longer) ∙ is in
    by (list_any (in_range (ordinal c)) (take k ranges)) refl (in_range (ordinal c) range) refl parts
  where
    by : (a : Bool) → list_any (in_range (ordinal c)) (take k ranges) ≡ a → (b : Bool) → in_range (ordinal c) (get_or ranges k d) ≡ b → (a || (b || false)) ≡ true → Contains new c
    by true e b e' either = kept c (so_far c scalar e)
    by false e true e' either = put c scalar e'
    by false e false e' either = absurd (cc either)
