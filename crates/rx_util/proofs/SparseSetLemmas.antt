-- Sparse sets: their members are distinct, so there is room for one more.
use Rattle.std.proofs.Common.{◌≡◌, ◌≢◌, ℕ, ◌+◌, ◌<◌, ◌≤◌, List, [], ◌∷◌, ◌++◌, length, take, get_or, set, slice_get, Some, zero, suc, All, AllPairs, Contains, eqb, refl, sym, ap, subst, ◌∙◌, arith, inl, inr, unwrap_or, length-set}
use Rattle.std.proofs.lemmas.Bool.{cases_lt}
use Rattle.std.proofs.lemmas.Bool.Decides.{Decides-eqb}
use Rattle.std.proofs.lemmas.List.{length-take-le, get_or-take, get_or_default, length_push, take_more_set}
use Rattle.std.proofs.lemmas.List.Elements.{All-push}
use Rattle.std.proofs.lemmas.List.Quantifiers.{all_pairs_push}
use Rattle.std.proofs.lemmas.Map.Made.{IsDistinct-from_AllPairs}
use Rattle.std.proofs.lemmas.Map.Steps.{length-le_from_distinct_below}
use Rattle.std.proofs.lemmas.Map.Views.{Contains-from_any}
use Rattle.std.proofs.lemmas.Option.{slice_get-get_or, slice_get_within, get_or_from_slice_get}
use Rattle.rx_util.specs.SparseSets.{IsSetBelow, IsIndexed}

-- where a member stands
place_of_member : {dense sparse : List ℕ} {len : ℕ} → IsIndexed dense sparse len → (k d : ℕ) → k < length (take len dense)
    → slice_get sparse (get_or (take len dense) k d) ≡ Some k
place_of_member {dense = dense} {sparse = sparse} {len = len} set k d lt =
    let within : k < len = omega (arith, lt, length-take-le len dense set.filled) in
    rw (get_or-take len dense k d within) (set.indexed k (get_or dense k d) within (slice_get-get_or dense k d (omega (arith, within, set.filled))))

pub members_are_a_set : {dense sparse : List ℕ} {len : ℕ} → IsIndexed dense sparse len → IsSetBelow (length sparse) (take len dense)
members_are_a_set {dense = dense} {sparse = sparse} {len = len} set = record {
  below = λ k d lt. slice_get_within sparse (get_or (take len dense) k d) k (place_of_member set k d lt);
  apart = λ i j d less lt same.
      let first = place_of_member set i d (omega (arith, less, lt)) in
      let second = place_of_member set j d lt in
      grind (arith, first, second, same, less);
}

-- numbers below a capacity, none of them twice, are at most as many
few_members : (capacity : ℕ) (members : List ℕ) → All (λ id. id < capacity) members → AllPairs (λ a b. a ≢ b) members → length members ≤ capacity
few_members capacity members below apart =
    length-le_from_distinct_below members capacity (IsDistinct-from_AllPairs Decides-eqb members apart)
    (λ q any.
    let at = Contains-from_any {eq = eqb} (λ x y. (Decides-eqb x y).0) q members any in
    subst (λ x. x < capacity) at.2 (below at.0 q at.1))

-- while a state is no member, there is room for it
pub has_room : {dense sparse : List ℕ} {len id : ℕ} → IsIndexed dense sparse len → id < length sparse → (Contains (take len dense) id → ⊥) → len < length dense
has_room {dense = dense} {sparse = sparse} {len = len} {id = id} set in_range new =
    let members = take len dense in
    let is = members_are_a_set set in
    let more : length (members ++ id ∷ []) ≤ length sparse =
    few_members (length sparse) (members ++ id ∷ []) (All-push (λ x. x < length sparse) members id is.below in_range)
    (all_pairs_push (λ a b. a ≢ b) members id is.apart (λ k d lt same. new (k, lt, get_or_default members k id d lt ∙ same))) in
    omega (arith, more, length_push members id, length-take-le len dense set.filled, set.room)

slice_get-set_same : (xs : List ℕ) (i y : ℕ) → i < length xs → slice_get (set xs i y) i ≡ Some y
slice_get-set_same [] i y lt = absurd (omega (arith, lt))
slice_get-set_same (x ∷ xs) zero y lt = refl
slice_get-set_same (x ∷ xs) (suc i) y lt = slice_get-set_same xs i y (omega (arith, lt))

slice_get-set_other : (xs : List ℕ) (i j y : ℕ) → j ≢ i → slice_get (set xs i y) j ≡ slice_get xs j
slice_get-set_other [] i j y other = refl
slice_get-set_other (x ∷ xs) zero zero y other = absurd (other refl)
slice_get-set_other (x ∷ xs) zero (suc j) y other = refl
slice_get-set_other (x ∷ xs) (suc i) zero y other = refl
slice_get-set_other (x ∷ xs) (suc i) (suc j) y other = slice_get-set_other xs i j y (λ is. other (ap suc is))

-- a state that is no member, put behind the members
pub IsIndexed-insert : {dense sparse : List ℕ} {len id : ℕ} → IsIndexed dense sparse len → id < length sparse → (Contains (take len dense) id → ⊥)
    → IsIndexed (set dense len id) (set sparse id len) (len + 1)
IsIndexed-insert {dense = dense} {sparse = sparse} {len = len} {id = id} old in_range new =
    let room = has_room old in_range new in
    record {
      room = rw (length-set dense len id, length-set sparse id len) old.room;
      filled = omega (arith, room, length-set dense len id);
      indexed = λ i x lt at. elim (cases_lt i len) [
        | inl before ↦
            let other : i ≢ len = λ is. omega (arith, is, before) in
            let was : slice_get dense i ≡ Some x = sym (slice_get-set_other dense len i id other) ∙ at in
            let member : Contains (take len dense) x =
            (i, omega (arith, before, length-take-le len dense old.filled), get_or-take len dense i x before ∙ get_or_from_slice_get dense i x x was) in
            slice_get-set_other sparse id x len (λ is. new (subst (Contains (take len dense)) is member)) ∙ old.indexed i x before was
        | inr behind ↦
            let last : i ≡ len = omega (arith, lt, behind) in
            let there : slice_get (set dense len id) i ≡ Some id = subst (λ k. slice_get (set dense len id) k ≡ Some id) (sym last) (slice_get-set_same dense len id room) in
            let is : x ≡ id = ap (λ o. unwrap_or o 0) (sym at ∙ there) in
            subst (λ y. slice_get (set sparse id len) y ≡ Some i) (sym is)
            (slice_get-set_same sparse id len in_range ∙ ap Some (sym last))
      ];
    }

-- the members are then those before, and the state
pub members-insert : {dense sparse : List ℕ} {len id : ℕ} → IsIndexed dense sparse len → id < length sparse → (Contains (take len dense) id → ⊥)
    → take (len + 1) (set dense len id) ≡ take len dense ++ id ∷ []
members-insert {dense = dense} {len = len} {id = id} old in_range new = take_more_set dense len id (has_room old in_range new)
