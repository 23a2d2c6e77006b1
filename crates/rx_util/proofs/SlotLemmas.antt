-- Where the slots of groups lie.
use Rattle.std.proofs.Common.{◌≡◌, ℕ, ◌+◌, ◌-◌, ◌*◌, ◌<◌, ◌≤◌, List, [], ◌∷◌, ◌++◌, length, take, drop, get_or, slice_get, Some, zero, suc, refl, sym, ap, subst, ◌∙◌, arith, inl, inr, add-one}
use Rattle.std.specs.Option.{option_map_or}
use Rattle.std.proofs.lemmas.Bool.{cases_lt, lt-ltb}
use Rattle.std.proofs.lemmas.List.{take_more, take_all, length_push, take-append-drop}
use Rattle.std.proofs.lemmas.List.Sums.{sum_by-append, sum_by_push}
use Rattle.std.proofs.lemmas.Option.{slice_get-get_or, slice_get_past}
use Rattle.rx_util.specs.Groups.{GroupNames, group_len, further_groups, slot_len, slot_place, first_slot}

-- the places where the slots of the first n patterns' further groups start, and where those of the next one's do
pub record AreStartsUpTo (groups : GroupNames) (n : ℕ) (starts : List ℕ) (next : ℕ) : Type 0 where
  pub one_each : length starts ≡ n
  pub starts_are : (p : ℕ) → p < n → slice_get starts p ≡ Some (slot_place groups p 1)
  pub next_is : next ≡ slot_place groups n 1

-- the further groups of the first patterns, and those of one more
further_groups-more : (groups : GroupNames) (n : ℕ) → n < length groups
    → further_groups (take (n + 1) groups) ≡ further_groups (take n groups) + length (get_or groups n [])
further_groups-more groups n lt =
    ap further_groups (take_more groups n [] lt) ∙ sum_by_push length (take n groups) (get_or groups n [])

-- of the first patterns are no more further groups than of all
pub further_groups-take : (groups : GroupNames) (n : ℕ) → further_groups (take n groups) ≤ further_groups groups
further_groups-take groups n =
    omega (arith, ap further_groups (take-append-drop n groups), sum_by-append length (take n groups) (drop n groups))

pub AreStartsUpTo-none : (groups : GroupNames) → AreStartsUpTo groups 0 [] (2 * length groups)
AreStartsUpTo-none groups = record { one_each = refl; starts_are = λ p lt. absurd (omega (arith, lt)); next_is = omega arith }

-- an element behind others
slice_get-push_last : (xs : List ℕ) (y : ℕ) → slice_get (xs ++ y ∷ []) (length xs) ≡ Some y
slice_get-push_last [] y = refl
slice_get-push_last (x ∷ xs) y = slice_get-push_last xs y

slice_get-push : (xs : List ℕ) (y i : ℕ) → i < length xs → slice_get (xs ++ y ∷ []) i ≡ slice_get xs i
slice_get-push [] y i lt = absurd (omega (arith, lt))
slice_get-push (x ∷ xs) y zero lt = refl
slice_get-push (x ∷ xs) y (suc i) lt = slice_get-push xs y i (omega (arith, lt))

pub AreStartsUpTo-more : {starts : List ℕ} {next : ℕ} (groups : GroupNames) (n : ℕ) → AreStartsUpTo groups n starts next → n < length groups
    → AreStartsUpTo groups (n + 1) (starts ++ next ∷ []) (next + 2 * length (get_or groups n []))
AreStartsUpTo-more {starts = starts} {next = next} groups n so_far lt = record {
  one_each = length_push starts next ∙ ap (λ k. k + 1) so_far.one_each;
  starts_are = λ p less. elim (cases_lt p n) [
    | inl before ↦ slice_get-push starts next p (omega (arith, before, so_far.one_each)) ∙ so_far.starts_are p before
    | inr behind ↦
        let last : p ≡ length starts = omega (arith, less, behind, so_far.one_each) in
        let same : p ≡ n = omega (arith, less, behind) in
        subst (λ k. slice_get (starts ++ next ∷ []) k ≡ Some next) (sym last) (slice_get-push_last starts next)
        ∙ ap Some (so_far.next_is ∙ ap (λ k. slot_place groups k 1) (sym same))
  ];
  next_is = omega (arith, so_far.next_is, further_groups-more groups n lt);
}

-- behind the last pattern's slots there are no more
pub next_at_end : {starts : List ℕ} {next : ℕ} (groups : GroupNames) → AreStartsUpTo groups (length groups) starts next → next ≡ slot_len groups
next_at_end groups all =
    omega (arith, all.next_is, ap further_groups (take_all (length groups) groups (omega arith)))

-- a group that a pattern has: the pattern is there, and the group's two slots are
pub record IsGroup (groups : GroupNames) (p g : ℕ) : Type 0 where
  pub pattern : p < length groups
  pub group : g < length (get_or groups p []) + 1

pub group_is : (groups : GroupNames) (p g : ℕ) → g < group_len groups p → IsGroup groups p g
group_is groups p g lt = elim (cases_lt p (length groups)) [
  | inl known ↦
      let len : group_len groups p ≡ length (get_or groups p []) + 1 =
      ap (λ o. option_map_or (λ names. length names + 1) o 0) (slice_get-get_or groups p [] known) in
      record { pattern = known; group = omega (arith, lt, len) }
  | inr unknown ↦
      let none : group_len groups p ≡ 0 = ap (λ o. option_map_or (λ names. length names + 1) o 0) (slice_get_past groups p unknown) in
      absurd (omega (arith, lt, none))
]

-- a further group's first slot, by that of group 1
pub slot_place-further : (groups : GroupNames) (p k : ℕ) → slot_place groups p (k + 1) ≡ slot_place groups p 1 + 2 * k
slot_place-further groups p k = rw add-one (omega arith)

slot_place-within_further : (groups : GroupNames) (p k : ℕ) → p < length groups → k < length (get_or groups p []) → slot_place groups p (k + 1) + 1 < slot_len groups
slot_place-within_further groups p k known lt =
    omega (arith, slot_place-further groups p k, lt, further_groups-more groups p known, further_groups-take groups (p + 1))

-- both slots of a group are there
pub slot_place-within : (groups : GroupNames) (p g : ℕ) → IsGroup groups p g → slot_place groups p g + 1 < slot_len groups
slot_place-within groups p zero is = omega (arith, is.pattern)
slot_place-within groups p (suc k) is =
    subst (λ g. slot_place groups p g + 1 < slot_len groups) (add-one k) (slot_place-within_further groups p k is.pattern (omega (arith, is.group)))

pub first_slot-of_group : (groups : GroupNames) (p g : ℕ) → g < group_len groups p → first_slot groups p g ≡ Some (slot_place groups p g)
first_slot-of_group groups p g lt = rw (lt-ltb g (group_len groups p) lt) refl

-- a further group's first slot, counted from group 1
pub slot_place-before : (groups : GroupNames) (p g : ℕ) → (g ≡ 0 → ⊥) → slot_place groups p g ≡ slot_place groups p 1 + 2 * (g - 1)
slot_place-before groups p g further = ap (slot_place groups p) (omega (arith, further)) ∙ slot_place-further groups p (g - 1)
