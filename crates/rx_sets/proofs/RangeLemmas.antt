-- How lists of ranges are joined, and what lies between them.
use Rattle.std.proofs.Common.{◌≡◌, ℕ, zero, suc, ◌+◌, ◌-◌, ◌<◌, ◌≤◌, Bool, true, false, not, ◌&&◌, ◌||◌, cond, nat_lt, nat_le, min, max, List, [], ◌∷◌, ◌++◌, length, take, drop, get_or, refl, sym, ap, ap₂, subst, ◌∙◌, arith, inl, inr}
use Rattle.std.proofs.lemmas.Bool.{cases_lt, or_from}
use Rattle.std.proofs.lemmas.Bool.Decides.{nat_tests}
use Rattle.std.proofs.lemmas.List.{append_assoc, drop_all}
use Rattle.std.proofs.lemmas.List.Folds.{list_any-append}
use Rattle.std.specs.List.Sorted.{IsNonDecreasingBy}
use Rattle.rx_sets.specs.Sets.{Range, part, scalar_count, in_range, in_ranges, RiseFrom}
use Rattle.rx_sets.proofs.SetLemmas.{in_range_within, in_range_below, in_range_above, in_ranges_below}

pub part_some : (a b : ℕ) → a < b → part a b ≡ (a, b - 1) ∷ []
part_some a b less = grind (arith, nat_tests)

pub part_none : (a b : ℕ) → b ≤ a → part a b ≡ []
part_none a b more = grind (arith, nat_tests)

abbrev pub within : ℕ → ℕ → ℕ → Bool
within a b n = nat_le a n && nat_lt n b

pub in_part : (a b n : ℕ) → in_ranges (part a b) n ≡ within a b n
in_part a b n = elim (cases_lt a b) [
  | inl less ↦ ap (λ l. in_ranges l n) (part_some a b less) ∙ one n a b less
  | inr more ↦ ap (λ l. in_ranges l n) (part_none a b more) ∙ none n a b more
]
  where
    one : (n a b : ℕ) → a < b → (in_range n (a, b - 1) || false) ≡ within a b n
    one n a b less = grind (arith, nat_tests)

    none : (n a b : ℕ) → b ≤ a → false ≡ within a b n
    none n a b more = grind (arith, nat_tests)

pub in_ranges-append : (xs ys : List Range) (n : ℕ) → in_ranges (xs ++ ys) n ≡ (in_ranges xs n || in_ranges ys n)
in_ranges-append xs ys n = list_any-append (in_range n) xs ys

pub RiseFrom-lower : (m k : ℕ) (ranges : List Range) → RiseFrom m ranges → k ≤ m → RiseFrom k ranges
RiseFrom-lower m k [] rise le = tt
RiseFrom-lower m k (range ∷ ranges) rise le = (omega arith, rise.1, rise.2, rise.3)

-- a part before ranges that rise
RiseFrom-part : (free a b m : ℕ) (ranges : List Range) → free ≤ a → b ≤ scalar_count → b < m → free ≤ m → RiseFrom m ranges → RiseFrom free (part a b ++ ranges)
RiseFrom-part free a b m ranges low high gap above rise = elim (cases_lt a b) [
  | inl less ↦
      let rest : RiseFrom (b - 1 + 2) ranges = RiseFrom-lower m (b - 1 + 2) ranges rise (omega arith) in
      let whole : RiseFrom free ((a, b - 1) ∷ ranges) = (low, omega arith, omega arith, rest) in
      subst (λ l. RiseFrom free (l ++ ranges)) (sym (part_some a b less)) whole
  | inr more ↦
      subst (λ l. RiseFrom free (l ++ ranges)) (sym (part_none a b more)) (RiseFrom-lower m free ranges rise above)
]

RiseFrom-last_part : (free a b : ℕ) → free ≤ a → b ≤ scalar_count → RiseFrom free (part a b)
RiseFrom-last_part free a b low high = elim (cases_lt a b) [
  | inl less ↦
      let whole : RiseFrom free ((a, b - 1) ∷ []) = (low, omega arith, omega arith, tt) in
      subst (λ l. RiseFrom free l) (sym (part_some a b less)) whole
  | inr more ↦ subst (λ l. RiseFrom free l) (sym (part_none a b more)) tt
]

-- what lies between ranges, from an ordinal on
abbrev pub gaps_from : ℕ → List Range → List Range
gaps_from next [] = part next scalar_count
gaps_from next (range ∷ ranges) = part next range.0 ++ gaps_from (range.1 + 1) ranges

pub gaps_rise : (next : ℕ) (ranges : List Range) → RiseFrom next ranges → RiseFrom next (gaps_from next ranges)
gaps_rise next [] rise = RiseFrom-last_part next next scalar_count (omega arith) (omega arith)
gaps_rise next (range ∷ ranges) rise =
    let lower : RiseFrom (range.1 + 1) ranges = RiseFrom-lower (range.1 + 2) (range.1 + 1) ranges rise.3 (omega arith) in
    RiseFrom-part next next range.0 (range.1 + 1) (gaps_from (range.1 + 1) ranges) (omega arith) (omega arith) (omega arith) (omega arith)
    (gaps_rise (range.1 + 1) ranges lower)

pub in_gaps : (next n : ℕ) (ranges : List Range) → RiseFrom next ranges → next ≤ n → n < scalar_count → in_ranges (gaps_from next ranges) n ≡ not (in_ranges ranges n)
in_gaps next n [] rise from below = in_part next scalar_count n ∙ all next n from below
  where
    all : (next n : ℕ) → next ≤ n → n < scalar_count → within next scalar_count n ≡ true
    all next n from below = grind (arith, nat_tests)
in_gaps next n (range ∷ ranges) rise from below =
    let lower : RiseFrom (range.1 + 1) ranges = RiseFrom-lower (range.1 + 2) (range.1 + 1) ranges rise.3 (omega arith) in
    let split : in_ranges (part next range.0 ++ gaps_from (range.1 + 1) ranges) n ≡ (within next range.0 n || in_ranges (gaps_from (range.1 + 1) ranges) n) =
    in_ranges-append (part next range.0) (gaps_from (range.1 + 1) ranges) n ∙ ap (λ b. b || in_ranges (gaps_from (range.1 + 1) ranges) n) (in_part next range.0 n) in
    elim (cases_lt n range.0) [
      | inl less ↦
          let before : within next range.0 n ≡ true = before_it next range.0 n from less in
          let out : in_range n range ≡ false = in_range_below n range less in
          let others : in_ranges ranges n ≡ false = in_ranges_below (range.1 + 2) n ranges rise.3 (omega arith) in
          split ∙ ap (λ b. b || in_ranges (gaps_from (range.1 + 1) ranges) n) before ∙ sym (ap not (or_from _ _ out others))
      | inr more ↦
          let after : within next range.0 n ≡ false = after_it next range.0 n more in
          let later : in_ranges (gaps_from (range.1 + 1) ranges) n ≡ not (in_range n range || in_ranges ranges n) = elim (cases_lt range.1 n) [
            | inl above ↦ in_gaps (range.1 + 1) n ranges lower (omega arith) below ∙ sym (ap (λ b. not (b || in_ranges ranges n)) (in_range_above n range above))
            | inr inside ↦
                in_ranges_below (range.1 + 1) n (gaps_from (range.1 + 1) ranges) (gaps_rise (range.1 + 1) ranges lower) (omega arith)
                ∙ sym (ap (λ b. not (b || in_ranges ranges n)) (in_range_within n range more inside))
          ] in
          split ∙ ap (λ b. b || in_ranges (gaps_from (range.1 + 1) ranges) n) after ∙ later
    ]
  where
    before_it : (a b n : ℕ) → a ≤ n → n < b → within a b n ≡ true
    before_it a b n from less = grind (arith, nat_tests)

    after_it : (a b n : ℕ) → b ≤ n → within a b n ≡ false
    after_it a b n more = grind (arith, nat_tests)

-- the firsts of the ranges don't fall, from an ordinal on
abbrev pub FirstsRise : ℕ → List Range → Type 0
FirstsRise n [] = Unit {0}
FirstsRise n (range ∷ ranges) = (n ≤ range.0) × FirstsRise range.0 ranges

FirstsRise-lower : (m k : ℕ) (ranges : List Range) → FirstsRise m ranges → k ≤ m → FirstsRise k ranges
FirstsRise-lower m k [] rise le = tt
FirstsRise-lower m k (range ∷ ranges) rise le = (omega arith, rise.1)

pub FirstsRise-from : (n : ℕ) (ranges : List Range) → ((k : ℕ) → k < length ranges → n ≤ (get_or ranges k (0, 0)).0) → IsNonDecreasingBy (λ (r : Range). r.0) ranges → FirstsRise n ranges
FirstsRise-from n [] low sorted = tt
FirstsRise-from n (range ∷ ranges) low sorted = (
  low 0 (omega arith),
  FirstsRise-from range.0 ranges (λ k below. sorted 0 (suc k) (0, 0) (omega arith) (omega arith)) (λ i j d le below. sorted (suc i) (suc j) d (omega arith) (omega arith)),
)

-- one past the last ordinal of a range that is of a scalar value
abbrev pub end_of : Range → ℕ
end_of range = min range.1 (scalar_count - 1) + 1

-- ranges whose firsts don't fall, joined to what begins at an ordinal and goes on up to an end
abbrev pub joined_from : ℕ → ℕ → List Range → List Range
joined_from start end [] = part start end
joined_from start end (range ∷ ranges) =
    cond (nat_lt end range.0) (part start end ++ joined_from range.0 (end_of range) ranges) (joined_from start (max end (end_of range)) ranges)

pub joined_apart : (start end : ℕ) (range : Range) (ranges : List Range) → end < range.0 → joined_from start end (range ∷ ranges) ≡ part start end ++ joined_from range.0 (end_of range) ranges
joined_apart start end range ranges less = ap (λ b. cond b (part start end ++ joined_from range.0 (end_of range) ranges) (joined_from start (max end (end_of range)) ranges)) (is_less end range.0 less)
  where
    is_less : (a b : ℕ) → a < b → nat_lt a b ≡ true
    is_less a b less = grind (arith, nat_tests)

pub joined_on : (start end : ℕ) (range : Range) (ranges : List Range) → range.0 ≤ end → joined_from start end (range ∷ ranges) ≡ joined_from start (max end (end_of range)) ranges
joined_on start end range ranges more = ap (λ b. cond b (part start end ++ joined_from range.0 (end_of range) ranges) (joined_from start (max end (end_of range)) ranges)) (is_not end range.0 more)
  where
    is_not : (a b : ℕ) → b ≤ a → nat_lt a b ≡ false
    is_not a b more = grind (arith, nat_tests)

end_of_bound : (range : Range) → end_of range ≤ scalar_count
end_of_bound range = grind arith

pub joined_rise : (free start end : ℕ) (ranges : List Range) → free ≤ start → end ≤ scalar_count → FirstsRise start ranges → RiseFrom free (joined_from start end ranges)
joined_rise free start end [] low high firsts = RiseFrom-last_part free start end low high
joined_rise free start end (range ∷ ranges) low high firsts = elim (cases_lt end range.0) [
  | inl less ↦
      let rest : RiseFrom range.0 (joined_from range.0 (end_of range) ranges) = joined_rise range.0 range.0 (end_of range) ranges (omega arith) (end_of_bound range) firsts.1 in
      subst (RiseFrom free) (sym (joined_apart start end range ranges less)) (RiseFrom-part free start end range.0 _ low high less (omega arith) rest)
  | inr more ↦
      let high' : max end (end_of range) ≤ scalar_count = omega (arith, end_of_bound range) in
      subst (RiseFrom free) (sym (joined_on start end range ranges more))
      (joined_rise free start (max end (end_of range)) ranges low high' (FirstsRise-lower range.0 start ranges firsts.1 firsts.0))
]

or_assoc : (x y z : Bool) → (x || (y || z)) ≡ ((x || y) || z)
or_assoc true y z = refl
or_assoc false y z = refl

in_end : (n : ℕ) (range : Range) → n < scalar_count → within range.0 (end_of range) n ≡ in_range n range
in_end n range below = grind (arith, nat_tests)

in_both : (start end n : ℕ) (range : Range) → n < scalar_count → start ≤ range.0 → range.0 ≤ end → within start (max end (end_of range)) n ≡ (within start end n || in_range n range)
in_both start end n range below low more = grind (arith, nat_tests)

pub in_joined : (start end n : ℕ) (ranges : List Range) → n < scalar_count → FirstsRise start ranges → in_ranges (joined_from start end ranges) n ≡ (within start end n || in_ranges ranges n)
in_joined start end n [] below firsts = in_part start end n ∙ or-false (within start end n)
  where
    or-false : (x : Bool) → x ≡ (x || false)
    or-false true = refl
    or-false false = refl
in_joined start end n (range ∷ ranges) below firsts = elim (cases_lt end range.0) [
  | inl less ↦
      ap (λ l. in_ranges l n) (joined_apart start end range ranges less) ∙ in_ranges-append (part start end) _ n
      ∙ ap₂ ◌||◌ (in_part start end n) (in_joined range.0 (end_of range) n ranges below firsts.1 ∙ ap (λ b. b || in_ranges ranges n) (in_end n range below))
  | inr more ↦
      ap (λ l. in_ranges l n) (joined_on start end range ranges more)
      ∙ in_joined start (max end (end_of range)) n ranges below (FirstsRise-lower range.0 start ranges firsts.1 firsts.0)
      ∙ ap (λ b. b || in_ranges ranges n) (in_both start end n range below firsts.0 more)
      ∙ sym (or_assoc (within start end n) (in_range n range) (in_ranges ranges n))
]

-- a range of those that rise from an ordinal begins there or later, and has a member
pub RiseFrom-at : (m k : ℕ) (ranges : List Range) → RiseFrom m ranges → k < length ranges → (m ≤ (get_or ranges k (0, 0)).0) × ((get_or ranges k (0, 0)).0 ≤ (get_or ranges k (0, 0)).1) × ((get_or ranges k (0, 0)).1 < scalar_count)
RiseFrom-at m k [] rise below = absurd (omega arith)
RiseFrom-at m zero (range ∷ ranges) rise below = (rise.0, rise.1, rise.2)
RiseFrom-at m (suc k) (range ∷ ranges) rise below =
    let rest = RiseFrom-at (range.1 + 2) k ranges rise.3 (omega arith) in
    let low : m ≤ (get_or ranges k (0, 0)).0 = omega (arith, rest.0) in (low, rest.1, rest.2)

-- what is above a range is in none up to it
pub none_up_to : (m k n : ℕ) (ranges : List Range) → RiseFrom m ranges → k < length ranges → (get_or ranges k (0, 0)).1 < n → in_ranges (take (suc k) ranges) n ≡ false
none_up_to m k n [] rise below above = absurd (omega arith)
none_up_to m zero n (range ∷ ranges) rise below above = or_from _ _ (in_range_above n range above) refl
none_up_to m (suc k) n (range ∷ ranges) rise below above =
    let rest = RiseFrom-at (range.1 + 2) k ranges rise.3 (omega arith) in
    or_from _ _ (in_range_above n range (omega (arith, rest.0, rest.1))) (none_up_to (range.1 + 2) k n ranges rise.3 (omega arith) above)

-- and what is below a range is in none from it on
pub none_from : (m k n : ℕ) (ranges : List Range) → RiseFrom m ranges → k < length ranges → n < (get_or ranges k (0, 0)).0 → in_ranges (drop k ranges) n ≡ false
none_from m k n [] rise below less = absurd (omega arith)
none_from m zero n (range ∷ ranges) rise below less =
    in_ranges_below range.0 n (range ∷ ranges) (omega arith, rise.1, rise.2, rise.3) less
none_from m (suc k) n (range ∷ ranges) rise below less = none_from (range.1 + 2) k n ranges rise.3 (omega arith) less

-- one more part on a list that what is still to come completes
pub pushed : (old new more rest whole : List Range) → new ≡ old ++ more → old ++ (more ++ rest) ≡ whole → new ++ rest ≡ whole
pushed old new more rest whole is e = ap (λ l. l ++ rest) is ∙ append_assoc old more rest ∙ e

-- the gaps are whole once no range is left
pub gaps_whole : (next i : ℕ) (gaps new rs : List Range) → length rs ≤ i → gaps ++ gaps_from next (drop i rs) ≡ gaps_from 0 rs → new ≡ gaps ++ part next scalar_count → new ≡ gaps_from 0 rs
gaps_whole next i gaps new rs past whole is = is ∙ ap (λ l. gaps ++ gaps_from next l) (sym (drop_all i rs past)) ∙ whole

-- and so is what is joined
pub joined_whole : (start end i : ℕ) (joined new rs : List Range) → length rs ≤ i → joined ++ joined_from start end (drop i rs) ≡ joined_from 0 0 rs → new ≡ joined ++ part start end → new ≡ joined_from 0 0 rs
joined_whole start end i joined new rs past whole is =
    is ∙ ap (λ l. joined ++ joined_from start end l) (sym (drop_all i rs past)) ∙ whole

-- what is joined holds what the ranges hold
pub in_joined_whole : (n : ℕ) (ranges : List Range) → n < scalar_count → FirstsRise 0 ranges → in_ranges (joined_from 0 0 ranges) n ≡ in_ranges ranges n
in_joined_whole n ranges below firsts = in_joined 0 0 n ranges below firsts ∙ ap (λ b. b || in_ranges ranges n) (nowhere n)
  where
    nowhere : (n : ℕ) → within 0 0 n ≡ false
    nowhere n = grind (arith, nat_tests)

-- within a list no default is read
pub get_or-within : (rs : List Range) (k : ℕ) (d e : Range) → k < length rs → get_or rs k d ≡ get_or rs k e
get_or-within [] k d e below = absurd (omega arith)
get_or-within (r ∷ rs) zero d e below = refl
get_or-within (r ∷ rs) (suc k) d e below = get_or-within rs k d e (omega arith)
