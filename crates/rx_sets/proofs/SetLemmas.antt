-- What is known of a list of ranges.
use Rattle.std.proofs.Common.{◌≡◌, ℕ, ◌+◌, ◌<◌, ◌≤◌, true, false, List, [], ◌∷◌, Result, Ok, Err, IfOk, refl, arith}
use Rattle.std.proofs.lemmas.Bool.{or_from}
use Rattle.std.proofs.lemmas.Bool.Decides.{nat_tests}
use Rattle.rx_sets.specs.Sets.{IsScalar, scalar_count, ordinal, Range, in_range, in_ranges, RiseFrom}

pub in_range_within : (n : ℕ) (range : Range) → range.0 ≤ n → n ≤ range.1 → in_range n range ≡ true
in_range_within n range low high = grind (arith, nat_tests)

pub in_range_below : (n : ℕ) (range : Range) → n < range.0 → in_range n range ≡ false
in_range_below n range below = grind (arith, nat_tests)

pub in_range_above : (n : ℕ) (range : Range) → range.1 < n → in_range n range ≡ false
in_range_above n range above = grind (arith, nat_tests)

-- what is below the first range is in none
pub in_ranges_below : (n k : ℕ) (ranges : List Range) → RiseFrom n ranges → k < n → in_ranges ranges k ≡ false
in_ranges_below n k [] rise below = refl
in_ranges_below n k (range ∷ ranges) rise below =
    or_from _ _ (in_range_below k range (omega arith)) (in_ranges_below (range.1 + 2) k ranges rise.3 (omega arith))

pub ordinal_below : (c : ℕ) → IsScalar c → ordinal c < scalar_count
ordinal_below c scalar = grind (arith, nat_tests)

-- what an `Ok` holds may be said in other words
pub IfOk-map : {T E : Type 0} (r : Result T E) (P Q : T → Type 0) → IfOk r P → ((x : T) → P x → Q x) → IfOk r Q
IfOk-map (Ok x) P Q h f = f x h
IfOk-map (Err e) P Q h f = tt
