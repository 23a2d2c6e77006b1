-- The first lane that is not 0: by the lowest bit of a number, and in a chunk of the numbers of a text's bytes.
use Rattle.std.proofs.Common.{◌≡◌, ℕ, zero, suc, ◌+◌, ◌*◌, ◌/◌, ◌%◌, ◌^◌, ◌<◌, ◌≤◌, List, map, length, take, sum, get_or, inl, inr, refl, ap, ◌∙◌, sym, arith, w64}
use Rattle.std.specs.Prelude.{◌==◌, not}
use Rattle.std.specs.Int.{bit_at, trailing_zeros}
use lib.Count.{count_trailing_zeros}
use Rattle.std.specs.List.{prefix_len}
use Rattle.std.proofs.lemmas.Bool.{cases_eq, eq-eqb, eqb-true, ne_eqb, eqb-false}
use Rattle.std.proofs.lemmas.List.Sums.{prefix_len_is, prefix_len_passes, prefix_len_stops, sum_by_more}
use Rattle.std.proofs.lemmas.Nat.{shr-shr}
use Rattle.std.proofs.lemmas.Simd.{leading_from_mask_l, trailing_mask_l}
use Rattle.std.proofs.Math.Bool.{not-not}
use Rattle.std.specs.Simd.Lanes.{mask_l}
use Rattle.std.proofs.lemmas.Nat.Bits.{bit_at-zero, bit_at_cat_low, bit_at-trailing_zeros, same_from_bits_below}
use Rattle.str_indices.specs.Bytes.{IsFirstPast}
use Rattle.str_indices.specs.Lanes.{HasLanes, low_bytes}
use Rattle.str_indices.proofs.Words.{length-low_bytes, low_bytes-below}

positive : (x : ℕ) → (x ≡ 0 → ⊥) → 0 < x
positive zero other = absurd (other refl)
positive (suc x) other = omega arith

-- ---- the bits of a number, lane by lane
bit_at-low_bytes : (k n i j : ℕ) → i < k → j < 8 → bit_at (get_or (low_bytes k n) i 0) j ≡ bit_at n (8 * i + j)
bit_at-low_bytes zero n i j l m = absurd (omega arith)
bit_at-low_bytes (suc k) n zero j l m =
    let e : n ≡ n / 256 * 2 ^ 8 + n % 256 = omega arith in
    sym (bit_at_cat_low (n / 256) 8 (n % 256) j m) ∙ ap (λ x. bit_at x j) (sym e) ∙ ap (bit_at n) (let f : j ≡ 8 * zero + j = omega arith in f)
bit_at-low_bytes (suc k) n (suc i) j l m =
    let e : 8 + (8 * i + j) ≡ 8 * suc i + j = omega arith in
    bit_at-low_bytes k (n / 256) i j (omega arith) m ∙ ap (λ x. x % 2) (shr-shr n 8 (8 * i + j)) ∙ ap (bit_at n) e

module _ (n : ℕ) (fits : n < 2 ^ 64) (some : 0 < n) where
  abbrev lowest : ℕ
  lowest = trailing_zeros w64 n

  -- a lane has no bit below the lowest one
  before : (k : ℕ) → k < lowest / 8 → get_or (low_bytes 8 n) k 0 ≡ 0
  before k l =
      let found = bit_at-trailing_zeros w64 n some fits in
      same_from_bits_below 8 (get_or (low_bytes 8 n) k 0) 0 (omega (arith, low_bytes-below 8 n k)) (omega arith)
      (λ i m. bit_at-low_bytes 8 n k i (omega (arith, found.0)) m ∙ found.2 (8 * k + i) (omega arith) ∙ sym (bit_at-zero i))

  there : get_or (low_bytes 8 n) (lowest / 8) 0 ≡ 0 → ⊥
  there none =
      let found = bit_at-trailing_zeros w64 n some fits in
      let e : 8 * (lowest / 8) + lowest % 8 ≡ lowest = omega arith in
      let bit = bit_at-low_bytes 8 n (lowest / 8) (lowest % 8) (omega (arith, found.0)) (omega arith) in
      omega (arith, bit, ap (λ x. bit_at x (lowest % 8)) none, bit_at-zero (lowest % 8), ap (bit_at n) e, found.1)

  lowest_is : prefix_len (λ lane. lane == 0) (low_bytes 8 n) ≡ lowest / 8
  lowest_is =
      let found = bit_at-trailing_zeros w64 n some fits in
      prefix_len_is (λ lane. lane == 0) (low_bytes 8 n) (lowest / 8) 0 (omega (arith, found.0, length-low_bytes 8 n))
      (λ k l. eq-eqb _ _ (before k l)) (λ _. ne_eqb _ _ there)

pub low_bytes-first_nonzero : (n : ℕ) → n < 2 ^ 64 → trailing_zeros w64 n / 8 ≡ prefix_len (λ lane. lane == 0) (low_bytes 8 n)
unfolding count_trailing_zeros
low_bytes-first_nonzero n fits =
    elim (cases_eq n 0) [
      | inl none ↦ rw none refl
      | inr other ↦ sym (lowest_is n fits (omega (arith, other)))
    ]

-- ---- a vector's mask has a bit for each lane that is not 0
module _ (v : List ℕ) (mask : ℕ) (few : length v ≤ 64) (e : mask ≡ mask_l (map (λ x. not (x == 0)) v)) where
  same_test : prefix_len (λ x. not (not (x == 0))) v ≡ prefix_len (λ lane. lane == 0) v
  same_test = ap (λ p. prefix_len p v) (λ i x. not-not (x == 0) i)

  pub no_bits : mask ≡ 0 → length v ≡ prefix_len (λ lane. lane == 0) v
  no_bits none = sym (leading_from_mask_l (λ x. not (x == 0)) v (sym e ∙ none)) ∙ same_test

  pub lowest_bit : (mask ≡ 0 → ⊥) → trailing_zeros w64 mask ≡ prefix_len (λ lane. lane == 0) v
  lowest_bit some = ap (trailing_zeros w64) e ∙ trailing_mask_l (λ x. not (x == 0)) 64 v few (omega (arith, positive mask some, e)) ∙ same_test

-- ---- the first number that is not 0
pub first_past-found : (ws : List ℕ) (at : ℕ) → sum (take at ws) ≡ 0 → at < length ws → 0 < get_or ws at 0 → IsFirstPast ws 0 at
first_past-found ws at none inside some = record {
  within = omega arith;
  before = omega arith;
  passed = λ _. omega (arith, sum_by_more (λ x. x) ws at 0 inside);
}

module _ (n at : ℕ) (ws part : List ℕ) (room : at + n ≤ length ws) (loaded : HasLanes n part (λ i. get_or ws (at + i) 0)) (none : sum (take at ws) ≡ 0) where
  abbrev zeros : ℕ
  zeros = prefix_len (λ lane. lane == 0) part

  pub zeros_pass : (j : ℕ) → j ≤ n → j ≤ zeros → sum (take (at + j) ws) ≡ 0
  zeros_pass zero l h = omega (arith, none, ap (λ m. sum (take m ws)) (let e : at + zero ≡ at = omega arith in e))
  zeros_pass (suc j) l h =
      let zero_lane : get_or part j 0 ≡ 0 = eqb-true _ _ (prefix_len_passes (λ lane. lane == 0) part j 0 (omega arith)) in
      let e : at + suc j ≡ at + j + 1 = omega arith in
      omega (arith, zeros_pass j (omega arith) (omega arith), ap (λ m. sum (take m ws)) e, sum_by_more (λ x. x) ws (at + j) 0 (omega arith), loaded.each j (omega arith), zero_lane)

  pub first_past-lane : zeros < n → IsFirstPast ws 0 (at + zeros)
  first_past-lane inside =
      let stops = prefix_len_stops (λ lane. lane == 0) part 0 (omega (arith, loaded.long)) in
      let some : 0 < get_or part zeros 0 = positive (get_or part zeros 0) (eqb-false _ _ stops) in
      first_past-found ws (at + zeros) (zeros_pass zeros (omega arith) (omega arith)) (omega arith) (omega (arith, some, loaded.each zeros inside))
