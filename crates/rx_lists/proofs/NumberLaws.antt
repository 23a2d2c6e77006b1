-- Offsets at distances, by their numbers.
use Rattle.std.proofs.Common.{◌≡◌, ℕ, suc, ◌+◌, ◌-◌, ◌*◌, ◌/◌, ◌%◌, ◌<◌, ◌≤◌, sym, ap, subst, ◌∙◌, arith, inl, inr}
use Rattle.std.proofs.lemmas.Bool.{cases_lt}
use Rattle.std.proofs.Math.Nat.{mul-le-mul_right, mod-lt}
use Rattle.std.proofs.lemmas.Nat.{div-add-mod'}

-- a multiple of a distance is at least a distance less than a greater one
pub one_less : (a b e : ℕ) → a < b → a * e + e ≤ b * e
one_less a b e below =
    let le : suc a * e ≤ b * e = mul-le-mul_right e (omega (arith, below)) in
    omega (arith, le)

-- the number of a distance, counted back
pub number_back : (d e : ℕ) → 0 < e → (d / e * e ≤ d) × (d < d / e * e + e)
number_back d e spaced =
    let whole : d / e * e + d % e ≡ d = div-add-mod' d e in
    let rest : d % e < e = mod-lt d spaced in
    (omega (arith, whole), omega (arith, whole, rest))

pub number_less : (n k d e : ℕ) → n * e ≤ d → d < k * e → n < k
number_less n k d e le less = elim (cases_lt n k) [
  | inl below ↦ below
  | inr above ↦ let more : k * e ≤ n * e = mul-le-mul_right e (omega (arith, above)) in omega (arith, le, less, more)
]

-- the block of an offset is at least a distance after the current one, if that ends before the
-- offset
pub further_top : (last at top e k n : ℕ) → 0 < e → top + k * e ≡ last → top < at → at ≤ last → n ≡ (last - at) / e
    → (n < k) × (n * e ≤ last) × (at ≤ last - n * e) × (last - n * e + n * e ≡ last) × (last - n * e - e < at) × (top + e ≤ last - n * e)
further_top last at top e k n spaced numbered past within is =
    let back = number_back (last - at) e spaced in
    let low : n * e ≤ last - at = subst (λ x. x * e ≤ last - at) (sym is) back.0 in
    let high : last - at < n * e + e = subst (λ x. last - at < x * e + e) (sym is) back.1 in
    let less : n < k = number_less n k (last - at) e low (omega (arith, numbered, past, within)) in
    let gap : n * e + e ≤ k * e = one_less n k e less in
    (less, omega (arith, low), omega (arith, low, within), omega (arith, low), omega (arith, low, high, within, past), omega (arith, low, gap, numbered, within))

pub one_more_times : (n e : ℕ) → (n + 1) * e ≡ n * e + e
one_more_times n e = let same : n + 1 ≡ suc n = omega arith in ap (λ k. k * e) same ∙ omega arith
