-- Binary search: the number of comparisons left.
use Rattle.std.proofs.Common.{◌≡◌, ℕ, ◌+◌, ◌*◌, ◌^◌, ◌<◌, ◌≤◌, inl, inr, ap, arith}
use Rattle.std.proofs.lemmas.Bool.{cases_lt}
use Rattle.std.proofs.lemmas.Grind.{pow_more}
use Rattle.std.proofs.Math.Nat.{pow-le-pow_right, mul-le-mul_left}

-- After n comparisons at most the 2^n-th part of 23 is left. While something is left, one more
-- comparison is allowed, and it leaves half.
pub few_left : (n left rest : ℕ) → 2 ^ n * left ≤ 23 → 0 < left → 2 * rest ≤ left → (n + 1 ≤ 5) × (2 ^ (n + 1) * rest ≤ 23)
few_left n left rest h some half =
    let one : 2 ^ n * 1 ≤ 2 ^ n * left = mul-le-mul_left (2 ^ n) some in
    let halves : 2 ^ n * (2 * rest) ≤ 2 ^ n * left = mul-le-mul_left (2 ^ n) half in
    let below : n + 1 ≤ 5 =
    elim (cases_lt n 5) [
      | inl p ↦ omega (arith, p)
      | inr p ↦ absurd (let high : 2 ^ 5 ≤ 2 ^ n = pow-le-pow_right {n = 2} (omega arith) p in omega (arith, high, one, h))
    ]
    in
    let next : 2 ^ (n + 1) * rest ≡ 2 ^ n * 2 * rest = ap (λ p. p * rest) (pow_more 2 n) in
    (below, omega (arith, next, halves, h))
