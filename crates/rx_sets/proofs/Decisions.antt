-- Facts that are decided: each has a proof, or what refutes it.
use Rattle.std.proofs.Common.{◌≡◌, ◌⊎◌, inl, inr, ℕ, zero, suc, ◌<◌, ◌≤◌, Bool, true, false, refl, sym, subst, arith, true≢false}
use Rattle.std.proofs.lemmas.Bool.{cases_eq, cases_lt}

-- a fact, or what refutes it
abbrev pub Decided : Type 0 → Type 0
Decided P = P ⊎ (P → ⊥)

pub decided_true : (b : Bool) → Decided (b ≡ true)
decided_true true = inl refl
decided_true false = inr (λ e. true≢false (sym e))

pub decided_le : (m n : ℕ) → Decided (m ≤ n)
decided_le m n = elim (cases_lt n m) [
  | inl less ↦ inr (λ le. absurd (omega arith))
  | inr le ↦ inl le
]

pub decided_both : (P Q : Type 0) → Decided P → Decided Q → Decided (P × Q)
decided_both P Q (inl p) (inl q) = inl (p, q)
decided_both P Q (inl p) (inr none) = inr (λ both. none both.1)
decided_both P Q (inr none) q = inr (λ both. none both.0)

pub decided_either : (P Q : Type 0) → Decided P → Decided Q → Decided (P ⊎ Q)
decided_either P Q (inl p) q = inl (inl p)
decided_either P Q (inr none) (inl q) = inl (inr q)
decided_either P Q (inr none) (inr none') = inr (λ either. elim either [ inl p ↦ none p | inr q ↦ none' q ])

pub decided_not : (P : Type 0) → Decided P → Decided (P → ⊥)
decided_not P (inl p) = inr (λ none. none p)
decided_not P (inr none) = inl none

-- a search through the numbers below one
pub decided_below : (P : ℕ → Type 0) → ((k : ℕ) → Decided (P k)) → (n : ℕ) → Decided ((k : ℕ) × (k < n) × P k)
decided_below P each zero = inr (λ found. absurd (omega (arith, found.1)))
decided_below P each (suc n) = elim (each n) [
  | inl here ↦ inl (n, omega arith, here)
  | inr not_here ↦ elim (decided_below P each n) [
    | inl found ↦ inl (found.0, omega (arith, found.1), found.2)
    | inr none ↦ inr (λ found. elim (cases_eq found.0 n) [
      | inl e ↦ not_here (subst P e found.2)
      | inr other ↦ none (found.0, omega (arith, found.1, other), found.2)
    ])
  ]
]
