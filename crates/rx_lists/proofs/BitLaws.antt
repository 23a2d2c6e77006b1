-- Sets of numbers in bits: what is added.
use Rattle.std.proofs.Common.{◌≡◌, ◌≢◌, ℕ, ◌*◌, ◌/◌, ◌%◌, ◌^◌, ◌<◌, true, eqb, List, length, get_or, set, get_or-set_same, get_or-set_other, sym, ap, ◌∙◌, arith, w64, inl, inr}
use Rattle.std.proofs.lemmas.Bool.{cases_eq, eq-eqb}
use Rattle.std.proofs.lemmas.Nat.Bits.{bit_at_set_same, bit_at_set_other}
use Rattle.std.specs.Prelude.{bit_or}
use Rattle.std.specs.Int.{bit_at}
use Rattle.rx_lists.specs.Bits.{has_bit}

pub bit_there : (words : List ℕ) (n word : ℕ) → n < 64 * length words → has_bit (set words (n / 64) (bit_or word (1 * 2 ^ (n % 64) % 2 ^ 64))) n ≡ true
bit_there words n word within =
    ap (λ x. eqb (bit_at x (n % 64)) 1) (get_or-set_same words (n / 64) (bit_or word (1 * 2 ^ (n % 64) % 2 ^ 64)) 0 (omega (arith, within)))
    ∙ eq-eqb _ 1 (bit_at_set_same w64 word (n % 64) (omega arith))

pub bit_elsewhere : (words : List ℕ) (n word k : ℕ) → n < 64 * length words → word ≡ get_or words (n / 64) 0 → k ≢ n → has_bit (set words (n / 64) (bit_or word (1 * 2 ^ (n % 64) % 2 ^ 64))) k ≡ has_bit words k
bit_elsewhere words n word k within read other =
    let v : ℕ = bit_or word (1 * 2 ^ (n % 64) % 2 ^ 64) in
    elim (cases_eq (k / 64) (n / 64)) [
      | inl row ↦
          ap (λ x. eqb (bit_at (get_or (set words (n / 64) v) x 0) (k % 64)) 1) row
          ∙ ap (λ x. eqb (bit_at x (k % 64)) 1) (get_or-set_same words (n / 64) v 0 (omega (arith, within)))
          ∙ ap (λ x. eqb x 1) (bit_at_set_other w64 word (n % 64) (omega arith) (k % 64) (omega (arith, row, other)))
          ∙ ap (λ x. eqb (bit_at x (k % 64)) 1) (read ∙ ap (λ x. get_or words x 0) (sym row))
      | inr apart ↦ ap (λ x. eqb (bit_at x (k % 64)) 1) (get_or-set_other words (n / 64) (k / 64) v 0 apart)
    ]
