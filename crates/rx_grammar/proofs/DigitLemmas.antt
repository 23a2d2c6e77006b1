-- Numbers that digits spell, digit by digit.
use Rattle.std.proofs.Common.{ℕ, ◌+◌, ◌*◌, ◌≤◌, List, [], ◌∷◌, arith, le_trans}
use Rattle.std.specs.Char.{digit_value}
use Rattle.rx_grammar.specs.Sets.{IsScalar}
use Rattle.rx_grammar.specs.Escapes.{hex_after}
use Rattle.rx_grammar.specs.Repetitions.{decimal_after}

-- more digits spell no smaller number
pub hex_after-grows : (n : ℕ) (digits : List ℕ) → n ≤ hex_after n digits
hex_after-grows n [] = omega arith
hex_after-grows n (digit ∷ digits) = le_trans (omega arith) (hex_after-grows (16 * n + digit_value digit) digits)

pub decimal_after-grows : (n : ℕ) (digits : List ℕ) → n ≤ decimal_after n digits
decimal_after-grows n [] = omega arith
decimal_after-grows n (digit ∷ digits) = le_trans (omega arith) (decimal_after-grows (10 * n + digit_value digit) digits)

pub scalar_bound : (c : ℕ) → IsScalar c → c ≤ 0x10_FFFF
scalar_bound c scalar = grind arith
