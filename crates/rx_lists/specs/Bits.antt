-- Sets of numbers in bits, and of nodes by their numbers.
use Rattle.std.specs.Prelude.{◌≡◌, ◌⊎◌, ℕ, ◌/◌, ◌%◌, Bool, true, eqb, List, get_or, Some, Contains}
use Rattle.std.specs.Int.{bit_at}
use Rattle.rx_steps.specs.Nodes.{index_from}

-- whether a number's bit is 1 in words of 64 bits, the lowest ones first
abbrev pub has_bit : List ℕ → ℕ → Bool
has_bit words n = eqb (bit_at (get_or words (n / 64) 0) (n % 64)) 1

-- a node's number is in the set, by the number of nodes of each state
abbrev pub HasNode : List ℕ → List ℕ → ℕ × ℕ → Type 0
HasNode widths words q =
    (k : ℕ) × (index_from 0 widths q.0 q.1 ≡ Some k) × (has_bit words k ≡ true)

-- a node was added, if it has a number, and no other one
pub record IsPut (widths old : List ℕ) (x : ℕ × ℕ) (new : List ℕ) : Type 0 where
  pub only : (q : ℕ × ℕ) → HasNode widths new q → HasNode widths old q ⊎ (x ≡ q)
  pub others : (q : ℕ × ℕ) → HasNode widths old q → HasNode widths new q
  pub there : (k : ℕ) → index_from 0 widths x.0 x.1 ≡ Some k → HasNode widths new x

-- the set of these nodes, as far as they have a number
pub record IsNodeSetOf (widths : List ℕ) (nodes : List (ℕ × ℕ)) (set : List ℕ) : Type 0 where
  pub these : (q : ℕ × ℕ) → HasNode widths set q → Contains nodes q
  pub all : (q : ℕ × ℕ) (k : ℕ) → Contains nodes q → index_from 0 widths q.0 q.1 ≡ Some k
      → HasNode widths set q
