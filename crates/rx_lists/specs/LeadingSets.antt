-- Sets of leading nodes.
use Rattle.std.specs.Prelude.{◌≡◌, ℕ, ◌-◌, ◌*◌, ◌≤◌, List, Some, slice_get}
use Rattle.rx_walks.specs.Leading.{LeadsToMatch}
use Rattle.rx_walks.specs.Finds.{Search}
use Rattle.rx_walks.specs.ProgramFinds.{highest}
use Rattle.rx_program.specs.Programs.{ByteProgram}
use Rattle.rx_steps.specs.Nodes.{widths_of, IsNodeIn}
use Rattle.rx_steps.specs.Coming.{machine_in}
use Rattle.rx_lists.specs.Bits.{HasNode}

-- a set is of the nodes of a program that lead to a match from an offset of a search
pub record IsLeadingSet (p : ByteProgram) (s : Search) (i : ℕ) (set : List ℕ) : Type 0 where
  pub leads : (q : ℕ × ℕ) → HasNode (widths_of p) set q → LeadsToMatch (machine_in p s) q i
  pub all : (q : ℕ × ℕ) → IsNodeIn p.states q → LeadsToMatch (machine_in p s) q i
      → HasNode (widths_of p) set q

-- sets are of the leading nodes at an offset, and at offsets each a distance before the last
abbrev pub AreLeadingSets : ByteProgram → Search → ℕ → ℕ → List (List ℕ) → Type 0
AreLeadingSets p s last distance sets = (k : ℕ) (set : List ℕ) → slice_get sets k ≡ Some set
    → IsLeadingSet p s (last - k * distance) set

-- there is such a set for each offset from this one to the last
abbrev pub HasLeadingSets : ByteProgram → Search → ℕ → Type 0
HasLeadingSets p s i = (j : ℕ) → i ≤ j → j ≤ highest s → (set : List ℕ) × IsLeadingSet p s j set
