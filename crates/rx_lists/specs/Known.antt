-- Known sets of nodes, and the backward steps between them.
use Rattle.std.specs.Prelude.{◌≡◌, ℕ, ◌+◌, ◌*◌, ◌<◌, ◌≤◌, List, length, Option, Some, slice_get}
use Rattle.rx_walks.specs.Finds.{Search, IsInside}
use Rattle.rx_program.specs.Programs.{ByteProgram}
use Rattle.rx_steps.specs.declared.place.Place.{Place}
use Rattle.rx_steps.specs.Coming.{machine_in}
use Rattle.rx_lists.specs.Leading.{Moves}
use Rattle.rx_lists.specs.LeadingSets.{IsLeadingSet}

-- if a set is of the leading nodes after such a position, another one is of those at it
abbrev pub IsSetBefore : ByteProgram → Place → List ℕ → List ℕ → Type 0
IsSetBefore p place beyond here = (s : Search) (i : ℕ) → IsInside s i
    → Moves (machine_in p s) i p.states place
    → IsLeadingSet p s (i + 1) beyond → IsLeadingSet p s i here

-- sets that were reached, and for each of them and each byte before it the number of the set there,
-- if it was reached
pub record KnownView : Type 0 where
  pub sets : List (List ℕ)
  pub before : List (Option ℕ)

-- the index of that number
abbrev pub column_of : ℕ → ℕ → ℕ
column_of number byte = number * 256 + byte

-- there is room for each number, and the numbers are those of known sets
pub record HasColumns (k : KnownView) : Type 0 where
  pub room : 256 * length k.sets ≤ length k.before
  pub from : (column to : ℕ) → slice_get k.before column ≡ Some (Some to)
      → column < 256 * length k.sets
  pub to : (column to : ℕ) → slice_get k.before column ≡ Some (Some to) → to < length k.sets

-- one set is before another one at each offset with that byte
abbrev pub IsAlwaysBefore : ByteProgram → ℕ → List ℕ → List ℕ → Type 0
IsAlwaysBefore p byte beyond here =
    (place : Place) → place.byte ≡ Some byte → IsSetBefore p place beyond here

-- the numbers are right
abbrev pub TellsTruly : ByteProgram → KnownView → Type 0
TellsTruly p k = (number byte to : ℕ) (beyond here : List ℕ) → byte < 256
    → slice_get k.before (column_of number byte) ≡ Some (Some to)
    → slice_get k.sets number ≡ Some beyond → slice_get k.sets to ≡ Some here
    → IsAlwaysBefore p byte beyond here
