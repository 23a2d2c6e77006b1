-- Bytes at which no match begins.
use Rattle.std.specs.Prelude.{◌≡◌, ℕ, ◌<◌, ◌≤◌, ◌⊎◌, Bool, true, false, List, [], ◌∷◌, length, Option, Some, slice_get}
use Rattle.std.specs.Option.{is_some}
use Rattle.rx_walks.specs.Looks as walks
use Rattle.rx_walks.specs.Machines.{Outcome}
use Rattle.rx_walks.specs.Programs.{Haystack, is_within, left_from}
use Rattle.rx_walks.specs.Steps.{Steps}
use Rattle.rx_program.specs.Programs.{ByteProgram}
use Rattle.rx_steps.specs.Threads.{Slots, Thread, first_node}
use Rattle.rx_steps.specs.Lists.{slot_machine}

-- a byte is a member, in a list with a flag for each byte
abbrev pub Knows : List Bool → ℕ → Type 0
Knows idle b = slice_get idle b ≡ Some true

-- this byte can be skipped: it is a member, or a continuation byte and no match may begin inside a
-- character
abbrev pub IsPassed : List Bool → Bool → ℕ → Type 0
IsPassed idle utf8_empty b = Knows idle b ⊎ ((utf8_empty ≡ true) × (128 ≤ b) × (b < 192))

-- the byte at this offset can be skipped
abbrev pub IsPassedAt : List Bool → Bool → List ℕ → ℕ → Type 0
IsPassedAt idle utf8_empty bytes k =
    (b : ℕ) × (slice_get bytes k ≡ Some b) × IsPassed idle utf8_empty b

-- before this byte, a thread from the program's start leads nowhere: its step meets no match end
-- and reads nothing
abbrev pub IsIdle : ByteProgram → ℕ → Type 0
IsIdle p b = (h : Haystack walks.Look) (i : ℕ) (slots : Slots) (next : List Thread)
    (ended : Option (Outcome Slots)) → is_within h.low h.high i ≡ true
    → slice_get (left_from h i) 0 ≡ Some b
    → Steps (slot_machine p h) i [] ((slots, first_node p.start) ∷ []) next ended
    → (length next ≡ 0) × (is_some ended ≡ false)

abbrev pub AreIdle : ByteProgram → List Bool → Type 0
AreIdle p idle = (b : ℕ) → Knows idle b → IsIdle p b
