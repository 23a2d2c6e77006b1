-- The direction in which an automaton reads a haystack: forward, or backward with a reverse
-- program.
use Rattle.std.specs.Prelude.{ℕ, Bool, true, false, List, Option}
use Rattle.rx_program.specs.Programs.{ByteProgram}
use Rattle.rx_program.specs.Reversed.{ReverseByteProgram}
use Rattle.rx_steps.specs.declared.place.Looks.{Looks}
use Rattle.rx_steps.specs.declared.place.Place.{Place}
use Rattle.rx_steps.specs.Threads.{Slots, Thread}
use Rattle.rx_steps.specs.Lists.{IsNextList}
use Rattle.rx_steps.specs.ListsAll.{nodes_of}
use Rattle.rx_steps.specs.Reversed.{IsNextListBack, byte_program_of}

-- a program, and whether it is a reverse program, whose walks read backward
pub record Directed : Type 0 where
  pub bytes : ByteProgram
  pub is_back : Bool

abbrev pub forward : ByteProgram → Directed
forward p = record { bytes = p; is_back = false }

abbrev pub backward : ReverseByteProgram → Directed
backward turned = record { bytes = byte_program_of turned; is_back = true }

-- the assertions that hold at a position, with its sides swapped
abbrev pub turned_looks : Looks → Looks
turned_looks looks = record {
  start = looks.end;
  end = looks.start;
  start_line = looks.end_line;
  end_line = looks.start_line;
  word_boundary = looks.word_boundary;
  no_word_boundary = looks.no_word_boundary;
}

-- the assertions between the side from which walks come and the side to which they go
abbrev pub looks_by : Bool → Looks → Looks
looks_by false looks = looks
looks_by true looks = turned_looks looks

-- a step from some threads gives others, and the pattern whose match ends there, or starts there if
-- they read backward
abbrev pub IsList : Bool → ByteProgram → Place → List Thread → List Thread → Option ℕ → Slots
    → Type 0
IsList false p place threads next met slots = IsNextList p place threads next met slots
IsList true p place threads next met slots =
    IsNextListBack p place (nodes_of threads) (nodes_of next) met
