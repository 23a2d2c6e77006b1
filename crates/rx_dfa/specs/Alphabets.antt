-- The alphabet of a program's automaton.
use Rattle.std.specs.Prelude.{◌≡◌, ℕ, ◌+◌, ◌==◌, Bool, false, Option, None, Some, length, slice_get}
use Rattle.rx_program.specs.Programs.{ByteProgram, IsByteProgram}
use Rattle.rx_program.specs.Reversed.{IsReverseByteProgram, ReverseByteProgram}
use Rattle.rx_steps.specs.Reversed.{byte_program_of}
use Rattle.rx_steps.specs.declared.asked.AskedLooks.{AskedLooks}
use Rattle.rx_dfa.specs.declared.states.Ahead.{Ahead}
use Rattle.rx_dfa.specs.Classes.{ByteClassesView, AreClassesOf}
use Rattle.rx_dfa.specs.States.{ahead_of, ahead_of_end}
use Rattle.rx_dfa.specs.Searching.{AreAskedBy}

-- what an automaton needs to know of a program: its look-around assertions, its classes of bytes,
-- and whether empty matches inside a character are skipped; and the approximate number of bytes
-- that its states may take
pub record AlphabetView : Type 0 where
  pub asked : AskedLooks
  pub classes : ByteClassesView
  pub utf8_empty : Bool
  pub capacity : ℕ

-- the assertions and the classes are those of this program
pub record TellsApart (p : ByteProgram) (alphabet : AlphabetView) : Type 0 where
  pub asked : AreAskedBy p.states alphabet.asked
  pub classes : AreClassesOf p alphabet.asked alphabet.classes

-- the alphabet of a program whose automata read the characters of its sets
pub record IsAlphabetOf (p : ByteProgram) (alphabet : AlphabetView) : Type 0 where
  pub reads : IsByteProgram p
  pub tells : TellsApart p alphabet

-- the alphabet of a reverse program whose automata read the characters of its sets from the last
-- byte to the first; a walk may start inside a character
pub record IsAlphabetBack (turned : ReverseByteProgram) (alphabet : AlphabetView) : Type 0 where
  pub reads : IsReverseByteProgram turned
  pub tells : TellsApart (byte_program_of turned) alphabet
  pub utf8_empty : alphabet.utf8_empty ≡ false

-- the columns of a table are the classes, and after them two for the end of the slice: one if a
-- match may begin there, and one if none may
abbrev pub column_count : AlphabetView → ℕ
column_count alphabet = length alphabet.classes.bytes + 2

-- what follows a position: this byte, or the end
abbrev pub ahead_at : Bool → Bool → Option ℕ → Ahead
ahead_at utf8_empty may_begin None = ahead_of_end may_begin
ahead_at utf8_empty may_begin (Some b) = ahead_of utf8_empty b

abbrev pub ahead_in : AlphabetView → ℕ → Ahead
ahead_in alphabet column = ahead_at alphabet.utf8_empty (column == length alphabet.classes.bytes)
    (slice_get alphabet.classes.bytes column)
