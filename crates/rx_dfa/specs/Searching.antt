-- What a search with an automaton knows at an offset, and what it returns.
use Rattle.std.specs.Prelude.{◌≡◌, ℕ, ◌≤◌, ◌↔◌, false, IsTrue, List, [], Option, Some, None, option_map, slice_get}
use Rattle.std.specs.Str.{IsCharBoundary}
use Rattle.unicode.specs.Perl.{is_word_char}
use Rattle.rx_util.specs.Search.{HalfFound}
use Rattle.rx_walks.specs.Finds.{Search, is_anchored}
use Rattle.rx_walks.specs.Laws.{MayBegin}
use Rattle.rx_walks.specs.Looks.{asks_characters}
use Rattle.rx_walks.specs.Machines.{Outcome}
use Rattle.rx_walks.specs.Programs.{Notes, left_from}
use Rattle.rx_walks.specs.ProgramFinds.{ProgramFinds, before_in, after_in}
use Rattle.rx_utf8.specs.Automata.{is_in}
use Rattle.rx_program.specs.declared.states.State.{State}
use Rattle.rx_program.specs.Programs.{ByteProgram, character_program}
use Rattle.rx_steps.specs.declared.asked.AskedLooks.{AskedLooks}
use Rattle.rx_steps.specs.Threads.{Slots}
use Rattle.rx_steps.specs.Asked.{AsksSome, is_look, is_of_lines}
use Rattle.rx_steps.specs.Coming.{HasCome, machine_in}
use Rattle.rx_steps.specs.Searching.{haystack_in}
use Rattle.rx_dfa.specs.declared.states.Ahead.{Ahead}
use Rattle.rx_dfa.specs.declared.states.Starting.{Starting}
use Rattle.rx_dfa.specs.declared.states.Starting.TheVariants.{Never, Once, Always}
use Rattle.rx_dfa.specs.declared.states.AutomatonState.{AutomatonState}
use Rattle.rx_dfa.specs.Behind.{behind_of, quits}

-- the kinds of look-around assertions in a program's states
pub record AreAskedBy (states : List State) (asked : AskedLooks) : Type 0 where
  pub any : IsTrue asked.any ↔ AsksSome states is_look
  pub lines : IsTrue asked.lines ↔ AsksSome states is_of_lines
  pub words : IsTrue asked.words ↔ AsksSome states asks_characters

-- a pattern and the end of its match, as the outcome of a walk without slots
abbrev pub half_outcome : HalfFound → Outcome Slots
half_outcome f = record { pattern = f.pattern; end = f.offset; notes = [] }

-- the last match end after an offset, if a match of this pattern ended there
abbrev pub met_after : ℕ → Option ℕ → Option HalfFound → Option HalfFound
met_after i None met = met
met_after i (Some k) met = Some (record { pattern = k; offset = i })

-- walks start like this from an offset on
abbrev pub StartsSo : Search → ℕ → ℕ → Starting → Option HalfFound → Type 0
StartsSo s q i Never met = met ≡ None → (j : ℕ) → i ≤ j → MayBegin s j → ⊥
StartsSo s q i (Once r) met =
    (r ≡ q) × (met ≡ None) × IsTrue (is_anchored s.anchoring) × (i ≡ s.start)
StartsSo s q i (Always r) met = (r ≡ q) × (met ≡ None) × (is_anchored s.anchoring ≡ false)

-- a search has reached an offset with these threads and this last match end, and walks start as the
-- state says
pub record HasReached (p : ByteProgram) (s : Search) (q i : ℕ) (x : AutomatonState)
    (met : Option HalfFound) : Type 0 where
  pub come : HasCome (machine_in p s) s q [] i x.threads.threads (option_map half_outcome met)
  pub starts : StartsSo s q i x.starting met

-- the bytes of the slice next to an offset
abbrev pub byte_before : Search → ℕ → Option ℕ
byte_before s i = slice_get (before_in s i) 0

abbrev pub byte_after : Search → ℕ → Option ℕ
byte_after s i = slice_get (after_in s i) 0

-- what the state says precedes the offset does precede it, as far as assertions see
pub record IsBehind (p : ByteProgram) (asked : AskedLooks) (s : Search) (i : ℕ)
    (x : AutomatonState) : Type 0 where
  pub is : x.behind ≡ behind_of asked p.line_terminator (byte_before s i)
  pub told : quits asked (byte_before s i) ≡ false

-- this follows the offset
pub record IsAhead (p : ByteProgram) (asked : AskedLooks) (s : Search) (i : ℕ) (ahead : Ahead)
    : Type 0 where
  pub read : slice_get (left_from (haystack_in p.line_terminator s) i) 0 ≡ ahead.read
  pub seen : byte_after s i ≡ ahead.seen
  pub told : quits asked ahead.seen ≡ false
  pub may_begin : IsTrue ahead.may_begin
      ↔ (IsTrue s.utf8_empty → IsCharBoundary s.content i)

-- the result of a search: pattern and end of what the program finds
pub record IsHalfAnswer (p : ByteProgram) (s : Search) (met : Option HalfFound) : Type 0 where
  pub found : Option (Outcome Notes)
  pub finds : ProgramFinds is_in is_word_char (character_program p) s found
  pub met_is : met ≡ option_map (λ t. record { pattern = t.pattern; offset = t.end }) found
