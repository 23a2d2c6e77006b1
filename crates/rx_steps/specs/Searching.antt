-- The search that an input requests.
use Rattle.std.specs.Prelude.{◌≡◌, ℕ, ◌<◌, ◌≤◌, zero, suc, Bool, true, false, [], ◌∷◌, length, Option, Some, None, option_map}
use Rattle.unicode.specs.Perl.{is_word_char}
use Rattle.rx_util.specs.declared.search.Anchored.{Anchored}
use Rattle.rx_util.specs.declared.search.Anchored.TheVariants.{No, Yes, Pattern}
use Rattle.rx_input.specs.Inputs.{InputState}
use Rattle.rx_walks.specs.Looks as walks
use Rattle.rx_walks.specs.Finds.{Search, up_to_place, Anchoring, unanchored, anchored, anchored_pattern}
use Rattle.rx_walks.specs.Machines.{Outcome}
use Rattle.rx_walks.specs.Programs.{Haystack, Notes, slot_of}
use Rattle.rx_walks.specs.ProgramFinds.{haystack_of, holds_in, ProgramFinds}
use Rattle.rx_utf8.specs.Automata.{is_in}
use Rattle.rx_program.specs.Programs.{ByteProgram, character_program}
use Rattle.rx_steps.specs.Threads.{Slots, no_slots}

abbrev pub anchoring_of : Anchored → Anchoring
anchoring_of No = unanchored
anchoring_of Yes = anchored
anchoring_of (Pattern k) = anchored_pattern k

-- with a program that skips empty matches inside a character, or doesn't
abbrev pub search_of : Bool → InputState → Search
search_of utf8_empty i = record {
  content = i.cursor.content;
  slice_start = i.asked.slice.start;
  slice_end = i.asked.slice.end;
  start = i.asked.span.start;
  end = i.asked.span.end;
  anchoring = anchoring_of i.asked.anchored;
  utf8_empty = utf8_empty;
}

-- the offsets that walks can reach in a search, and the assertions that hold at them
abbrev pub haystack_in : ℕ → Search → Haystack walks.Look
haystack_in terminator s = haystack_of (holds_in is_word_char terminator s) s

-- what a walk noted, in `len` slots from `first` on
abbrev pub slots_from : ℕ → ℕ → Notes → Slots
slots_from first zero n = []
slots_from first (suc len) n = slot_of n first ∷ slots_from (suc first) len n

abbrev pub answer_slots : ℕ → Option (Outcome Notes) → Slots
answer_slots len None = no_slots len
answer_slots len (Some t) = slots_from 0 len t.notes

-- the result of a search: the pattern that the program finds, and its slots, as many as requested
pub record IsAnswer (p : ByteProgram) (s : Search) (pattern : Option ℕ) (slots : Slots)
    : Type 0 where
  pub found : Option (Outcome Notes)
  pub finds : ProgramFinds is_in is_word_char (character_program p) s found
  pub pattern_is : pattern ≡ option_map (λ t. t.pattern) found
  pub slots_are : slots ≡ answer_slots (length slots) found

-- the first match end in a search: there is a match up to this offset, and none up to one before it
pub record IsFirstEnd (p : ByteProgram) (s : Search) (end : ℕ) : Type 0 where
  pub in_span : end ≤ s.end
  pub found : Outcome Notes
  pub finds : ProgramFinds is_in is_word_char (character_program p) (up_to_place s end) (Some found)
  pub none_before : (i : ℕ) → i < end
      → ProgramFinds is_in is_word_char (character_program p) (up_to_place s i) None

-- the result of a search that stops at an offset: what the program finds; or, if any match may be
-- reported and there is one, what it finds up to this offset, which is the first match end
abbrev pub IsAnswerAt : Bool → ByteProgram → Search → ℕ → Option ℕ → Slots → Type 0
IsAnswerAt false p s end pattern slots = IsAnswer p s pattern slots
IsAnswerAt true p s end None slots = IsAnswer p s None slots
IsAnswerAt true p s end (Some k) slots =
    IsFirstEnd p s end × IsAnswer p (up_to_place s end) (Some k) slots
