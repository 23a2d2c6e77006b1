-- All matches of a regex in an input, in order, in time linear in the input: by single finds as
-- long as these read at most all offsets once and three times those before them, and after that
-- from a list.
use Rattle.std.specs.Prelude.{◌≡◌, ℕ, ◌+◌, ◌-◌, ◌*◌, ◌≤◌, ◌==◌, Bool, true, false, cond, is_some, length, List, [], ◌∷◌, map, Option, Some, None, option_map, IfSome}
use Rattle.rx_util.specs.declared.search.MatchKind.TheVariants.{LeftmostFirst}
use Rattle.rx_util.specs.Search.{HalfFound}
use Rattle.rx_input.specs.Inputs.{InputState}
use Rattle.rx_walks.specs.Machines.{Outcome}
use Rattle.rx_walks.specs.Programs.{Notes}
use Rattle.rx_walks.specs.Finds.{Search}
use Rattle.rx_walks.specs.Iterating.{Finding}
use Rattle.rx_walks.specs.Matches.{Further}
use Rattle.rx_walks.specs.ProgramFinds.{finds_on, highest, lowest, end_of}
use Rattle.rx_program.specs.Programs.{character_program}
use Rattle.rx_steps.specs.Searching.{answer_slots, search_of}
use Rattle.rx_lists.specs.Lists.{Listed, listed_of}
use Rattle.rx_chunk.specs.Engines.{Engine, EngineFinds}
use Rattle.rx_chunk.specs.Iterating.{ComesNext, MatchesLeft, left_behind}
use Rattle.regex_cursor.specs.Regexes.{search_by}

-- matches that were listed: for which engine, with how many slots each, and what was listed of them
pub record FurtherMatches : Type 0 where
  pub engine : Engine
  pub slot_len : ℕ
  pub found : List Listed

-- The state: the input, whose span starts where the last match ended; that offset, if there was a
-- match; whether it has ended; the first offset of the whole; the number of offsets that finds
-- read; and the further matches, if they were listed
pub record LinearState : Type 0 where
  pub input : InputState
  pub last_end : Option ℕ
  pub is_over : Bool
  pub first : ℕ
  pub finds_read : ℕ
  pub rest : Option FurtherMatches

-- before the first match of an input
abbrev pub linear_from : InputState → LinearState
linear_from i = record {
  input = i;
  last_end = None;
  is_over = false;
  first = lowest (search_of true i);
  finds_read = 0;
  rest = None;
}

-- the matches that it has left, by an engine
abbrev pub left_of : Engine → LinearState → MatchesLeft
left_of e m = record { search = search_by e m.input; last_end = m.last_end; is_over = m.is_over }

-- ---- the next match

-- the next match of a search, by its pattern and its end, with its offsets in slots
pub record TellsWhatComes (finding : Finding) (s : Search) (last : Option ℕ)
    (half : Option HalfFound)
    (slots : List (Option ℕ)) : Type 0 where
  pub out : Option (Outcome Notes)
  pub comes : ComesNext finding s last out
  pub half_is : half ≡ option_map (λ t. record { pattern = t.pattern; offset = end_of t }) out
  pub slots_are : slots ≡ answer_slots (length slots) out

-- what is left after that, or that the search has ended
abbrev pub IsLeftBehind : MatchesLeft → Option (Outcome Notes) → MatchesLeft → Type 0
IsLeftBehind m None n = n.is_over ≡ true
IsLeftBehind m (Some t) n = n ≡ left_behind m (end_of t)

-- a step: the next match, by its pattern and by its offsets in slots, and what is left then
pub record GivesSlots (finding : Finding) (m : MatchesLeft) (pattern : Option ℕ)
    (slots : List (Option ℕ)) (n : MatchesLeft) : Type 0 where
  pub out : Option (Outcome Notes)
  pub comes : ComesNext finding m.search m.last_end out
  pub pattern_is : pattern ≡ option_map (λ t. t.pattern) out
  pub slots_are : slots ≡ answer_slots (length slots) out
  pub left_is : IsLeftBehind m out n

-- ---- lists of what is left

-- these are the matches of an engine in a search after one that ended at `end`, each with `len`
-- slots
pub record AreBehind (e : Engine) (s : Search) (end len : ℕ) (found : List Listed) : Type 0 where
  pub matches : List (Outcome Notes)
  pub further : Further (finds_on (EngineFinds e) s) end matches
  pub found_are : found ≡ map (listed_of len) matches

-- how many of the matches listed from an offset on are skipped after a match that ended there: only
-- an empty one at that offset
abbrev pub passed_over : ℕ → List Listed → ℕ
passed_over end [] = 0
passed_over end (l ∷ others) = cond (l.end == end) 1 0

-- the further matches were listed, of an engine that finds the leftmost one
pub record IsRestOf (m : LinearState) (r : FurtherMatches) : Type 0 where
  pub leftmost : r.engine.match_kind ≡ LeftmostFirst
  pub end : ℕ
  pub last_is : m.last_end ≡ Some end
  pub starts : m.input.asked.span.start ≡ end
  pub behind : AreBehind r.engine (search_by r.engine m.input) end r.slot_len r.found

-- engines that find the same in each search
pub record FindAlike (e f : Engine) : Type 0 where
  pub characters : character_program e.program ≡ character_program f.program
  pub utf8_empty : e.utf8_empty ≡ f.utf8_empty
  pub kind : e.match_kind ≡ f.match_kind

-- if the further matches were listed, it was for such an engine
abbrev pub IsListedFor : Engine → LinearState → Type 0
IsListedFor e m = IfSome m.rest (λ r. FindAlike r.engine e)

-- ---- offsets read

-- the number of offsets of the whole
abbrev pub all_places : LinearState → ℕ
all_places m = highest (search_of true m.input) + 1 - m.first

-- a bound on the number of offsets read: those that finds read, and six times all for a list
abbrev pub places_read : LinearState → ℕ
places_read m = m.finds_read + cond (is_some m.rest) (6 * all_places m) 0

-- if the further matches were listed, it was with this number of slots each, or more
abbrev pub HasListed : ℕ → LinearState → Type 0
HasListed len m = IfSome m.rest (λ r. len ≤ r.slot_len)

-- finds read at most four times the offsets, and ten; nothing was read before the first match;
-- until it has ended, the span starts where the last match ended, not before the first offset; and
-- what was listed is what is left
pub record IsLinear (m : LinearState) : Type 0 where
  pub few : m.finds_read ≤ 4 * all_places m + 10
  pub further : m.is_over ≡ false → m.first ≤ lowest (search_of true m.input)
  pub starts : m.is_over ≡ false → IfSome m.last_end (λ end. m.input.asked.span.start ≡ end)
  pub fresh : m.is_over ≡ false → m.last_end ≡ None → m.finds_read ≡ 0
  pub rest : IfSome m.rest (IsRestOf m)
