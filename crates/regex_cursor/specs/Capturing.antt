-- The items of the iterator over matches with their groups.
use Rattle.std.specs.Prelude.{◌≡◌, Option, Result}
use Rattle.rx_util.specs.declared.search.MatchError.{MatchError}
use Rattle.rx_util.specs.Captured.{Captured}
use Rattle.rx_util.specs.Groups.{slot_len}
use Rattle.rx_input.specs.declared.cursor.Cursor.{Ghosts}
use Rattle.rx_input.specs.Inputs.{InputState}
use Rattle.rx_walks.specs.Finds.{Search}
use Rattle.rx_chunk.specs.Engines.{EngineFinds}
use Rattle.rx_chunk.specs.Iterating.{GivesInOrder, MatchesLeft, GivesNext, captured_of}
use Rattle.regex_cursor.specs.declared.engines.meta.captures_matches.CapturesMatches.{CapturesMatches}
use Rattle.regex_cursor.specs.Regexes.{RegexView, search_by}

-- the regex of an iterator, and the matches that it has left
abbrev pub regex_of : {C : Type 0} {cursor : Ghosts C} → CapturesMatches C cursor → RegexView
regex_of m = m.re.now

abbrev pub left_of : {C : Type 0} {cursor : Ghosts C} → CapturesMatches C cursor → MatchesLeft
left_of m = record {
  search = search_by m.re.now.engine m.input;
  last_end = m.last_match_end;
  is_over = m.is_over;
}

-- the input that it lends
abbrev pub input_of : {C : Type 0} {cursor : Ghosts C} → CapturesMatches C cursor → InputState
input_of m = m.input

-- a step of the iterator, which continues the search for the same regex: each match has all slots
-- of its groups
pub record Gives {C : Type 0} {cursor : Ghosts C} (m : CapturesMatches C cursor)
    (item : Option (Result Captured MatchError)) (n : CapturesMatches C cursor) : Type 0 where
  pub next : GivesNext (EngineFinds (regex_of m).engine)
      (captured_of (regex_of m).engine.groups (slot_len (regex_of m).engine.groups))
      (left_of m) item (left_of n)
  pub same_regex : regex_of n ≡ regex_of m

-- the items of an iterator of such steps, in order, as of the iterator over matches
abbrev pub GivesAll : {C : Type 0} {cursor : Ghosts C} → RegexView → Search
    → CapturesMatches C cursor → Type 0
GivesAll re s m = GivesInOrder re.engine
    (captured_of re.engine.groups (slot_len re.engine.groups)) Gives s m
