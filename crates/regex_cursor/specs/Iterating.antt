-- The items of the iterators of a regex.
use Rattle.std.specs.Prelude.{◌≡◌, ℕ, Option, Result}
use Rattle.rx_util.specs.declared.search.MatchError.{MatchError}
use Rattle.rx_util.specs.Search.{Found}
use Rattle.rx_input.specs.Inputs.{InputState}
use Rattle.rx_walks.specs.Finds.{Search, from_place_on}
pub use Rattle.rx_walks.specs.Iterating.{not_refused}
use Rattle.rx_chunk.specs.Engines.{EngineFinds, match_of}
pub use Rattle.rx_chunk.specs.Iterating.{GivesInOrder, MatchesLeft, GivesNext, matches_from, matches_left}
use Rattle.regex_cursor.specs.declared.engines.meta.find_matches.FindMatches.{FindMatches}
use Rattle.regex_cursor.specs.declared.engines.meta.finder.Finder.{Finder}
use Rattle.regex_cursor.specs.Regexes.{RegexView, search_by}

-- the regex of a finder, and the matches that it has left in an input
abbrev pub regex_in : Finder → RegexView
regex_in m = m.re.now

abbrev pub left_in : Finder → InputState → MatchesLeft
left_in m i = record {
  search = search_by m.re.now.engine i;
  last_end = m.last_match_end;
  is_over = m.is_over;
}

-- the regex of an iterator, and the matches that it has left
abbrev pub regex_of : {C : Type 0} → FindMatches C → RegexView
regex_of m = regex_in m.finder

abbrev pub left_of : {C : Type 0} → FindMatches C → MatchesLeft
left_of m = left_in m.finder m.input

-- the input that it lends
abbrev pub input_of : {C : Type 0} → FindMatches C → InputState
input_of m = m.input

-- it continues in the same haystack, from some offset on
abbrev pub SearchGoesOn : Search → Search → Type 0
SearchGoesOn s t = (start : ℕ) × (t ≡ from_place_on s start)

-- a step of the iterator, which continues the search for the same regex
pub record Gives {C : Type 0} (m : FindMatches C)
    (item : Option (Result Found MatchError)) (n : FindMatches C) : Type 0 where
  pub next : GivesNext (EngineFinds (regex_of m).engine) match_of (left_of m) item (left_of n)
  pub same_regex : regex_of n ≡ regex_of m
  pub goes_on : SearchGoesOn (left_of m).search (left_of n).search

-- The items of an iterator of such steps: before an error and before it ends, the first matches of
-- the regex in the search; after it ended, all of them; and nothing after an error.
abbrev pub GivesAll : {C : Type 0} → RegexView → Search → FindMatches C
    → Type 0
GivesAll re s m = GivesInOrder re.engine match_of Gives s m
