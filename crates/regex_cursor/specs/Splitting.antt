-- The items of the iterators over the parts between matches.
use Rattle.std.specs.Prelude.{◌≡◌, ℕ, ◌+◌, ◌<◌, ◌≤◌, nat_lt, if◌then◌else◌, Bool, true, false, List, [], ◌∷◌, ◌++◌, length, min, Option, Some, None, Result, Ok, Err}
use Rattle.std.specs.Iterator.{Count, Drains, Yields, at_most, size}
use Rattle.rx_util.specs.declared.search.MatchError.{MatchError}
use Rattle.rx_util.specs.declared.search.MatchError.TheVariants.{Memory}
use Rattle.rx_util.specs.declared.search.Span.{Span}
use Rattle.rx_util.specs.Search.{Found}
use Rattle.rx_input.specs.Inputs.{InputState}
use Rattle.rx_walks.specs.Finds.{Search}
use Rattle.rx_walks.specs.Iterating.{Finding}
use Rattle.rx_chunk.specs.Engines.{EngineFinds, match_of}
use Rattle.rx_chunk.specs.Iterating.{MatchesLeft, GivesNext, matches_left}
use Rattle.regex_cursor.specs.declared.engines.meta.split.Split.{Split}
use Rattle.regex_cursor.specs.declared.engines.meta.splitter.Splitter.{Splitter}
use Rattle.regex_cursor.specs.Iterating as iterating
use Rattle.regex_cursor.specs.Iterating.{not_refused}
use Rattle.regex_cursor.specs.Patterns.{FoundMatch, start_of, end_of}
use Rattle.regex_cursor.specs.Regexes.{RegexView, RegexMatches}

-- the state of an iterator over parts: the matches that are left, where the next part starts, and
-- whether it has ended
pub record PartsLeft : Type 0 where
  pub matches : MatchesLeft
  pub last : ℕ
  pub is_over : Bool

-- all of them
abbrev pub parts_of : MatchesLeft → PartsLeft
parts_of m = record { matches = m; last = 0; is_over = false }

-- where a search ends: at the end of its span, or of its haystack if that is less
abbrev pub end_of_search : Search → ℕ
end_of_search s = min s.end (length s.content)

abbrev pub span_from_to : ℕ → ℕ → Span
span_from_to start end = record { start = start; end = end }

-- the last part, from one offset to another; there is none if it would end before it starts
pub data EndsWith (start end : ℕ) : Option Span → Type 0 where
  part : start ≤ end → EndsWith start end (Some (span_from_to start end))
  none : end < start → EndsWith start end None

-- a step of the iterator: a part up to each match, and after the last match the last part; an error
-- is out of memory, and nothing follows it
pub data SplitsOff (finding : Finding) (m n : PartsLeft) : Option (Result Span MatchError) → Type 0
  where
    over : m.is_over ≡ true → n ≡ m → SplitsOff finding m n None
    at_match : {a : Found} → m.is_over ≡ false
        → GivesNext finding match_of m.matches (Some (Ok a)) n.matches
        → n.last ≡ a.span.end → n.is_over ≡ false
        → SplitsOff finding m n (Some (Ok (span_from_to m.last a.span.start)))
    at_end : {part : Span} → m.is_over ≡ false
        → GivesNext {A = Found} finding match_of m.matches None n.matches
        → EndsWith m.last (end_of_search m.matches.search) (Some part) → n.is_over ≡ true
        → SplitsOff finding m n (Some (Ok part))
    no_end : m.is_over ≡ false → GivesNext {A = Found} finding match_of m.matches None n.matches
        → EndsWith m.last (end_of_search m.matches.search) None → n.is_over ≡ true
        → SplitsOff finding m n None
    refused : m.is_over ≡ false → n.is_over ≡ true → SplitsOff finding m n (Some (Err Memory))

-- the regex of a splitter, and what it has left in an input
abbrev pub regex_in : Splitter → RegexView
regex_in m = iterating.regex_in m.finder

abbrev pub left_in : Splitter → InputState → PartsLeft
left_in m i = record {
  matches = iterating.left_in m.finder i;
  last = m.last;
  is_over = m.is_over;
}

-- the regex of an iterator, and what it has left
abbrev pub regex_of : {C : Type 0} → Split C → RegexView
regex_of m = regex_in m.splitter

abbrev pub left_of : {C : Type 0} → Split C → PartsLeft
left_of m = left_in m.splitter m.input

-- the input that it lends
abbrev pub input_of : {C : Type 0} → Split C → InputState
input_of m = m.input

-- a step of the iterator, which continues the search for the same regex
pub record Gives {C : Type 0} (m : Split C)
    (item : Option (Result Span MatchError)) (n : Split C) : Type 0 where
  pub next : SplitsOff (EngineFinds (regex_of m).engine) (left_of m) (left_of n) item
  pub same_regex : regex_of n ≡ regex_of m

-- ---- all parts

-- the last part, if there is one
abbrev pub last_part : ℕ → ℕ → List Span
last_part start end = if nat_lt end start then [] else span_from_to start end ∷ []

-- the gaps between these matches, from an offset on: up to the start of each, and from the end of
-- the last one to the end of all
abbrev pub gaps : ℕ → ℕ → List FoundMatch → List Span
gaps start end [] = last_part start end
gaps start end (t ∷ others) = span_from_to start (start_of t) ∷ gaps (end_of t) end others

-- The items of the iterator for a search: the gaps between all matches of the regex, from 0 on;
-- before an error and before it ends the first of them, and nothing after an error.
pub record GivesGaps {C : Type 0} (re : RegexView) (s : Search) (m : Split C)
    : Type 0 where
  pub first : (n : Split C) (parts : List Span) → Yields Gives m (not_refused parts) n
      → (ms : List FoundMatch) × RegexMatches re s ms
      × (others : List Span) × (gaps 0 (end_of_search s) ms ≡ parts ++ others)
  pub all : (parts : List Span) → Drains Gives m (not_refused parts)
      → (ms : List FoundMatch) × RegexMatches re s ms × (parts ≡ gaps 0 (end_of_search s) ms)
  pub refused : (n : Split C) (parts : List Span) (error : MatchError)
      (others : List (Result Span MatchError))
      → Yields Gives m (not_refused parts ++ Err error ∷ others) n → others ≡ []

-- ---- their number

-- there is at most one more part than matches
abbrev pub parts_left_by : Bool → ℕ → ℕ
parts_left_by true matches = 0
parts_left_by false matches = matches + 1

abbrev pub parts_left : PartsLeft → Count
parts_left m = at_most (parts_left_by m.is_over (size (matches_left m.matches)))
