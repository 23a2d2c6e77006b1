-- The items of the iterator over a limited number of parts.
use Rattle.std.specs.Prelude.{◌≡◌, ℕ, zero, suc, ◌+◌, ◌<◌, true, false, List, [], ◌∷◌, ◌++◌, take, Option, Some, None, Result, Ok, Err}
use Rattle.std.specs.Iterator.{Count, Drains, Yields, at_most}
use Rattle.rx_util.specs.declared.search.MatchError.{MatchError}
use Rattle.rx_util.specs.declared.search.Span.{Span}
use Rattle.rx_input.specs.Inputs.{InputState}
use Rattle.rx_walks.specs.Finds.{Search}
use Rattle.rx_walks.specs.Iterating.{Finding}
use Rattle.rx_chunk.specs.Engines.{EngineFinds}
use Rattle.regex_cursor.specs.declared.engines.meta.split_n.SplitN.{SplitN}
use Rattle.regex_cursor.specs.Splitting as splitting
use Rattle.regex_cursor.specs.Splitting.{PartsLeft, EndsWith, SplitsOff, end_of_search, gaps}
use Rattle.regex_cursor.specs.Iterating.{not_refused}
use Rattle.regex_cursor.specs.Patterns.{FoundMatch}
use Rattle.regex_cursor.specs.Regexes.{RegexView, RegexMatches}

-- an item that is a part, or none
abbrev pub told_part : Option Span → Option (Result Span MatchError)
told_part None = None
told_part (Some part) = Some (Ok part)

-- a step with this number of parts still allowed: the next one of all parts, or, if it is the last
-- one allowed, the one to the end
pub data SplitsFew (finding : Finding) (m n : PartsLeft) : ℕ → ℕ → Option (Result Span MatchError)
    → Type 0 where
  enough : n ≡ m → SplitsFew finding m n 0 0 None
  some : {limit : ℕ} {item : Option (Result Span MatchError)} → 0 < limit → SplitsOff finding m n item
      → SplitsFew finding m n (limit + 1) limit item
  over : m.is_over ≡ true → n ≡ m → SplitsFew finding m n 1 0 None
  last_one : {part : Option Span} → m.is_over ≡ false
      → EndsWith m.last (end_of_search m.matches.search) part
      → n ≡ record m { is_over = true } → SplitsFew finding m n 1 0 (told_part part)

-- the state of the iterator: the parts that are left, and how many of them are still allowed
pub record FewLeft : Type 0 where
  pub parts : PartsLeft
  pub limit : ℕ

abbrev pub left_of : {C : Type 0} → SplitN C → FewLeft
left_of m = record { parts = splitting.left_in m.splitter m.input; limit = m.limit }

abbrev pub regex_of : {C : Type 0} → SplitN C → RegexView
regex_of m = splitting.regex_in m.splitter

-- the input that it lends
abbrev pub input_of : {C : Type 0} → SplitN C → InputState
input_of m = m.input

-- a step of the iterator, which continues the search for the same regex
pub record Gives {C : Type 0} (m : SplitN C)
    (item : Option (Result Span MatchError)) (n : SplitN C) : Type 0 where
  pub next : SplitsFew (EngineFinds (regex_of m).engine) (left_of m).parts (left_of n).parts
      (left_of m).limit (left_of n).limit item
  pub same_regex : regex_of n ≡ regex_of m

-- ---- all parts

-- at most `limit` gaps from an offset on: one fewer of those between the first matches, and the
-- last one goes to the end of all
abbrev pub few_gaps : ℕ → ℕ → ℕ → List FoundMatch → List Span
few_gaps zero start end matches = []
few_gaps (suc others) start end matches = gaps start end (take others matches)

-- The items of the iterator for a search: at most `limit` gaps between the matches of the regex,
-- from 0 on; before an error and before it ends the first of them, and nothing after an error.
pub record GivesFewGaps {C : Type 0} (re : RegexView) (s : Search) (limit : ℕ)
    (m : SplitN C) : Type 0 where
  pub first : (n : SplitN C) (parts : List Span) → Yields Gives m (not_refused parts) n
      → (ms : List FoundMatch) × RegexMatches re s ms × (others : List Span)
      × (few_gaps limit 0 (end_of_search s) ms ≡ parts ++ others)
  pub all : (parts : List Span) → Drains Gives m (not_refused parts)
      → (ms : List FoundMatch) × RegexMatches re s ms
      × (parts ≡ few_gaps limit 0 (end_of_search s) ms)
  pub refused : (n : SplitN C) (parts : List Span) (error : MatchError)
      (others : List (Result Span MatchError))
      → Yields Gives m (not_refused parts ++ Err error ∷ others) n → others ≡ []

-- ---- their number

abbrev pub few_left : FewLeft → Count
few_left m = at_most m.limit
