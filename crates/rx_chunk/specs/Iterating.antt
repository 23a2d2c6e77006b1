-- The next match in an input, and the items of an iterator over the matches of a program.
use Rattle.std.specs.Prelude.{◌≡◌, ◌⊎◌, ℕ, ◌+◌, ◌-◌, ◌<◌, ◌≤◌, ◌==◌, Bool, false, true, List, [], ◌∷◌, ◌++◌, map, length, Option, Some, None, option_map, Result, Err, IfSome, IfErr}
use Rattle.std.specs.Iterator.{Count, Yields, Drains, at_most, size}
use Rattle.rx_util.specs.declared.search.MatchError.{MatchError}
use Rattle.rx_util.specs.declared.search.MatchError.TheVariants.{Memory}
use Rattle.rx_util.specs.Captured.{Captured, match_found, nothing_noted}
use Rattle.rx_util.specs.Groups.{GroupNames}
use Rattle.rx_util.specs.Search.{Found}
use Rattle.rx_input.specs.Cursors.{IsSameContent}
use Rattle.rx_input.specs.Inputs.{InputState}
use Rattle.rx_input.specs.Searchers.{items_at_most}
pub use Rattle.rx_input.specs.Searchers.{is_last_end}
use Rattle.rx_walks.specs.Machines.{Outcome}
use Rattle.rx_walks.specs.Programs.{Notes}
use Rattle.rx_walks.specs.Finds.{Search, from_place_on}
use Rattle.rx_walks.specs.Matches as matches
use Rattle.rx_walks.specs.Matches.{FirstMatches, Matches}
use Rattle.rx_walks.specs.ProgramFinds.{finds_on}
use Rattle.rx_walks.specs.Iterating.{Finding, FindsNext, GivesMatch, not_refused}
pub use Rattle.rx_walks.specs.Iterating.{MatchesLeft, matches_from}
use Rattle.rx_steps.specs.Searching.{answer_slots}
use Rattle.rx_chunk.specs.Engines.{Engine, EngineFinds, match_of}

-- what a search finds after a match that ended at `last`, if there was one: an empty match there is
-- skipped
abbrev pub ComesNext : Finding → Search → Option ℕ → Option (Outcome Notes) → Type 0
ComesNext finding s last out = FindsNext finding s last out

-- that match, without its groups
abbrev pub IsFoundNext : Finding → Search → Option ℕ → Option Found → Type 0
IsFoundNext finding s last found = (out : Option (Outcome Notes)) × ComesNext finding s last out
    × (found ≡ option_map match_of out)

-- the result of a search for it: its pattern, and its offsets in as many slots as there are
pub record IsNextAnswer (finding : Finding) (s : Search) (last pattern : Option ℕ)
    (slots : List (Option ℕ)) : Type 0 where
  pub out : Option (Outcome Notes)
  pub comes : ComesNext finding s last out
  pub pattern_is : pattern ≡ option_map (λ t. t.pattern) out
  pub slots_are : slots ≡ answer_slots (length slots) out

-- an input over the same haystack with the same settings, except that its span starts here
pub record StartsFrom (old new : InputState) (start : ℕ) : Type 0 where
  pub same : IsSameContent old.cursor new.cursor
  pub asked : new.asked ≡ record old.asked { span = record old.asked.span { start = start } }

-- the span of an input starts where it did, or one byte later
abbrev pub StartsThereOrNext : InputState → InputState → Type 0
StartsThereOrNext old new = (new.asked.span.start ≡ old.asked.span.start)
    ⊎ (new.asked.span.start ≡ old.asked.span.start + 1)

-- an error is out of memory
abbrev pub IsWantOfMemory : {A : Type 0} → Option (Result A MatchError) → Type 0
IsWantOfMemory item = IfSome item (λ answer. IfErr answer (λ error. error ≡ Memory))

-- a step of an iterator over matches, with an item for each: none if no match follows, and none
-- after an error
pub record GivesNext {A : Type 0} (finding : Finding) (item_of : Outcome Notes → A)
    (m : MatchesLeft) (item : Option (Result A MatchError)) (n : MatchesLeft) : Type 0 where
  pub gives : GivesMatch finding item_of m item n
  pub refused : IsWantOfMemory item

-- a next match ends in the span, not before its start, and after that if the last one ended there
pub record EndsAhead (last : Option ℕ) (s : Search) (end : ℕ) : Type 0 where
  pub on : s.start ≤ end
  pub further : is_last_end last s.start ≡ true → s.start < end
  pub in_span : end ≤ s.end
  pub in_content : end ≤ length s.content

-- what is left after a match that ends there
abbrev pub left_behind : MatchesLeft → ℕ → MatchesLeft
left_behind m end = record {
  search = from_place_on m.search end;
  last_end = Some end;
  is_over = false;
}

-- the greatest number of further items: each match but the first ends after the one before
abbrev pub matches_left : MatchesLeft → Count
matches_left m = at_most (items_at_most m.is_over (is_last_end m.last_end m.search.start)
    (length m.search.content - m.search.start))

-- fewer are left after a match, and when the iterator has ended
pub record FewerAreLeft : Type 0 where
  pub behind : (m : MatchesLeft) (end : ℕ) → m.is_over ≡ false
      → EndsAhead m.last_end m.search end
      → size (matches_left (left_behind m end)) < size (matches_left m)
  pub over : (m n : MatchesLeft) → m.is_over ≡ false → n.is_over ≡ true
      → size (matches_left n) < size (matches_left m)

-- ---- all matches of an engine

-- they are, in order, what is found from each offset on
abbrev pub EngineMatches : Engine → Search → List (Outcome Notes) → Type 0
EngineMatches e s ms = Matches (finds_on (EngineFinds e) s) s.start ms

-- the first members of that list, possibly all
abbrev pub FirstEngineMatches : Engine → Search → List (Outcome Notes) → Type 0
FirstEngineMatches e s ms = FirstMatches (finds_on (EngineFinds e) s) s.start ms

-- the member after these, or none
abbrev pub EngineComesNext : Engine → Search → List (Outcome Notes) → Option (Outcome Notes)
    → Type 0
EngineComesNext e s ms out = matches.ComesNext (finds_on (EngineFinds e) s) s.start ms out

-- the items of an iterator from a search on: before an error and before its end the first matches,
-- at its end all of them, and nothing after an error
pub record GivesInOrder {A F : Type 0} (e : Engine) (item_of : Outcome Notes → A)
    (gives : F → Option (Result A MatchError) → F → Type 0) (s : Search) (m : F) : Type 0 where
  pub first : (n : F) (items : List A) → Yields gives m (not_refused items) n
      → (ms : List (Outcome Notes)) × FirstEngineMatches e s ms × (items ≡ map item_of ms)
  pub all : (items : List A) → Drains gives m (not_refused items)
      → (ms : List (Outcome Notes)) × EngineMatches e s ms × (items ≡ map item_of ms)
  pub refused : (n : F) (items : List A) (error : MatchError)
      (others : List (Result A MatchError))
      → Yields gives m (not_refused items ++ Err error ∷ others) n → others ≡ []

-- an iterator over the matches of any engine gives them in order; `left` is what it has left,
-- `item_of` its item for a match, and `gives` its steps
abbrev pub GivesByAnyEngine : {A F : Type 0} → (Outcome Notes → A) → (F → MatchesLeft)
    → (F → Option (Result A MatchError) → F → Type 0) → Type 0
GivesByAnyEngine {A} {F} item_of left gives = (e : Engine)
    → ((m n : F) (item : Option (Result A MatchError)) → gives m item n
    → GivesMatch (EngineFinds e) item_of (left m) item (left n))
    → (s : Search) (m : F) → left m ≡ matches_from s → GivesInOrder e item_of gives s m

-- captures of a match, of these groups and with `len` slots
abbrev pub captured_of : GroupNames → ℕ → Outcome Notes → Captured
captured_of groups len t = record {
  groups = groups;
  pattern = Some t.pattern;
  slots = answer_slots len (Some t);
}

-- captures of what is found, or of no match
abbrev pub captured_by : GroupNames → ℕ → Option (Outcome Notes) → Captured
captured_by groups len None = nothing_noted groups len
captured_by groups len (Some t) = captured_of groups len t

-- captures store the next match
pub record HasNotedNext (finding : Finding) (s : Search) (last : Option ℕ) (caps : Captured)
    : Type 0 where
  pub out : Option (Outcome Notes)
  pub comes : ComesNext finding s last out
  pub noted : caps ≡ captured_by caps.groups (length caps.slots) out
  pub match_is : match_found caps ≡ option_map match_of out
