-- What a PikeVM is, what it was built from, and what it finds.
use Rattle.std.specs.Prelude.{◌≡◌, ◌↔◌, ℕ, ◌+◌, ◌*◌, Bool, true, false, is_some, IsTrue, IsSome, List, [], ◌∷◌, length, Option, Some, None, option_map}
use Rattle.unicode.specs.Perl.{is_word_char}
use Rattle.rx_util.specs.declared.search.MatchKind.{MatchKind}
use Rattle.rx_util.specs.declared.search.MatchKind.TheVariants.{LeftmostFirst, All}
use Rattle.rx_util.specs.declared.search.Span.{Span}
use Rattle.rx_util.specs.Search.{Found}
use Rattle.rx_util.specs.Captured.{place_in, span_between}
use Rattle.rx_walks.specs.Machines.{Outcome}
use Rattle.rx_walks.specs.Programs.{Notes}
use Rattle.rx_walks.specs.Finds.{Search, PatternMatch, up_to_place}
use Rattle.rx_walks.specs.Iterating.{Finding}
use Rattle.rx_walks.specs.ProgramFinds.{ProgramFinds, ProgramFindsAll, start_of, end_of}
use Rattle.rx_utf8.specs.Automata.{is_in}
use Rattle.rx_program.specs.Programs.{ByteProgram, character_program}
use Rattle.rx_steps.specs.Searching.{IsFirstEnd, answer_slots}
use Rattle.rx_steps.specs.Standing.{StopsAt}
use Rattle.rx_steps.specs.Threads.{no_slots}
-- contracts see a PikeVM as what it holds of its patterns
pub use Rattle.rx_engine.specs.Engines.{Engine, EngineSettings, Wanted, nothing_set, size_limit_of, settings_over, by_default, AreNamesOf, AreGroupNamesOf, IsOfTrees, IsEngine, IsBuiltOfTrees, IsBuiltOf, IsBuiltOfAll, AreRefused, IsRefused, IsRefusedOfAll, refusal_of}

-- the offsets in the two slots of a pattern's group 0
abbrev pub start_noted : ℕ → List (Option ℕ) → Option ℕ
start_noted pattern slots = place_in slots (2 * pattern)

abbrev pub end_noted : ℕ → List (Option ℕ) → Option ℕ
end_noted pattern slots = place_in slots (2 * pattern + 1)

-- its whole match, from these
abbrev pub whole_span : ℕ → List (Option ℕ) → Option Span
whole_span pattern slots = span_between (start_noted pattern slots) (end_noted pattern slots)

-- what the program finds: the leftmost match, and of those that start there the preferred one
abbrev pub Finds : ByteProgram → Search → Option (Outcome Notes) → Type 0
Finds p s out = ProgramFinds is_in is_word_char (character_program p) s out

-- a match with the offsets of the whole match in the two slots of its pattern's group 0, and of no
-- other group
abbrev pub noted_whole : PatternMatch → Outcome Notes
noted_whole a = record {
  pattern = a.pattern;
  end = a.end;
  notes = record {
    start = a.start;
    noted = (2 * a.pattern + 1, a.end) ∷ (2 * a.pattern, a.start) ∷ [];
  };
}

-- what the program finds among all matches: one with the greatest end, then with the least start,
-- then of the least pattern
pub record FindsAmongAll (p : ByteProgram) (s : Search) (out : Option (Outcome Notes))
    : Type 0 where
  pub found : Option PatternMatch
  pub finds : ProgramFindsAll is_in is_word_char (character_program p) s found
  pub out_is : out ≡ option_map noted_whole found

-- what the program finds for this match kind
abbrev pub FindsOfKind : MatchKind → ByteProgram → Finding
FindsOfKind LeftmostFirst p = Finds p
FindsOfKind All p = FindsAmongAll p

-- what an engine finds
abbrev pub EngineFinds : Engine → Finding
EngineFinds e = FindsOfKind e.match_kind e.program

-- the match of a walk
abbrev pub match_of : Outcome Notes → Found
match_of t = record {
  pattern = t.pattern;
  span = record { start = start_of t; end = end_of t };
}

-- whether a search finds a match
abbrev pub TellsWhether : Finding → Search → Bool → Type 0
TellsWhether finding s is_there =
    (out : Option (Outcome Notes)) × finding s out × (IsTrue is_there ↔ IsSome out)

-- the match that a search finds, without its groups
abbrev pub IsFound : Finding → Search → Option Found → Type 0
IsFound finding s found =
    (out : Option (Outcome Notes)) × finding s out × (found ≡ option_map match_of out)

-- the result of a search: the pattern that it finds, and its slots, as many as requested
pub record IsAnswer (finding : Finding) (s : Search) (pattern : Option ℕ)
    (slots : List (Option ℕ)) : Type 0 where
  pub found : Option (Outcome Notes)
  pub finds : finding s found
  pub pattern_is : pattern ≡ option_map (λ t. t.pattern) found
  pub slots_are : slots ≡ answer_slots (length slots) found

-- whether there is a match; and which one, unless any may be reported
pub record TellsMatch (earliest : Bool) (finding : Finding) (s : Search) (found : Option Found)
    : Type 0 where
  pub whether : TellsWhether finding s (is_some found)
  pub exact : earliest ≡ false → IsFound finding s found

-- the same for the pattern and the offsets in slots; they are none if nothing is found
pub record TellsSlots (earliest : Bool) (finding : Finding) (s : Search) (pattern : Option ℕ)
    (slots : List (Option ℕ)) : Type 0 where
  pub whether : TellsWhether finding s (is_some pattern)
  pub exact : earliest ≡ false → IsAnswer finding s pattern slots
  pub none : pattern ≡ None → slots ≡ no_slots (length slots)

-- ---- the result of a search that stops at an offset: what it finds; or, if any match may be
-- reported and there is one, what it finds up to this offset, which is the first end of a match

-- as a match
abbrev pub IsFoundAt : Bool → Engine → Search → ℕ → Option Found → Type 0
IsFoundAt false e s i found = IsFound (EngineFinds e) s found
IsFoundAt true e s i None = IsFound (EngineFinds e) s None
IsFoundAt true e s i (Some m) =
    IsFirstEnd e.program s i × IsFound (EngineFinds e) (up_to_place s i) (Some m)

-- in slots
abbrev pub IsAnswerAt : Bool → Engine → Search → ℕ → Option ℕ → List (Option ℕ) → Type 0
IsAnswerAt false e s i pattern slots = IsAnswer (EngineFinds e) s pattern slots
IsAnswerAt true e s i None slots = IsAnswer (EngineFinds e) s None slots
IsAnswerAt true e s i (Some k) slots =
    IsFirstEnd e.program s i × IsAnswer (EngineFinds e) (up_to_place s i) (Some k) slots

-- the offset at which a search that found a match stops: for the leftmost, one reached by a walk
-- that started at the first end of a match or before it, and that end itself if any match may be
-- reported; for all matches, the first end of one if any may be reported
abbrev pub StopsAs : MatchKind → Bool → ByteProgram → Search → ℕ → Type 0
StopsAs LeftmostFirst earliest p s i = StopsAt earliest p s i
StopsAs All earliest p s i = earliest ≡ true → IsFirstEnd p s i
