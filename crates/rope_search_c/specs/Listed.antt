-- The matches in the chosen buffer's report, as C gets them.
use Rattle.std.specs.Prelude.{◌≡◌, ℕ, true, false, Bool, Option, None, Some}
use Rattle.rope_search_reports.specs.declared.positions.Position.{Position}
use Rattle.rope_search.specs.declared.listed.ListIndex.{ListIndex}
use Rattle.rope_search.specs.declared.listed.ListedMatch.{ListedMatch}
use Rattle.rope_search.specs.ListedMatches.{OfReport, TellsFirstFrom, TellsIndex, TellsLastBefore}
use Rattle.rope_search.specs.Session.{chosen_buffer}
use Rattle.rope_search_c.specs.declared.counting.CountingSession.{CountingSession}
use Rattle.rope_search_c.specs.declared.listed.Listed.{Listed}

-- a listed match as C gets it
abbrev pub listed_as : ListedMatch → Listed
listed_as match = record {
  line = match.line;
  number = match.number;
  start = match.start;
  stop = match.end;
}

-- a match is returned, or none: then the output is unchanged
abbrev pub PutsListed : Option ListedMatch → Bool → Listed → Listed → Type 0
PutsListed None told old new = (told ≡ false) × (new ≡ old)
PutsListed (Some match) told old new = (told ≡ true) × (new ≡ listed_as match)

-- the first listed match that starts at a position or after it
pub record TellsListedFrom (session : CountingSession) (position : Position) (told : Bool)
    (old new : Listed) : Type 0 where
  pub match : Option ListedMatch
  pub is : OfReport (chosen_buffer session.session.state)
      (λ rows. TellsFirstFrom rows position match)
  pub put : PutsListed match told old new

-- the last one that starts before a position
pub record TellsListedBefore (session : CountingSession) (position : Position) (told : Bool)
    (old new : Listed) : Type 0 where
  pub match : Option ListedMatch
  pub is : OfReport (chosen_buffer session.session.state)
      (λ rows. TellsLastBefore rows position match)
  pub put : PutsListed match told old new

-- both numbers are returned, or nothing: then the outputs are unchanged
abbrev pub PutsIndex : Option ListIndex → Bool → ℕ → ℕ → ℕ → ℕ → Type 0
PutsIndex None told index index' count count' =
    (told ≡ false) × (index' ≡ index) × (count' ≡ count)
PutsIndex (Some place) told index index' count count' =
    (told ≡ true) × (index' ≡ place.index) × (count' ≡ place.count)

-- the number of matches before the one of a line and a number, and the number of all
pub record TellsListIndex (session : CountingSession) (line number : ℕ) (told : Bool)
    (index index' count count' : ℕ) : Type 0 where
  pub place : Option ListIndex
  pub is : OfReport (chosen_buffer session.session.state)
      (λ rows. TellsIndex rows line number place)
  pub put : PutsIndex place told index index' count count'
