-- Programs whose matches are one literal, and what that means for a search.
use Rattle.std.specs.Prelude.{◌≡◌, ℕ, ◌+◌, ◌<◌, ◌≤◌, ◌↔◌, Bool, List, [], ◌∷◌, length, take, Some, None}
use Rattle.memchr.specs.Find.{OccursAt}
use Rattle.rx_sets.specs.Sets.{Range}
use Rattle.rx_utf8.specs.Automata.{is_in}
use Rattle.rx_util.specs.declared.search.Span.{Span}
use Rattle.rx_walks.specs.Looks.{Look}
use Rattle.rx_walks.specs.Machines.{Outcome}
use Rattle.rx_walks.specs.Walks.{IsLeast}
use Rattle.rx_walks.specs.Finds.{Search, unanchored, anchored, IsInside}
use Rattle.rx_walks.specs.Programs.{Program, Notes, fresh_notes}
use Rattle.rx_walks.specs.ProgramFinds.{ProgramFinds, highest, machine_of}
use Rattle.rx_literals.specs.Needles.{AreNeedles, FoundAt}
use Rattle.rx_literals.specs.Beginnings.{FirstNeedle}

-- the match of the first pattern that takes a span, and notes only its start and its end
abbrev pub literal_match : Span → Outcome Notes
literal_match span = record {
  pattern = 0;
  end = span.end;
  notes = record { start = span.start; noted = (1, span.end) ∷ (0, span.start) ∷ [] };
}

-- from an offset of a search the least walk from the start node has the literal's match, if the
-- literal occurs there, otherwise there is none
abbrev pub MatchesOnly : List ℕ → Program Look (List Range) → Type 0
MatchesOnly literal p = (is_word : ℕ → Bool) (s : Search) (i : ℕ) (t : Outcome Notes) → IsInside s i
    → IsLeast (machine_of is_in is_word p s) [] (fresh_notes i) p.start i t
    ↔ (OccursAt (take (highest s) s.content) literal i
    × (t ≡ literal_match (record { start = i; end = i + length literal })))

-- there is one needle, and the program's matches are that literal
pub record IsLiteralOf (needles : List (List ℕ)) (p : Program Look (List Range)) : Type 0 where
  pub literal : List ℕ
  pub needles_are : needles ≡ literal ∷ []
  pub matches_only : MatchesOnly literal p

-- a span is inside a search's slice
pub record LiesInSlice (s : Search) (span : Span) : Type 0 where
  pub from : s.slice_start ≤ span.start
  pub to : span.end ≤ s.slice_end

-- the search of this span only; look-around assertions see the text around it as before
abbrev pub within : Search → Span → Search
within s span = record s { start = span.start; end = span.end }

-- a search finds the literal's match in a span, and so does the search of this span only
pub record FindsLiteral (p : Program Look (List Range)) (is_word : ℕ → Bool) (s : Search)
    (span : Span) : Type 0 where
  pub some : span.start < span.end
  pub finds : ProgramFinds is_in is_word p s (Some (literal_match span))
  pub alone : ProgramFinds is_in is_word p (within s span) (Some (literal_match span))

-- the result of a search with a program whose matches are one literal: nothing if the literal
-- doesn't occur in its span, otherwise its first occurrence; an anchored search finds it only at
-- the span's start
pub record LiteralsAreFound (needles : List (List ℕ)) (p : Program Look (List Range))
    (is_word : ℕ → Bool) (s : Search) : Type 0 where
  pub nowhere : s.anchoring ≡ unanchored → FirstNeedle needles s None
      → ProgramFinds is_in is_word p s None
  pub first : (span : Span) → s.anchoring ≡ unanchored → FirstNeedle needles s (Some span)
      → LiesInSlice s span → FindsLiteral p is_word s span
  pub not_at_start : s.anchoring ≡ anchored
      → FoundAt (take s.end s.content) s.start needles None → ProgramFinds is_in is_word p s None
  pub at_start : (span : Span) → s.anchoring ≡ anchored
      → FoundAt (take s.end s.content) s.start needles (Some span)
      → LiesInSlice s span → FindsLiteral p is_word s span

abbrev pub LiteralsFind : Type 0
LiteralsFind = (needles : List (List ℕ)) (p : Program Look (List Range)) (is_word : ℕ → Bool)
    (s : Search)
    → AreNeedles needles → IsLiteralOf needles p → LiteralsAreFound needles p is_word s
