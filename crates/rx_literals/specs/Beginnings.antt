-- Programs whose matches begin with needles, and what that means for a search.
use Rattle.std.specs.Prelude.{◌≡◌, ℕ, Bool, List, [], take, Option, Some, None}
use Rattle.rx_sets.specs.Sets.{Range}
use Rattle.rx_utf8.specs.Automata.{is_in}
use Rattle.rx_util.specs.declared.search.Span.{Span}
use Rattle.rx_walks.specs.Looks.{Look}
use Rattle.rx_walks.specs.Machines.{Outcome}
use Rattle.rx_walks.specs.Walks.{Walk}
use Rattle.rx_walks.specs.Finds.{Search, unanchored, from_place_on, IsInside}
use Rattle.rx_walks.specs.Programs.{Program, Notes, fresh_notes}
use Rattle.rx_walks.specs.ProgramFinds.{ProgramFinds, machine_of}
use Rattle.rx_literals.specs.Needles.{AreNeedles, FoundBetween, OneOccursAt}

-- the bytes that a walk reads from the start node, at an offset of the search, to a match end begin
-- with one of the needles
abbrev pub MatchesBeginWith : List (List ℕ) → Program Look (List Range) → Type 0
MatchesBeginWith needles p =
    (is_word : ℕ → Bool) (s : Search) (i : ℕ) (choices : List ℕ) (t : Outcome Notes) → IsInside s i
    → Walk (machine_of is_in is_word p s) [] (fresh_notes i) p.start i choices t
    → OneOccursAt (take t.end s.content) i needles

-- the first occurrence of the needles in a search's span
abbrev pub FirstNeedle : List (List ℕ) → Search → Option Span → Type 0
FirstNeedle needles s out = FoundBetween (take s.end s.content) needles s.start s.end out

-- if there is none, the program finds nothing
abbrev pub NoNeedleNoMatch : Type 0
NoNeedleNoMatch = (needles : List (List ℕ)) (p : Program Look (List Range)) (is_word : ℕ → Bool)
    (s : Search)
    → AreNeedles needles → MatchesBeginWith needles p → s.anchoring ≡ unanchored
    → FirstNeedle needles s None → ProgramFinds is_in is_word p s None

-- if there is one, the program finds what it finds from there on
abbrev pub MatchesComeBehind : Type 0
MatchesComeBehind = (needles : List (List ℕ)) (p : Program Look (List Range)) (is_word : ℕ → Bool)
    (s : Search) (span : Span) (out : Option (Outcome Notes))
    → MatchesBeginWith needles p → s.anchoring ≡ unanchored
    → FirstNeedle needles s (Some span)
    → ProgramFinds is_in is_word p (from_place_on s span.start) out
    → ProgramFinds is_in is_word p s out
