-- Needles: byte strings to search for, and where one of them occurs.
use Rattle.std.specs.Prelude.{ℕ, ◌+◌, ◌<◌, ◌≤◌, List, [], ◌∷◌, length, take, Option, Some, None, All}
use Rattle.memchr.specs.Find.{OccursAt}
use Rattle.rx_util.specs.declared.search.Span.{Span}
use Rattle.rx_input.specs.Inputs.{InputState}

-- the allowed lengths of a needle
abbrev pub IsNeedle : List ℕ → Type 0
IsNeedle needle = (1 ≤ length needle) × (length needle ≤ 64)

-- the needles that a prefilter may have
pub record AreNeedles (needles : List (List ℕ)) : Type 0 where
  pub some : 1 ≤ length needles
  pub few : length needles ≤ 16
  pub each : All IsNeedle needles

-- the find at an offset: the first of the needles, in their order, that occurs there
pub data FoundAt (bytes : List ℕ) (i : ℕ) : List (List ℕ) → Option Span → Type 0 where
  no_needle : FoundAt bytes i [] None
  this_needle : {needle : List ℕ} {needles : List (List ℕ)} → OccursAt bytes needle i
      → FoundAt bytes i (needle ∷ needles) (Some (record { start = i; end = i + length needle }))
  other_needle : {needle : List ℕ} {needles : List (List ℕ)} {out : Option Span}
      → (OccursAt bytes needle i → ⊥) → FoundAt bytes i needles out
      → FoundAt bytes i (needle ∷ needles) out

-- the find at the least offset between two with one
pub data FoundBetween (bytes : List ℕ) (needles : List (List ℕ)) (from to : ℕ) : Option Span
    → Type 0 where
  nowhere : ((i : ℕ) → from ≤ i → i < to → FoundAt bytes i needles None)
      → FoundBetween bytes needles from to None
  at_least_place : {span : Span} (i : ℕ) → from ≤ i → i < to
      → FoundAt bytes i needles (Some span)
      → ((j : ℕ) → from ≤ j → j < i → FoundAt bytes j needles None)
      → FoundBetween bytes needles from to (Some span)

-- one of the needles occurs at an offset
pub data OneOccursAt (bytes : List ℕ) (i : ℕ) : List (List ℕ) → Type 0 where
  this_occurs : {needle : List ℕ} {needles : List (List ℕ)} → OccursAt bytes needle i
      → OneOccursAt bytes i (needle ∷ needles)
  other_occurs : {needle : List ℕ} {needles : List (List ℕ)} → OneOccursAt bytes i needles
      → OneOccursAt bytes i (needle ∷ needles)

-- the haystack up to the end of an input's span
abbrev pub bytes_to_end : InputState → List ℕ
bytes_to_end i = take i.asked.span.end i.cursor.content

-- the find in an input's span
abbrev pub FoundInSpan : List (List ℕ) → InputState → Option Span → Type 0
FoundInSpan needles i out =
    FoundBetween (bytes_to_end i) needles i.asked.span.start i.asked.span.end out

-- the find at its start
abbrev pub FoundAtStart : List (List ℕ) → InputState → Option Span → Type 0
FoundAtStart needles i out = FoundAt (bytes_to_end i) i.asked.span.start needles out
