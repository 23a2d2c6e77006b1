-- Lists of all matches.
use Rattle.std.specs.Prelude.{◌≡◌, ℕ, ◌+◌, ◌-◌, ◌*◌, ◌<◌, ◌≤◌, ◌++◌, Bool, true, false, cond, List, [], ◌∷◌, length, map, Option, Some, None}
use Rattle.unicode.specs.Perl.{is_word_char}
use Rattle.rx_walks.specs.Machines.{Outcome}
use Rattle.rx_walks.specs.Programs.{Notes}
use Rattle.rx_walks.specs.Finds.{Search}
use Rattle.rx_walks.specs.ProgramFinds.{ProgramMatches, lowest, highest}
use Rattle.rx_walks.specs.Leading.{LeadsToMatch, Follows}
use Rattle.rx_walks.specs.Listings.{Listing}
use Rattle.rx_walks.specs.LeadLaws.{begins_from}
use Rattle.rx_utf8.specs.Automata.{is_in}
use Rattle.rx_program.specs.Programs.{ByteProgram, character_program}
use Rattle.rx_steps.specs.Threads.{Slots, no_slots, first_node}
use Rattle.rx_steps.specs.Searching.{slots_from}
use Rattle.rx_steps.specs.Coming.{machine_in}
use Rattle.rx_lists.specs.declared.walk.Ending.{Ending}

-- a match: its pattern, its end, and the offsets in its slots
pub record Listed : Type 0 where
  pub pattern : ℕ
  pub end : ℕ
  pub slots : Slots

-- that of an outcome, with `len` slots
abbrev pub listed_of : ℕ → Outcome Notes → Listed
listed_of len t = record { pattern = t.pattern; end = t.end; slots = slots_from 0 len t.notes }

-- these are all matches of a program in a search, in order, each with `len` slots
pub record AreAllMatches (p : ByteProgram) (s : Search) (len : ℕ) (found : List Listed)
    : Type 0 where
  pub matches : List (Outcome Notes)
  pub are_all : ProgramMatches is_in is_word_char (character_program p) s matches
  pub found_are : found ≡ map (listed_of len) matches

-- ---- listing

-- a match as the outcome of a walk with slots
abbrev pub outcome_of_listed : Listed → Outcome Slots
outcome_of_listed l = record { pattern = l.pattern; end = l.end; notes = l.slots }

-- the matches from an offset on, of the find that began at `from`
abbrev pub Lists : ByteProgram → Search → ℕ → ℕ → Bool → ℕ → ℕ → List (Outcome Slots) → Type 0
Lists p s q len after from i ms =
    Listing (machine_in p s) (begins_from s) (λ j. no_slots len) (first_node q) after from i ms

-- these were listed up to an offset: with the matches from there on they are all
abbrev pub AreListedTo : ByteProgram → Search → ℕ → ℕ → List Listed → Bool → ℕ → ℕ → Type 0
AreListedTo p s q len found after from i = (ms : List (Outcome Slots))
    → Lists p s q len after from i ms
    → Lists p s q len false s.start s.start (map outcome_of_listed found ++ ms)

-- the result at an offset of a find that began at `from`: no start counts there, or this is
-- followed from it
abbrev pub IsFoundOnward : ByteProgram → Search → ℕ → ℕ → ℕ → ℕ → Option (Outcome Slots) → Type 0
IsFoundOnward p s q len from i None =
    begins_from s from i → LeadsToMatch (machine_in p s) (first_node q) i → ⊥
IsFoundOnward p s q len from i (Some t) = begins_from s from i
    × Follows (machine_in p s) i [] ((no_slots len, first_node q) ∷ []) (Some t)

-- where a list continues from an offset: after it, unless that was the last one; or at the end of a
-- match
abbrev pub IsTaken : ByteProgram → Search → ℕ → ℕ → ℕ → List Listed → Bool → ℕ → Option ℕ → Type 0
IsTaken p s q len i found after from None = (after ≡ false) × (from ≤ i + 1)
    × AreListedTo p s q len found false from (i + 1)
    × (highest s < i + 1 → Lists p s q len false s.start s.start (map outcome_of_listed found))
IsTaken p s q len i found after from (Some end) =
    (after ≡ true) × (from ≡ end) × AreListedTo p s q len found true end end

-- an upper bound on the visits of offsets from here on: two for each, and one more at the last
-- match's end
abbrev pub places_left : List ℕ → ℕ → Bool → ℕ
places_left content i after = (length content + 1 - i) * 2 + cond after 0 1

-- ---- the number of offsets that are read

-- the number of offsets inside span, slice and haystack
abbrev pub places_in : Search → ℕ
places_in s = highest s + 1 - lowest s

-- an upper bound on those read for a find at an offset: that one, and those of its walk
abbrev pub reads_for : ℕ → Option Ending → ℕ
reads_for i None = 1
reads_for i (Some e) = 1 + (e.end + 1 - i)

-- the end of what was found, or else an offset
abbrev pub end_or : Option Ending → ℕ → ℕ
end_or None i = i
end_or (Some e) i = e.end

-- an upper bound on those read before an offset: four for each, and two more if a match ended there
abbrev pub read_before : Search → ℕ → Bool → ℕ
read_before s i after = 4 * (i - lowest s) + cond after 2 0
