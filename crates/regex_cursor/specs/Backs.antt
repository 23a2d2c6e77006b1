-- Backward searches from where matches end.
use Rattle.std.specs.Prelude.{◌≡◌, ℕ, Bool, Some}
use Rattle.rx_util.specs.Search.{Found}
use Rattle.rx_input.specs.Inputs.{InputState}
use Rattle.rx_walks.specs.Finds.{Search, unanchored}
use Rattle.rx_walks.specs.Machines.{Outcome}
use Rattle.rx_walks.specs.Programs.{Notes}
use Rattle.rx_walks.specs.ProgramFinds.{start_of}
use Rattle.rx_program.specs.Programs.{ByteProgram}
use Rattle.rx_steps.specs.Searching.{search_of}
use Rattle.rx_dfa.specs.Searching.{IsHalfAnswer}
use Rattle.rx_chunk.specs.Engines.{Finds, IsFound}

-- a match of this pattern is found in an input; it ends where the span does
abbrev pub EndsLast : ByteProgram → Bool → InputState → ℕ → Type 0
EndsLast p utf8_empty i k = IsHalfAnswer p (search_of utf8_empty i)
    (Some (record { pattern = k; offset = i.asked.span.end }))

-- this is the match that is found
abbrev pub IsWhole : ByteProgram → Bool → InputState → Found → Type 0
IsWhole p utf8_empty i found = IsFound (Finds p) (search_of utf8_empty i) (Some found)

-- the search without anchoring
abbrev pub freed : Search → Search
freed s = record s { anchoring = unanchored }

-- the match of a search, if there is one, starts there
abbrev pub StartsAt : ByteProgram → Search → ℕ → Type 0
StartsAt p s place = (t : Outcome Notes) → Finds p s (Some t) → start_of t ≡ place
