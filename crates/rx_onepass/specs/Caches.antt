-- What searches keep for a program.
use Rattle.std.specs.Prelude.{◌≡◌, ℕ, Bool, false, List, Option}
use Rattle.rx_program.specs.Programs.{ByteProgram}
use Rattle.rx_steps.specs.Nodes.{widths_of}
use Rattle.rx_onepass.specs.declared.edges.Edge.{Edge}
use Rattle.rx_onepass.specs.Edges.{AreEdges, AsksNothing}

-- a cache: the number of nodes of each state of its program, whether that has assertions, the
-- number of slots of a thread, and the known edges
pub record CacheView : Type 0 where
  pub widths : List ℕ
  pub asks_looks : Bool
  pub slot_len : ℕ
  pub edges : List (Option Edge)

-- they are those of this program: without the flag it has no assertion, and the edges are its own
pub record IsMadeFor (p : ByteProgram) (widths : List ℕ) (asks_looks : Bool) (slot_len : ℕ)
    (edges : List (Option Edge)) : Type 0 where
  pub widths_are : widths ≡ widths_of p
  pub looks : asks_looks ≡ false → AsksNothing p.states
  pub are_edges : AreEdges p slot_len edges

-- a cache for searches with a program
abbrev pub IsCacheOf : ByteProgram → CacheView → Type 0
IsCacheOf p cache = IsMadeFor p cache.widths cache.asks_looks cache.slot_len cache.edges
