-- An anchored search that is under way with a single thread.
use Rattle.std.specs.Prelude.{◌≡◌, ℕ, ◌+◌, ◌≤◌, min, IsTrue, List, [], ◌∷◌, length, Option, Some, slice_get}
use Rattle.rx_walks.specs.Finds.{Search, is_anchored}
use Rattle.rx_walks.specs.Machines.{Outcome}
use Rattle.rx_walks.specs.ProgramFinds.{lowest}
use Rattle.rx_walks.specs.Steps.{Steps, either}
use Rattle.rx_program.specs.Programs.{ByteProgram}
use Rattle.rx_steps.specs.Nodes.{IsNodeIn}
use Rattle.rx_steps.specs.Threads.{Slots, Thread, no_slots}
use Rattle.rx_steps.specs.Coming.{HasCome, machine_in}

-- the bytes of the haystack from an offset on, none past the highest offset
pub record AreAhead (s : Search) (i : ℕ) (bytes : List ℕ) : Type 0 where
  pub are : (k b : ℕ) → slice_get bytes k ≡ Some b → slice_get s.content (i + k) ≡ Some b
  pub end : i + length bytes ≤ min s.slice_end s.end
  pub low : lowest s ≤ i

-- An anchored search from a state has a single thread at an offset, at this node and with these
-- slots: after each step that it makes from there, the search has reached the next offset with the
-- threads that the step leaves, and with some last match end unless the step met one.
pub record IsAlone (p : ByteProgram) (s : Search) (q len i : ℕ) (slots : Slots) (node : ℕ × ℕ)
    : Type 0 where
  pub anchored : IsTrue (is_anchored s.anchoring)
  pub behind : s.start ≤ i
  pub slot_len : length slots ≡ len
  pub stands : IsNodeIn p.states node
  pub come : (next : List Thread) (met : Option (Outcome Slots))
      → Steps (machine_in p s) i [] ((slots, node) ∷ []) next met
      → (before : Option (Outcome Slots))
      × HasCome (machine_in p s) s q (no_slots len) (i + 1) next (either met before)
