-- Programs whose matches end at the slice's end, and how this is found out.
use Rattle.std.specs.Prelude.{◌≡◌, ℕ, Bool, false, List, length, min, Some, slice_get}
use Rattle.rx_sets.specs.Sets.{Range}
use Rattle.rx_utf8.specs.Automata.{is_in}
use Rattle.rx_walks.specs.Looks.{Look, end_text}
use Rattle.rx_walks.specs.Machines.{Outcome}
use Rattle.rx_walks.specs.Finds.{Search}
use Rattle.rx_walks.specs.Programs.{Node, Program, Notes, match, pass, note, look, set}
use Rattle.rx_walks.specs.ProgramFinds.{ProgramFinds, start_node, end_of}

-- each match from the start node ends at the slice's end, or at the haystack's if that is less
abbrev pub EndsWithSlice : Program Look (List Range) → Type 0
EndsWithSlice p = (is_word : ℕ → Bool) (s : Search) (t : Outcome Notes)
    → start_node p s.anchoring ≡ Some p.start → ProgramFinds is_in is_word p s (Some t)
    → end_of t ≡ min s.slice_end (length s.content)

-- ---- marks at nodes

-- a walk may reach a node, by the marks of nodes that it may reach
abbrev pub MayCome : List Bool → ℕ → Type 0
MayCome marks q = slice_get marks q ≡ Some false → ⊥

-- no match ends at a node, and a walk may reach the targets of its edges, except of one that
-- requires the slice's end
abbrev pub LeadsToMarks : List Bool → Node Look (List Range) → Type 0
LeadsToMarks marks (match k) = ⊥
LeadsToMarks marks (pass rs) = (k r : ℕ) → slice_get rs k ≡ Some r → MayCome marks r
LeadsToMarks marks (note slot r) = MayCome marks r
LeadsToMarks marks (look end_text r) = Unit {0}
LeadsToMarks marks (look l r) = MayCome marks r
LeadsToMarks marks (set x r) = MayCome marks r

-- this holds of each node that a walk may reach
abbrev pub MarksAreClosed : List (Node Look (List Range)) → List Bool → Type 0
MarksAreClosed nodes marks = (q : ℕ) (here : Node Look (List Range)) → slice_get nodes q ≡ Some here
    → MayCome marks q → LeadsToMarks marks here

-- no mark is removed
abbrev pub MarksGrow : List Bool → List Bool → Type 0
MarksGrow old new = (q : ℕ) → MayCome old q → MayCome new q
