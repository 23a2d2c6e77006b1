-- Programs whose matches all contain a needle, and how such a needle is extracted from a program.
use Rattle.std.specs.Prelude.{◌≡◌, ℕ, ◌≤◌, Bool, List, [], take, Some, None, slice_get}
use Rattle.rx_sets.specs.Sets.{Range}
use Rattle.rx_utf8.specs.Automata.{is_in}
use Rattle.rx_walks.specs.Looks.{Look}
use Rattle.rx_walks.specs.Machines.{Machine, Outcome}
use Rattle.rx_walks.specs.Paths.{Path}
use Rattle.rx_walks.specs.Walks.{Walk}
use Rattle.rx_walks.specs.Finds.{Search, unanchored, IsInside}
use Rattle.rx_walks.specs.Programs.{Node, Program, Notes, fresh_notes, match, pass, note, look, set}
use Rattle.rx_walks.specs.ProgramFinds.{ProgramFinds, machine_of}
use Rattle.rx_literals.specs.Needles.{AreNeedles, OneOccursAt}
use Rattle.rx_literals.specs.Beginnings.{MatchesBeginWith, FirstNeedle}
use Rattle.rx_literals.specs.Endings.{MayCome}
use Rattle.rx_literals.specs.Ways.{TakesStem}

-- one of the needles occurs at an offset or after it
pub record OneOccursFrom (bytes : List ℕ) (i : ℕ) (needles : List (List ℕ)) : Type 0 where
  pub at : ℕ
  pub behind : i ≤ at
  pub occurs : OneOccursAt bytes at needles

-- the bytes that a walk reads from the start node, at an offset of the search, to a match end
-- contain one of the needles
abbrev pub MatchesContain : List (List ℕ) → Program Look (List Range) → Type 0
MatchesContain needles p =
    (is_word : ℕ → Bool) (s : Search) (i : ℕ) (choices : List ℕ) (t : Outcome Notes) → IsInside s i
    → Walk (machine_of is_in is_word p s) [] (fresh_notes i) p.start i choices t
    → OneOccursFrom (take t.end s.content) i needles

-- if none is found in a search's span, the program finds nothing
abbrev pub NoneContainedNoMatch : Type 0
NoneContainedNoMatch = (needles : List (List ℕ)) (p : Program Look (List Range))
    (is_word : ℕ → Bool) (s : Search)
    → AreNeedles needles → MatchesContain needles p → s.anchoring ≡ unanchored
    → FirstNeedle needles s None → ProgramFinds is_in is_word p s None

-- needles that matches begin with are needles that they contain
abbrev pub BeginningsAreContained : Type 0
BeginningsAreContained = (needles : List (List ℕ)) (p : Program Look (List Range))
    → MatchesBeginWith needles p → MatchesContain needles p

-- ---- nodes on each path to a match

-- from a node at an offset or after it a path leads to a match end
pub record PathFrom (m : Machine ℕ Notes) (q i pattern e : ℕ) : Type 0 where
  pub at : ℕ
  pub behind : i ≤ at
  pub path : Path m q at pattern e

-- each path from the start node to a match end passes this node
abbrev pub PassesNode : Program Look (List Range) → ℕ → Type 0
PassesNode p q = (is_word : ℕ → Bool) (s : Search) (i pattern e : ℕ)
    → Path (machine_of is_in is_word p s) p.start i pattern e
    → PathFrom (machine_of is_in is_word p s) q i pattern e

-- each path from a node to a match end reads this literal, and continues from another node
abbrev pub ReadsTo : Program Look (List Range) → ℕ → List ℕ → ℕ → Type 0
ReadsTo p q literal r = (is_word : ℕ → Bool) (s : Search) (i pattern e : ℕ)
    → Path (machine_of is_in is_word p s) q i pattern e
    → TakesStem p is_word s i pattern e (record { literal = literal; node = r })

-- it reads the literal first
pub record ReadsLiteral (p : Program Look (List Range)) (q : ℕ) (literal : List ℕ) : Type 0 where
  pub next : ℕ
  pub reads : ReadsTo p q literal next

-- ---- marks of nodes that a walk may reach without passing one

-- no match ends at a node, and a walk may reach the targets of its edges
abbrev pub LeadsToMarked : List Bool → Node Look (List Range) → Type 0
LeadsToMarked marks (match k) = ⊥
LeadsToMarked marks (pass rs) = (k r : ℕ) → slice_get rs k ≡ Some r → MayCome marks r
LeadsToMarked marks (note slot r) = MayCome marks r
LeadsToMarked marks (look l r) = MayCome marks r
LeadsToMarked marks (set x r) = MayCome marks r

-- this holds of each node that a walk may reach, except the one that is to be passed
abbrev pub MarksStopAt : List (Node Look (List Range)) → ℕ → List Bool → Type 0
MarksStopAt nodes stop marks = (q : ℕ) (here : Node Look (List Range))
    → slice_get nodes q ≡ Some here → MayCome marks q → (q ≡ stop → ⊥) → LeadsToMarked marks here
