-- How a single literal is extracted from a program.
use Rattle.std.specs.Prelude.{◌≡◌, ℕ, ◌+◌, Bool, true, List, [], ◌∷◌, length, take, Option, Some, slice_get}
use Rattle.std.specs.Char.{IsScalar}
use Rattle.memchr.specs.Find.{OccursAt}
use Rattle.rx_sets.specs.Sets.{Range}
use Rattle.rx_utf8.specs.Automata.{is_in}
use Rattle.rx_walks.specs.Looks.{Look}
use Rattle.rx_walks.specs.Machines.{Outcome}
use Rattle.rx_walks.specs.Paths.{Path}
use Rattle.rx_walks.specs.Walks.{Walk}
use Rattle.rx_walks.specs.Finds.{Search, IsInside}
use Rattle.rx_walks.specs.Programs.{Node, match, note, set, Program, Notes, fresh_notes}
use Rattle.rx_walks.specs.ProgramFinds.{highest, machine_of}

-- the set has only this member
pub record IsOnlyMember (ranges : List Range) (c : ℕ) : Type 0 where
  pub scalar : IsScalar c
  pub member : is_in ranges c ≡ true
  pub only : (d : ℕ) → IsScalar d → is_in ranges d ≡ true → d ≡ c

-- the node's only edge reads this character, and no other, and leads to this node
pub record ReadsOnly (here : Option (Node Look (List Range))) (c r : ℕ) : Type 0 where
  pub ranges : List Range
  pub here_is : here ≡ Some (set ranges r)
  pub only : IsOnlyMember ranges c

-- a walk from the start node read the literal along one path to a node, and noted where it began
pub record GoesOver (is_word : ℕ → Bool) (p : Program Look (List Range)) (s : Search)
    (literal : List ℕ) (q i : ℕ) (choices : List ℕ) (t : Outcome Notes) : Type 0 where
  pub occurs : OccursAt (take (highest s) s.content) literal i
  pub seen : List ℕ
  pub others : List ℕ
  pub choices_are : choices ≡ 0 ∷ others
  pub walk : Walk (machine_of is_in is_word p s) seen (record { start = i; noted = (0, i) ∷ [] }) q
      (i + length literal) others t

-- each walk from the start node, at an offset of a search, does this; and each path from the node,
-- after the literal, is the rest of one from the start node
pub record SpellsLiteral (p : Program Look (List Range)) (literal : List ℕ) (q : ℕ) : Type 0 where
  pub onward : (is_word : ℕ → Bool) (s : Search) (i : ℕ) (choices : List ℕ) (t : Outcome Notes)
      → IsInside s i
      → Walk (machine_of is_in is_word p s) [] (fresh_notes i) p.start i choices t
      → GoesOver is_word p s literal q i choices t
  pub back : (is_word : ℕ → Bool) (s : Search) (i pattern e : ℕ) → IsInside s i
      → OccursAt (take (highest s) s.content) literal i
      → Path (machine_of is_in is_word p s) q (i + length literal) pattern e
      → Path (machine_of is_in is_word p s) p.start i pattern e

-- after the node the end is noted, and the first pattern's match ends
pub record NotesEnd (p : Program Look (List Range)) (q : ℕ) : Type 0 where
  pub last : ℕ
  pub note_is : slice_get p.nodes q ≡ Some (note 1 last)
  pub match_is : slice_get p.nodes last ≡ Some (match 0)
