-- Laws of the programs of patterns.
use Rattle.std.specs.Prelude.{◌≡◌, ℕ, ◌+◌, ◌*◌, ◌<◌, ◌≤◌, Bool, List, [], ◌∷◌, length, All, None, Some}
use Rattle.rx_sets.specs.Sets.{Range}
use Rattle.rx_utf8.specs.Automata.{is_in}
use Rattle.rx_grammar.specs.Trees.{Tree}
use Rattle.rx_grammar.specs.Subtrees.{IsWellFormed}
use Rattle.rx_walks.specs.Machines.{Outcome}
use Rattle.rx_walks.specs.Walks.{Walk}
use Rattle.rx_walks.specs.Finds.{Anchoring, anchored_pattern, Search}
use Rattle.rx_walks.specs.Looks.{Look}
use Rattle.rx_walks.specs.Programs.{Program, IsAbovePatterns, Notes, fresh_notes, slot_of}
use Rattle.rx_walks.specs.ProgramFinds.{ProgramFinds, machine_of, start_node, start_of}
use Rattle.rx_program.specs.Code.{program_of}

-- a match of the first pattern has its start, i, in slot 0 and its end in slot 1
pub record HasNoted (i : ℕ) (t : Outcome Notes) : Type 0 where
  pub pattern : t.pattern ≡ 0
  pub start : slot_of t.notes 0 ≡ Some i
  pub end : slot_of t.notes 1 ≡ Some t.end

-- each match that a walk from the start node reaches has, and each find
pub record NotesPlaces (is_word : ℕ → Bool) (p : Program Look (List Range))
    (s : Search) : Type 0 where
  pub walks : (i : ℕ) (choices : List ℕ) (t : Outcome Notes)
      → Walk (machine_of is_in is_word p s) [] (fresh_notes i) p.start i choices t → HasNoted i t
  pub finds : (t : Outcome Notes) → ProgramFinds is_in is_word p s (Some t)
      → HasNoted (start_of t) t

-- in each search the program of one pattern, whose groups are numbered from 1 on, notes its offsets
abbrev pub MatchesNoteTheirPlaces : Type 0
MatchesNoteTheirPlaces = (tree : Tree) (terminator : ℕ) → IsWellFormed tree
    → (is_word : ℕ → Bool) (p : Program Look (List Range)) (s : Search)
    → p ≡ program_of (tree ∷ []) terminator → NotesPlaces is_word p s

-- a group with this slot and the next: neither has an offset, or both have, and the second isn't
-- less than the first
pub data IsNotedWhole (n : Notes) (slot : ℕ) : Type 0 where
  not_noted : slot_of n slot ≡ None → slot_of n (slot + 1) ≡ None → IsNotedWhole n slot
  noted : {start end : ℕ} → slot_of n slot ≡ Some start → slot_of n (slot + 1) ≡ Some end
      → start ≤ end → IsNotedWhole n slot

-- each group of each match that a walk from the start node reaches is such, and of each find
pub record NotesGroups (is_word : ℕ → Bool) (p : Program Look (List Range))
    (s : Search) : Type 0 where
  pub walks : (q i : ℕ) (choices : List ℕ) (t : Outcome Notes) → start_node p s.anchoring ≡ Some q
      → Walk (machine_of is_in is_word p s) [] (fresh_notes i) q i choices t
      → (k : ℕ) → IsNotedWhole t.notes (2 * k)
  pub finds : (t : Outcome Notes) → ProgramFinds is_in is_word p s (Some t)
      → (k : ℕ) → IsNotedWhole t.notes (2 * k)

-- in each search the program of patterns, whose groups are numbered from 1 on, notes each of their
-- groups whole, also the groups 0
abbrev pub GroupsAreNotedWhole : Type 0
GroupsAreNotedWhole = (trees : List Tree) (terminator : ℕ) → All IsWellFormed trees
    → (is_word : ℕ → Bool) (p : Program Look (List Range)) (s : Search)
    → p ≡ program_of trees terminator → NotesGroups is_word p s

-- in the program of patterns a single pattern has the start node; several, or none, have a node
-- above them
abbrev pub ProgramsAreAbovePatterns : Type 0
ProgramsAreAbovePatterns =
    (trees : List Tree) (terminator : ℕ) → IsAbovePatterns (program_of trees terminator)

-- a match has its start, i, in the first slot of its pattern's group 0, and its end in the second
-- one
pub record HasNotedOwn (i : ℕ) (t : Outcome Notes) : Type 0 where
  pub start : slot_of t.notes (2 * t.pattern) ≡ Some i
  pub end : slot_of t.notes (2 * t.pattern + 1) ≡ Some t.end

-- it is a match of one of the program's patterns, and of the one to which the search is anchored,
-- if it is
pub record IsOfPattern (p : Program Look (List Range)) (anchoring : Anchoring) (t : Outcome Notes)
    : Type 0 where
  pub known : t.pattern < length p.patterns
  pub anchored : (k : ℕ) → anchoring ≡ anchored_pattern k → t.pattern ≡ k

-- each match that a walk from the start node reaches is such, and each find
pub record NotesOwnPlaces (is_word : ℕ → Bool) (p : Program Look (List Range))
    (s : Search) : Type 0 where
  pub walks : (q i : ℕ) (choices : List ℕ) (t : Outcome Notes) → start_node p s.anchoring ≡ Some q
      → Walk (machine_of is_in is_word p s) [] (fresh_notes i) q i choices t
      → HasNotedOwn i t × IsOfPattern p s.anchoring t
  pub finds : (t : Outcome Notes) → ProgramFinds is_in is_word p s (Some t)
      → HasNotedOwn (start_of t) t × IsOfPattern p s.anchoring t

-- in each search the program of any number of patterns notes its offsets
abbrev pub ProgramsNoteTheirPlaces : Type 0
ProgramsNoteTheirPlaces = (trees : List Tree) (terminator : ℕ) → All IsWellFormed trees
    → (is_word : ℕ → Bool) (p : Program Look (List Range)) (s : Search)
    → p ≡ program_of trees terminator → NotesOwnPlaces is_word p s
