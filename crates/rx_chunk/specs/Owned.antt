-- The slots of a pattern's groups, the notes that fill them, and the slots of other patterns.
use Rattle.std.specs.Prelude.{◌≡◌, ◌⊎◌, ℕ, ◌+◌, ◌*◌, ◌<◌, List, [], ◌∷◌, ◌++◌, length, All, Contains, Option, Some, None, slice_get}
use Rattle.rx_sets.specs.Sets.{Range}
use Rattle.rx_grammar.specs.Trees.{Tree, Name, group, numbers_of}
use Rattle.rx_grammar.specs.Weights.{size_of}
use Rattle.rx_util.specs.Captured.{place_in}
use Rattle.rx_util.specs.Groups.{GroupNames, first_slot, group_len, slot_place}
use Rattle.rx_walks.specs.Finds.{Search}
use Rattle.rx_walks.specs.Looks as walks
use Rattle.rx_walks.specs.Programs.{Node, match, pass, note, look, set}
use Rattle.rx_program.specs.Code.{Code, code_of, pattern_code, program_of}
use Rattle.rx_chunk.specs.Engines.{AreGroupNamesOf, Engine, EngineFinds, IsAnswer, IsEngine}

-- it is one of the two slots of some group of the pattern
pub record IsSlotOf (groups : GroupNames) (pattern slot : ℕ) : Type 0 where
  pub group : ℕ
  pub first : ℕ
  pub is_first : first_slot groups pattern group ≡ Some first
  pub one_of_two : (slot ≡ first) ⊎ (slot ≡ first + 1)

-- if a pattern is found, the slots of the others are empty
abbrev pub OthersHoldNone : Type 0
OthersHoldNone = (e : Engine) (s : Search) (found : ℕ) (slots : List (Option ℕ)) → IsEngine e
    → IsAnswer (EngineFinds e) s (Some found) slots → (pattern slot : ℕ) → (pattern ≡ found → ⊥)
    → IsSlotOf e.groups pattern slot → place_in slots slot ≡ None

-- code is among nodes, from this one on
abbrev pub StandsAmong : Code → ℕ → Code → Type 0
StandsAmong nodes at code = (c : ℕ) → c < length code
    → slice_get nodes (at + c) ≡ slice_get code c

-- it is one of the two slots of a group with one of these numbers; those of group k are `slots` + 2
-- k and the next
pub record IsSlotAmong (slots : ℕ) (numbers : List ℕ) (slot : ℕ) : Type 0 where
  pub number : ℕ
  pub one_of_them : Contains numbers number
  pub one_of_two : (slot ≡ slots + 2 * number) ⊎ (slot ≡ slots + 2 * number + 1)

-- a node that writes no slot except those of such groups
abbrev pub NotesAmong : ℕ → List ℕ → Node walks.Look (List Range) → Type 0
NotesAmong slots numbers (match pattern) = Unit {0}
NotesAmong slots numbers (pass nodes) = Unit {0}
NotesAmong slots numbers (note slot next) = IsSlotAmong slots numbers slot
NotesAmong slots numbers (look asked next) = Unit {0}
NotesAmong slots numbers (set ranges next) = Unit {0}

-- the code of a pattern, from its start node on, notes its groups in the slots that they are given
pub record NotesItsGroups (nodes : Code) (groups : GroupNames) (pattern start : ℕ) (tree : Tree)
    : Type 0 where
  -- the slots of its groups are counted from here
  pub slots : ℕ
  pub stands : StandsAmong nodes start (pattern_code slots pattern tree start)
  -- the code of the whole pattern starts and ends with the notes of group 0
  pub whole : pattern_code slots pattern tree start
      ≡ note (slot_place groups pattern 0) (start + 1)
      ∷ (code_of slots tree (start + 1) (start + 1 + size_of tree)
      ++ note (slot_place groups pattern 0 + 1) (start + 2 + size_of tree) ∷ match pattern ∷ [])
  -- and that of another group inside with those of this group
  pub further : (number : ℕ) (name : Option Name) (inner : Tree) (at next : ℕ) → 0 < number
      → number < group_len groups pattern
      → code_of slots (group number name inner) at next
      ≡ note (slot_place groups pattern number) (at + 1)
      ∷ (code_of slots inner (at + 1) (at + 1 + size_of inner)
      ++ note (slot_place groups pattern number + 1) next ∷ [])
  -- the code of each part of the pattern, however often it is repeated, writes only the slots of
  -- the groups in that part
  pub parts : (part : Tree) (at next : ℕ)
      → All (NotesAmong slots (numbers_of part)) (code_of slots part at next)

-- the program of patterns does so, if these are the names of their groups
abbrev pub GroupsHaveTheirSlots : Type 0
GroupsHaveTheirSlots = (trees : List Tree) (groups : GroupNames) (terminator : ℕ)
    → AreGroupNamesOf trees groups → (pattern start : ℕ) (tree : Tree)
    → slice_get trees pattern ≡ Some tree
    → slice_get (program_of trees terminator).patterns pattern ≡ Some start
    → NotesItsGroups (program_of trees terminator).nodes groups pattern start tree
