-- The program of a tree. Each part becomes a sequence of nodes, numbered from `at` on, of which the
-- first is its entry; from it walks go on to the node `next`.
use Rattle.std.specs.Prelude.{ℕ, zero, suc, ◌+◌, ◌-◌, ◌*◌, Bool, true, false, List, [], ◌∷◌, ◌++◌, length, Option, Some, None}
use Rattle.rx_sets.specs.Sets.{Range}
use Rattle.rx_grammar.specs.declared.hir.Look.{Look}
use Rattle.rx_grammar.specs.declared.hir.Look.TheVariants.{Start, End, StartLine, EndLine, WordUnicode, WordUnicodeNegate}
use Rattle.rx_grammar.specs.Trees.{Tree, Trees, empty, one_of, look_at, group, concat, alternation, repeated, two, more, numbers_of}
use Rattle.rx_grammar.specs.Weights.{may_be_empty, size_of}
use Rattle.rx_walks.specs.Looks as walks
use Rattle.rx_walks.specs.Programs.{Node, match, pass, note, look, set, Program}

abbrev pub Code : Type 0
Code = List (Node walks.Look (List Range))

-- the assertion of an assertion in a pattern
abbrev pub place_of : Look → walks.Look
place_of Start = walks.start_text
place_of End = walks.end_text
place_of StartLine = walks.start_line
place_of EndLine = walks.end_line
place_of WordUnicode = walks.word_boundary
place_of WordUnicodeNegate = walks.no_word_boundary

-- edges into a part and on; greedy prefers the one into it
abbrev pub fork : Bool → ℕ → ℕ → Node walks.Look (List Range)
fork true into on = pass (into ∷ on ∷ [])
fork false into on = pass (on ∷ into ∷ [])

-- the entry of `n` parts in sequence: that of the first one, or `next` if there are none
abbrev pub entry_of : ℕ → ℕ → ℕ → ℕ
entry_of zero at next = next
entry_of (suc n) at next = at

-- `n` copies of a part in sequence
abbrev pub copies : ℕ → (ℕ → ℕ → Code) → ℕ → ℕ → ℕ → Code
copies size code zero at next = []
copies size code (suc n) at next =
    code at (entry_of n (at + size) next) ++ copies size code n (at + size) next

-- `n` optional copies of a part, each inside the one before
abbrev pub optional : Bool → ℕ → (ℕ → ℕ → Code) → ℕ → ℕ → ℕ → Code
optional greedy size code zero at next = []
optional greedy size code (suc n) at next = fork greedy (at + 1) next
    ∷ (code (at + 1) (entry_of n (at + 1 + size) next)
    ++ optional greedy size code n (at + 1 + size) next)

-- a repetition: whether it is greedy, its least and greatest number, the size of the part, whether
-- the part may be empty, and its code
abbrev pub repetition_code : Bool → ℕ → Option ℕ → ℕ → Bool → (ℕ → ℕ → Code) → ℕ → ℕ → Code
-- h{0}: an empty part
repetition_code greedy n (Some zero) size may code at next = pass (next ∷ []) ∷ []
-- h{n,m}: n copies, then m - n optional copies
repetition_code greedy n (Some (suc m)) size may code at next =
    copies size code n at (entry_of (suc m - n) (at + n * size) next)
    ++ optional greedy size code (suc m - n) (at + n * size) next
-- h*: a node with edges into h and on; h leads back to it
repetition_code greedy zero None size false code at next =
    fork greedy (at + 1) next ∷ code (at + 1) at
-- h* if h may be empty: h, then a node with edges back to it and on, all of it optional
repetition_code greedy zero None size true code at next = fork greedy (at + 1) next
    ∷ (code (at + 1) (at + 1 + size) ++ fork greedy (at + 1) next ∷ [])
-- h{n,}: n copies, then a node with edges back to the last one and on
repetition_code greedy (suc n) None size may code at next =
    copies size code (suc n) at (at + suc n * size) ++ fork greedy (at + n * size) next ∷ []

-- the entries of branches
abbrev pub branch_starts : Trees → ℕ → List ℕ
branch_starts (two first second) at = at ∷ (at + size_of first) ∷ []
branch_starts (more first others) at = at ∷ branch_starts others (at + size_of first)

-- a tree; the slots of group k are `slots` + 2 k and the one after it
abbrev mutual
  pub code_of : ℕ → Tree → ℕ → ℕ → Code
  code_of slots empty at next = pass (next ∷ []) ∷ []
  code_of slots (one_of ranges) at next = set ranges next ∷ []
  code_of slots (look_at asked) at next = look (place_of asked) next ∷ []
  code_of slots (group number name tree) at next = note (slots + 2 * number) (at + 1)
      ∷ (code_of slots tree (at + 1) (at + 1 + size_of tree)
      ++ note (slots + 2 * number + 1) next ∷ [])
  code_of slots (concat trees) at next = row_code slots trees at next
  code_of slots (alternation trees) at next = pass (branch_starts trees (at + 1))
      ∷ branches_code slots trees (at + 1) next
  code_of slots (repeated repetition tree) at next =
      repetition_code repetition.greedy repetition.min repetition.max (size_of tree)
      (may_be_empty tree) (code_of slots tree) at next

  -- trees in sequence
  pub row_code : ℕ → Trees → ℕ → ℕ → Code
  row_code slots (two first second) at next =
      code_of slots first at (at + size_of first) ++ code_of slots second (at + size_of first) next
  row_code slots (more first others) at next =
      code_of slots first at (at + size_of first) ++ row_code slots others (at + size_of first) next

  -- alternative trees
  pub branches_code : ℕ → Trees → ℕ → ℕ → Code
  branches_code slots (two first second) at next =
      code_of slots first at next ++ code_of slots second (at + size_of first) next
  branches_code slots (more first others) at next =
      code_of slots first at next ++ branches_code slots others (at + size_of first) next

-- a whole pattern, with number p: with the group of the whole match and the match
abbrev pub pattern_code : ℕ → ℕ → Tree → ℕ → Code
pattern_code slots p tree at = note (2 * p) (at + 1)
    ∷ (code_of slots tree (at + 1) (at + 1 + size_of tree)
    ++ note (2 * p + 1) (at + 2 + size_of tree) ∷ match p ∷ [])

-- patterns in sequence, the first with number p, and their entries
abbrev pub patterns_code : ℕ → ℕ → List Tree → ℕ → Code
patterns_code slots p [] at = []
patterns_code slots p (tree ∷ trees) at = pattern_code slots p tree at
    ++ patterns_code (slots + 2 * length (numbers_of tree)) (p + 1) trees (at + 3 + size_of tree)

abbrev pub pattern_starts : List Tree → ℕ → List ℕ
pattern_starts [] at = []
pattern_starts (tree ∷ trees) at = at ∷ pattern_starts trees (at + 3 + size_of tree)

-- a single pattern has the start node; several, or none, have a node above them with ordered edges
-- to each. The slots of all groups 0 come first, then those of the other groups, pattern by
-- pattern.
abbrev pub program_of : List Tree → ℕ → Program walks.Look (List Range)
program_of (tree ∷ []) terminator = record {
  nodes = pattern_code 0 0 tree 0;
  start = 0;
  patterns = 0 ∷ [];
  line_terminator = terminator;
}
program_of trees terminator = record {
  nodes = pass (pattern_starts trees 1) ∷ patterns_code (2 * length trees - 2) 0 trees 1;
  start = 0;
  patterns = pattern_starts trees 1;
  line_terminator = terminator;
}
