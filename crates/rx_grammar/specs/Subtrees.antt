-- The subtrees and the nodes of a tree.
use Rattle.std.specs.Prelude.{◌≡◌, ◌≢◌, ℕ, ◌+◌, ◌≤◌, ◌<◌, List, [], ◌∷◌, ◌++◌, map, length, get_or, All, AllPairs, Contains, Option, Some, None}
use Rattle.rx_grammar.specs.declared.hir.Look.{Look}
use Rattle.rx_grammar.specs.declared.hir.Repetition.{Repetition}
use Rattle.rx_grammar.specs.Sets.{Range}
use Rattle.rx_grammar.specs.Trees.{Name, Tree, Trees, empty, one_of, look_at, group, concat, alternation, repeated, two, more, names_of, numbers_of}

-- a node without its children
pub data NodeKind : Type 0 where
  an_empty : NodeKind
  a_set : List Range → NodeKind
  a_look : Look → NodeKind
  a_group : ℕ → Option Name → NodeKind
  -- the number of children
  a_concat : ℕ → NodeKind
  an_alternation : ℕ → NodeKind
  a_repetition : Repetition → NodeKind

-- the number of children of a node
abbrev pub child_count : NodeKind → ℕ
child_count an_empty = 0
child_count (a_set ranges) = 0
child_count (a_look look) = 0
child_count (a_group number name) = 1
child_count (a_concat count) = count
child_count (an_alternation count) = count
child_count (a_repetition repetition) = 1

abbrev pub how_many : Trees → ℕ
how_many (two first second) = 2
how_many (more first others) = how_many others + 1

-- the root of a tree
abbrev pub root_of : Tree → NodeKind
root_of empty = an_empty
root_of (one_of ranges) = a_set ranges
root_of (look_at look) = a_look look
root_of (group number name tree) = a_group number name
root_of (concat trees) = a_concat (how_many trees)
root_of (alternation trees) = an_alternation (how_many trees)
root_of (repeated repetition tree) = a_repetition repetition

-- the subtrees in postorder; the last one is the tree itself
abbrev mutual
  pub subtrees_of : Tree → List Tree
  subtrees_of empty = empty ∷ []
  subtrees_of (one_of ranges) = one_of ranges ∷ []
  subtrees_of (look_at look) = look_at look ∷ []
  subtrees_of (group number name tree) = subtrees_of tree ++ group number name tree ∷ []
  subtrees_of (concat trees) = all_subtrees_of trees ++ concat trees ∷ []
  subtrees_of (alternation trees) = all_subtrees_of trees ++ alternation trees ∷ []
  subtrees_of (repeated repetition tree) = subtrees_of tree ++ repeated repetition tree ∷ []

  pub all_subtrees_of : Trees → List Tree
  all_subtrees_of (two first second) = subtrees_of first ++ subtrees_of second
  all_subtrees_of (more first others) = subtrees_of first ++ all_subtrees_of others

-- the nodes in postorder
abbrev pub nodes_of : Tree → List NodeKind
nodes_of tree = map root_of (subtrees_of tree)

-- a group of the tree has this number and this name
abbrev pub HasName : Tree → ℕ → Name → Type 0
HasName tree number name = Contains (nodes_of tree) (a_group number (Some name))

-- a greatest number of times is at least the least one, and at most 65,535
abbrev pub IsMost : ℕ → Option ℕ → Type 0
IsMost least None = Unit {0}
IsMost least (Some most) = (least ≤ most) × (most ≤ 65535)

-- the numbers of a repetition are at most 65,535, and the least one is at most the greatest
abbrev pub IsBounded : NodeKind → Type 0
IsBounded (a_repetition repetition) = (repetition.min ≤ 65535) × IsMost repetition.min repetition.max
IsBounded _ = Unit {0}

-- what holds of each tree of a text
pub record IsWellFormed (tree : Tree) : Type 0 where
  -- groups are numbered from 1 in the order in which they open
  pub numbered : (k : ℕ) → k < length (numbers_of tree) → get_or (numbers_of tree) k 0 ≡ k + 1
  -- there are at most 65,536 of them
  pub few : length (numbers_of tree) ≤ 65536
  -- no two groups have the same name
  pub names : AllPairs (λ a b. a ≢ b) (names_of tree)
  -- the numbers of repetitions are in bounds
  pub repetitions : All IsBounded (nodes_of tree)
