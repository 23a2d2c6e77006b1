-- Stacks of trees, of which the last ones may become children of another, and their properties.
use Rattle.std.specs.Prelude.{◌≡◌, ℕ, ◌+◌, ◌≤◌, Bool, true, false, ◌&&◌, ◌||◌, List, [], ◌∷◌, length, map, reverse, flat_map, Option, Some, None}
use Rattle.rx_grammar.specs.declared.properties.Properties.{Properties}
use Rattle.rx_grammar.specs.declared.properties.RowProperties.{RowProperties}
use Rattle.rx_grammar.specs.Trees.{Tree}
use Rattle.rx_grammar.specs.Subtrees.{NodeKind, a_group, a_concat, an_alternation, child_count, root_of, subtrees_of, nodes_of, IsWellFormed}
use Rattle.rx_grammar.specs.Weights.{may_be_empty, weight_of, size_of, held}
use Rattle.rx_grammar.specs.StaticGroups.{static_groups, both_groups, common_groups}
use Rattle.rx_grammar.specs.Postorder.{trees_of}
use Rattle.rx_grammar.specs.Nodes.{properties_of}

-- the number of groups that a node itself is, without its children
abbrev pub own_groups : NodeKind → ℕ
own_groups (a_group number name) = 1
own_groups _ = 0

-- the subtrees of a stack of trees, whose last tree comes first
abbrev pub row_subtrees : List Tree → List Tree
row_subtrees trees = flat_map subtrees_of (reverse trees)

-- concatenations and alternations have two children or more
abbrev pub IsOverTwo : NodeKind → Type 0
IsOverTwo (a_concat count) = 2 ≤ count
IsOverTwo (an_alternation count) = 2 ≤ count
IsOverTwo _ = Unit {0}

-- the node may follow the trees
pub record MayFollow (trees : List Tree) (node : NodeKind) : Type 0 where
  pub fits : child_count node ≤ length trees
  pub over_two : IsOverTwo node

abbrev pub weights_in : List Tree → ℕ
weights_in [] = 0
weights_in (tree ∷ trees) = weight_of tree + weights_in trees

abbrev pub sizes_in : List Tree → ℕ
sizes_in [] = 0
sizes_in (tree ∷ trees) = size_of tree + sizes_in trees

abbrev pub all_empty_in : List Tree → Bool
all_empty_in [] = true
all_empty_in (tree ∷ trees) = may_be_empty tree && all_empty_in trees

abbrev pub any_empty_in : List Tree → Bool
any_empty_in [] = false
any_empty_in (tree ∷ trees) = may_be_empty tree || any_empty_in trees

abbrev pub static_groups_in : List Tree → Option ℕ
static_groups_in [] = Some 0
static_groups_in (tree ∷ trees) = both_groups (static_groups tree) (static_groups_in trees)

abbrev pub common_with : Option ℕ → Option (Option ℕ) → Option ℕ
common_with groups None = groups
common_with groups (Some others) = common_groups groups others

-- the number that all trees have in common, if there is a tree
abbrev pub common_in : List Tree → Option (Option ℕ)
common_in [] = None
common_in (tree ∷ trees) = Some (common_with (static_groups tree) (common_in trees))

-- these are the properties of the trees
pub record AreRowProperties (row : RowProperties) (trees : List Tree) : Type 0 where
  pub extent : row.extent ≡ length (row_subtrees trees)
  pub weight : row.weight ≡ held (weights_in trees)
  pub size : row.size ≡ held (sizes_in trees)
  pub all : row.all_may_be_empty ≡ all_empty_in trees
  pub any : row.any_may_be_empty ≡ any_empty_in trees
  pub groups : row.groups ≡ static_groups_in trees
  pub common : row.common_groups ≡ common_in trees

-- the nodes are exactly those of their trees, with these properties and this number of trees
pub record AreStacked (nodes : List NodeKind) (properties : List Properties) (height : ℕ) : Type 0 where
  pub counted : height ≡ length (trees_of nodes)
  pub exact : nodes ≡ map root_of (row_subtrees (trees_of nodes))
  pub known : properties ≡ map properties_of (row_subtrees (trees_of nodes))

-- the nodes are exactly those of the tree, which is well-formed, with these properties
pub record AreNodesOf (tree : Tree) (nodes : List NodeKind) (properties : List Properties) : Type 0 where
  pub made : trees_of nodes ≡ tree ∷ []
  pub exact : nodes ≡ nodes_of tree
  pub well_formed : IsWellFormed tree
  pub known : properties ≡ map properties_of (subtrees_of tree)
