-- Trees made of nodes in postorder.
use Rattle.std.specs.Prelude.{List, [], ◌∷◌, reverse, take, drop, flat_map, Some}
use Rattle.rx_grammar.specs.Trees.{Name, Tree, empty, one_of, look_at, group, repeated, concat_of, alternation_of}
use Rattle.rx_grammar.specs.Subtrees.{NodeKind, an_empty, a_set, a_look, a_group, a_concat, an_alternation, a_repetition}

-- the alternation of branches
abbrev pub alternate : List Tree → Tree
alternate [] = empty
alternate (first ∷ others) = alternation_of first others

-- the trees after one more node, the last one first: the node takes the last trees as its children
abbrev pub after_node : List Tree → NodeKind → List Tree
after_node trees an_empty = empty ∷ trees
after_node trees (a_set ranges) = one_of ranges ∷ trees
after_node trees (a_look look) = look_at look ∷ trees
after_node [] (a_group number name) = group number name empty ∷ []
after_node (tree ∷ trees) (a_group number name) = group number name tree ∷ trees
after_node trees (a_concat count) = concat_of (reverse (take count trees)) ∷ drop count trees
after_node trees (an_alternation count) = alternate (reverse (take count trees)) ∷ drop count trees
after_node [] (a_repetition repetition) = repeated repetition empty ∷ []
after_node (tree ∷ trees) (a_repetition repetition) = repeated repetition tree ∷ trees

abbrev pub after_nodes : List Tree → List NodeKind → List Tree
after_nodes trees [] = trees
after_nodes trees (node ∷ nodes) = after_nodes (after_node trees node) nodes

-- the trees of the nodes, the last one first
abbrev pub trees_of : List NodeKind → List Tree
trees_of nodes = after_nodes [] nodes

abbrev pub first_of : List Tree → Tree
first_of [] = empty
first_of (tree ∷ trees) = tree

-- the tree of the nodes
abbrev pub tree_of : List NodeKind → Tree
tree_of nodes = first_of (trees_of nodes)

-- the name of a group
abbrev pub own_names : NodeKind → List Name
own_names (a_group number (Some name)) = name ∷ []
own_names _ = []

-- the names of the groups among the nodes, in their order
abbrev pub names_in : List NodeKind → List Name
names_in nodes = flat_map own_names nodes
