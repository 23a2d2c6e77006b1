-- The names of the groups of a tree, and those of its nodes.
use Rattle.std.proofs.Common.{◌≡◌, ◌≢◌, ℕ, ◌+◌, ◌≤◌, ◌<◌, List, [], ◌∷◌, ◌++◌, length, get_or, take, drop, map, reverse, append_assoc, append-nil, All, AllPairs, Contains, Some, None, refl, sym, ap, ap₂, subst, ◌∙◌, arith}
use Rattle.std.specs.List.{flat_map}
use Rattle.std.proofs.lemmas.List.{reverse-append, take-append-drop, map-append, map_more, take-map, take_all, get_or-map, length-map}
use Rattle.std.proofs.lemmas.List.Elements.{All-more}
use Rattle.std.proofs.lemmas.List.Quantifiers.{all_pairs_push}
use Rattle.std.proofs.lemmas.List.Concat.{flat_map-append}
use Rattle.rx_grammar.specs.Trees.{Name, Tree, empty, in_a_row, concat_of, names_of, all_names_of}
use Rattle.rx_grammar.specs.Subtrees.{NodeKind, an_empty, a_set, a_look, a_group, a_concat, an_alternation, a_repetition}
use Rattle.rx_grammar.specs.Postorder.{alternate, after_node, after_nodes, trees_of, own_names, names_in}
use Rattle.rx_grammar.specs.declared.hir.Node.{Node}
use Rattle.rx_grammar.specs.Nodes.{kind_of}
use Rattle.rx_grammar.proofs.HeadLaws.{front_apart as AllPairs-behind}

all_names : (first second : Tree) (others : List Tree) → all_names_of (in_a_row first second others) ≡ flat_map names_of (first ∷ second ∷ others)
all_names first second [] = ap (λ x. names_of first ++ x) (sym (append-nil (names_of second)))
all_names first second (third ∷ others) = ap (λ x. names_of first ++ x) (all_names second third others)

names_of-concat : (items : List Tree) → names_of (concat_of items) ≡ flat_map names_of items
names_of-concat [] = refl
names_of-concat (item ∷ []) = sym (append-nil (names_of item))
names_of-concat (first ∷ second ∷ others) = all_names first second others

names_of-alternation : (branches : List Tree) → names_of (alternate branches) ≡ flat_map names_of branches
names_of-alternation [] = refl
names_of-alternation (branch ∷ []) = sym (append-nil (names_of branch))
names_of-alternation (first ∷ second ∷ others) = all_names first second others

-- the names of trees in a row, the last one first
abbrev row_names : List Tree → List Name
row_names trees = flat_map names_of (reverse trees)

row_names-cons : (tree : Tree) (trees : List Tree) → row_names (tree ∷ trees) ≡ row_names trees ++ names_of tree
row_names-cons tree trees =
    ap (flat_map names_of) (reverse-append (tree ∷ []) trees) ∙ flat_map-append names_of (reverse trees) (tree ∷ []) ∙ ap (λ x. row_names trees ++ x) (append-nil (names_of tree))

row_names-split : (n : ℕ) (trees : List Tree) → row_names (drop n trees) ++ row_names (take n trees) ≡ row_names trees
row_names-split n trees =
    sym (flat_map-append names_of (reverse (drop n trees)) (reverse (take n trees)))
    ∙ ap (flat_map names_of) (sym (reverse-append (take n trees) (drop n trees)) ∙ ap reverse (take-append-drop n trees))

joined_names : (tree : Tree) (n : ℕ) (trees : List Tree) → names_of tree ≡ row_names (take n trees) → row_names (tree ∷ drop n trees) ≡ row_names trees ++ []
joined_names tree n trees is =
    row_names-cons tree (drop n trees) ∙ ap (λ x. row_names (drop n trees) ++ x) is ∙ row_names-split n trees ∙ sym (append-nil (row_names trees))

after_node-names : (trees : List Tree) (node : NodeKind) → row_names (after_node trees node) ≡ row_names trees ++ own_names node
after_node-names trees an_empty = row_names-cons empty trees
after_node-names trees (a_set ranges) = row_names-cons _ trees
after_node-names trees (a_look look) = row_names-cons _ trees
after_node-names [] (a_group number None) = refl
after_node-names [] (a_group number (Some name)) = refl
after_node-names (tree ∷ trees) (a_group number None) =
    row_names-cons _ trees ∙ ap (λ x. row_names trees ++ x) (append-nil (names_of tree)) ∙ sym (row_names-cons tree trees) ∙ sym (append-nil (row_names (tree ∷ trees)))
after_node-names (tree ∷ trees) (a_group number (Some name)) =
    row_names-cons _ trees ∙ sym (append_assoc (row_names trees) (names_of tree) (name ∷ [])) ∙ ap (λ x. x ++ name ∷ []) (sym (row_names-cons tree trees))
after_node-names trees (a_concat count) = joined_names (concat_of (reverse (take count trees))) count trees (names_of-concat (reverse (take count trees)))
after_node-names trees (an_alternation count) = joined_names (alternate (reverse (take count trees))) count trees (names_of-alternation (reverse (take count trees)))
after_node-names [] (a_repetition repetition) = refl
after_node-names (tree ∷ trees) (a_repetition repetition) =
    row_names-cons _ trees ∙ sym (row_names-cons tree trees) ∙ sym (append-nil (row_names (tree ∷ trees)))

after_nodes-names : (trees : List Tree) (nodes : List NodeKind) → row_names (after_nodes trees nodes) ≡ row_names trees ++ names_in nodes
after_nodes-names trees [] = sym (append-nil (row_names trees))
after_nodes-names trees (node ∷ nodes) =
    after_nodes-names (after_node trees node) nodes ∙ ap (λ x. x ++ names_in nodes) (after_node-names trees node)
    ∙ append_assoc (row_names trees) (own_names node) (names_in nodes)

-- nodes that make one tree name what it names
pub names_in-tree : {tree : Tree} (nodes : List NodeKind) → trees_of nodes ≡ tree ∷ [] → names_in nodes ≡ names_of tree
names_in-tree {tree = tree} nodes one = sym (after_nodes-names [] nodes) ∙ ap row_names one ∙ append-nil (names_of tree)

-- names that are read one by one
pub record NamesSoFar (names : List Name) (nodes : List Node) : Type 0 where
  pub names_are : names ≡ names_in (map kind_of nodes)
  pub once : AllPairs (λ a b. a ≢ b) names

pub names_of_more : (nodes : List Node) (i : ℕ) (node : Node) → i < length nodes → node ≡ get_or nodes i node
    → names_in (map kind_of (take (i + 1) nodes)) ≡ names_in (map kind_of (take i nodes)) ++ own_names (kind_of node)
names_of_more nodes i node lt is =
    ap names_in (map_more kind_of nodes i node lt) ∙ flat_map-append own_names (map kind_of (take i nodes)) (kind_of (get_or nodes i node) ∷ [])
    ∙ ap (λ x. names_in (map kind_of (take i nodes)) ++ x) (append-nil (own_names (kind_of (get_or nodes i node))) ∙ ap (λ x. own_names (kind_of x)) (sym is))

pub NamesSoFar-skip : {names : List Name} (nodes : List Node) (i : ℕ) (node : Node) → NamesSoFar names (take i nodes) → i < length nodes → node ≡ get_or nodes i node
    → own_names (kind_of node) ≡ [] → NamesSoFar names (take (i + 1) nodes)
NamesSoFar-skip nodes i node so_far lt is none = record {
  names_are = so_far.names_are ∙ sym (append-nil (names_in (map kind_of (take i nodes)))) ∙ ap (λ x. names_in (map kind_of (take i nodes)) ++ x) (sym none)
      ∙ sym (names_of_more nodes i node lt is);
  once = so_far.once;
}

pub NamesSoFar-push : {names : List Name} {name : Name} (nodes : List Node) (i : ℕ) (node : Node) → NamesSoFar names (take i nodes) → i < length nodes → node ≡ get_or nodes i node
    → own_names (kind_of node) ≡ name ∷ [] → All (λ other. other ≢ name) names → NamesSoFar (names ++ name ∷ []) (take (i + 1) nodes)
NamesSoFar-push {names = names} {name = name} nodes i node so_far lt is own other = record {
  names_are = ap (λ x. x ++ name ∷ []) so_far.names_are ∙ ap (λ x. names_in (map kind_of (take i nodes)) ++ x) (sym own) ∙ sym (names_of_more nodes i node lt is);
  once = all_pairs_push (λ a b. a ≢ b) names name so_far.once (λ k d within. other k d within);
}

pub NamesSoFar-twice : {names : List Name} {name : Name} (nodes : List Node) (i : ℕ) (node : Node) → NamesSoFar names (take i nodes) → i < length nodes → node ≡ get_or nodes i node
    → own_names (kind_of node) ≡ name ∷ [] → Contains names name → AllPairs (λ a b. a ≢ b) (names_in (map kind_of nodes)) → ⊥
NamesSoFar-twice {names = names} {name = name} nodes i node so_far lt is own found once =
    let later = names_in (map kind_of (drop (i + 1) nodes)) in
    let front : names_in (map kind_of (take (i + 1) nodes)) ≡ names ++ name ∷ [] =
    names_of_more nodes i node lt is ∙ ap₂ (λ x y. x ++ y) (sym so_far.names_are) own in
    let split : names_in (map kind_of nodes) ≡ names ++ name ∷ later =
    ap (λ x. names_in (map kind_of x)) (sym (take-append-drop (i + 1) nodes)) ∙ ap names_in (map-append kind_of (take (i + 1) nodes) (drop (i + 1) nodes))
    ∙ flat_map-append own_names (map kind_of (take (i + 1) nodes)) (map kind_of (drop (i + 1) nodes)) ∙ ap (λ x. x ++ later) front ∙ append_assoc names (name ∷ []) later in
    AllPairs-behind names later name found.0 name found.1 found.2 (subst (λ l. AllPairs (λ a b. a ≢ b) l) split once)

-- something among things that are kept otherwise
pub found_at : {A B : Type 0} (f : B → A) (xs : List B) (i : ℕ) (d : B) (name : A) → i < length xs → f (get_or xs i d) ≡ name → Contains (map f xs) name
found_at f xs i d name lt is = (i, within, get_or-map f xs i d name lt ∙ is)
  where
    within : i < length (map f xs)
    within = simp length-map (omega (arith, lt))

pub none_more : {A B : Type 0} (f : B → A) (xs : List B) (i : ℕ) (d : B) (name : A) → i < length xs → All (λ other. other ≢ name) (map f (take i xs)) → (f (get_or xs i d) ≡ name → ⊥)
    → All (λ other. other ≢ name) (map f (take (i + 1) xs))
none_more {A = A} f xs i d name lt none other =
    let within : i < length (map f xs) = simp length-map (omega (arith, lt)) in
    subst (λ l. All (λ other. other ≢ name) l) (take-map f (i + 1) xs)
    (All-more (λ other. other ≢ name) (map f xs) i name within (subst (λ l. All (λ other. other ≢ name) l) (sym (take-map f i xs)) none) (λ e. other (sym (get_or-map f xs i d name lt) ∙ e)))

pub none_all : {A B : Type 0} (f : B → A) (xs : List B) (i : ℕ) (name : A) → length xs ≤ i → All (λ other. other ≢ name) (map f (take i xs)) → All (λ other. other ≢ name) (map f xs)
none_all f xs i name over none = subst (λ l. All (λ other. other ≢ name) (map f l)) (take_all i xs over) none
