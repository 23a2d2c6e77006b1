-- The parts of trees that are built from nodes.
use Rattle.std.proofs.Common.{◌≡◌, ℕ, ◌+◌, ◌≤◌, List, [], ◌∷◌, ◌++◌, length, take, drop, map, reverse, append_assoc, append-nil, refl, sym, ap, ap₂, ◌∙◌, arith, length-drop}
use Rattle.std.specs.List.{flat_map}
use Rattle.std.proofs.lemmas.List.{reverse-append, take-append-drop, map-append, length-reverse, length-take-le}
use Rattle.std.proofs.lemmas.List.Concat.{flat_map-append}
use Rattle.rx_grammar.specs.declared.properties.Properties.{Properties}
use Rattle.rx_grammar.specs.Trees.{Tree, empty, one_of, look_at, group, concat, alternation, repeated, in_a_row, concat_of}
use Rattle.rx_grammar.specs.Subtrees.{NodeKind, an_empty, a_set, a_look, a_group, a_concat, an_alternation, a_repetition, child_count, how_many, root_of, subtrees_of, all_subtrees_of}
use Rattle.rx_grammar.specs.Postorder.{alternate, after_node, trees_of, first_of}
use Rattle.rx_grammar.specs.Rows.{row_subtrees, MayFollow, AreStacked}
use Rattle.rx_grammar.specs.Nodes.{properties_of}
use Rattle.rx_grammar.proofs.StackLaws.{trees_of-push}

pub all_subtrees : (first second : Tree) (others : List Tree) → all_subtrees_of (in_a_row first second others) ≡ flat_map subtrees_of (first ∷ second ∷ others)
all_subtrees first second [] = ap (λ x. subtrees_of first ++ x) (sym (append-nil (subtrees_of second)))
all_subtrees first second (third ∷ others) = ap (λ x. subtrees_of first ++ x) (all_subtrees second third others)

how_many-in_a_row : (first second : Tree) (others : List Tree) → how_many (in_a_row first second others) ≡ length (first ∷ second ∷ others)
how_many-in_a_row first second [] = refl
how_many-in_a_row first second (third ∷ others) = omega (arith, how_many-in_a_row second third others)

pub subtrees_of-concat : (items : List Tree) → 2 ≤ length items → subtrees_of (concat_of items) ≡ flat_map subtrees_of items ++ concat_of items ∷ []
subtrees_of-concat [] some = absurd (omega arith)
subtrees_of-concat (item ∷ []) some = absurd (omega arith)
subtrees_of-concat (first ∷ second ∷ others) some = ap (λ x. x ++ concat (in_a_row first second others) ∷ []) (all_subtrees first second others)

pub subtrees_of-alternation : (branches : List Tree) → 2 ≤ length branches → subtrees_of (alternate branches) ≡ flat_map subtrees_of branches ++ alternate branches ∷ []
subtrees_of-alternation [] some = absurd (omega arith)
subtrees_of-alternation (branch ∷ []) some = absurd (omega arith)
subtrees_of-alternation (first ∷ second ∷ others) some = ap (λ x. x ++ alternation (in_a_row first second others) ∷ []) (all_subtrees first second others)

root_of-concat : (items : List Tree) → 2 ≤ length items → root_of (concat_of items) ≡ a_concat (length items)
root_of-concat [] some = absurd (omega arith)
root_of-concat (item ∷ []) some = absurd (omega arith)
root_of-concat (first ∷ second ∷ others) some = ap a_concat (how_many-in_a_row first second others)

root_of-alternation : (branches : List Tree) → 2 ≤ length branches → root_of (alternate branches) ≡ an_alternation (length branches)
root_of-alternation [] some = absurd (omega arith)
root_of-alternation (branch ∷ []) some = absurd (omega arith)
root_of-alternation (first ∷ second ∷ others) some = ap an_alternation (how_many-in_a_row first second others)

pub row_subtrees-cons : (tree : Tree) (trees : List Tree) → row_subtrees (tree ∷ trees) ≡ row_subtrees trees ++ subtrees_of tree
row_subtrees-cons tree trees =
    ap (flat_map subtrees_of) (reverse-append (tree ∷ []) trees) ∙ flat_map-append subtrees_of (reverse trees) (tree ∷ [])
    ∙ ap (λ x. row_subtrees trees ++ x) (append-nil (subtrees_of tree))

pub row_subtrees-split : (n : ℕ) (trees : List Tree) → row_subtrees (drop n trees) ++ row_subtrees (take n trees) ≡ row_subtrees trees
row_subtrees-split n trees =
    sym (flat_map-append subtrees_of (reverse (drop n trees)) (reverse (take n trees)))
    ∙ ap (flat_map subtrees_of) (sym (reverse-append (take n trees) (drop n trees)) ∙ ap reverse (take-append-drop n trees))

pub length-last : (n : ℕ) (trees : List Tree) → n ≤ length trees → length (reverse (take n trees)) ≡ n
length-last n trees fits = length-reverse (take n trees) ∙ length-take-le n trees fits

joined_subtrees : (tree : Tree) (n : ℕ) (trees : List Tree) → subtrees_of tree ≡ row_subtrees (take n trees) ++ tree ∷ [] → row_subtrees (tree ∷ drop n trees) ≡ row_subtrees trees ++ tree ∷ []
joined_subtrees tree n trees is =
    row_subtrees-cons tree (drop n trees) ∙ ap (λ x. row_subtrees (drop n trees) ++ x) is
    ∙ sym (append_assoc (row_subtrees (drop n trees)) (row_subtrees (take n trees)) (tree ∷ [])) ∙ ap (λ x. x ++ tree ∷ []) (row_subtrees-split n trees)

over_subtrees : (made tree : Tree) (trees : List Tree) → subtrees_of made ≡ subtrees_of tree ++ made ∷ [] → row_subtrees (made ∷ trees) ≡ row_subtrees (tree ∷ trees) ++ made ∷ []
over_subtrees made tree trees is =
    row_subtrees-cons made trees ∙ ap (λ x. row_subtrees trees ++ x) is ∙ sym (append_assoc (row_subtrees trees) (subtrees_of tree) (made ∷ []))
    ∙ ap (λ x. x ++ made ∷ []) (sym (row_subtrees-cons tree trees))

-- a node adds the tree that it makes to the parts
pub after_node-subtrees : (trees : List Tree) (node : NodeKind) → MayFollow trees node → row_subtrees (after_node trees node) ≡ row_subtrees trees ++ first_of (after_node trees node) ∷ []
after_node-subtrees trees an_empty may = row_subtrees-cons empty trees
after_node-subtrees trees (a_set ranges) may = row_subtrees-cons (one_of ranges) trees
after_node-subtrees trees (a_look look) may = row_subtrees-cons (look_at look) trees
after_node-subtrees [] (a_group number name) may = absurd (omega (arith, may.fits))
after_node-subtrees (tree ∷ trees) (a_group number name) may = over_subtrees (group number name tree) tree trees refl
after_node-subtrees trees (a_concat count) may =
    let items = reverse (take count trees) in
    let some : 2 ≤ length items = omega (arith, length-last count trees may.fits, may.over_two) in
    joined_subtrees (concat_of items) count trees (subtrees_of-concat items some)
after_node-subtrees trees (an_alternation count) may =
    let branches = reverse (take count trees) in
    let some : 2 ≤ length branches = omega (arith, length-last count trees may.fits, may.over_two) in
    joined_subtrees (alternate branches) count trees (subtrees_of-alternation branches some)
after_node-subtrees [] (a_repetition repetition) may = absurd (omega (arith, may.fits))
after_node-subtrees (tree ∷ trees) (a_repetition repetition) may = over_subtrees (repeated repetition tree) tree trees refl

-- and is that tree's node
after_node-root : (trees : List Tree) (node : NodeKind) → MayFollow trees node → root_of (first_of (after_node trees node)) ≡ node
after_node-root trees an_empty may = refl
after_node-root trees (a_set ranges) may = refl
after_node-root trees (a_look look) may = refl
after_node-root [] (a_group number name) may = refl
after_node-root (tree ∷ trees) (a_group number name) may = refl
after_node-root trees (a_concat count) may =
    let items = reverse (take count trees) in
    let some : 2 ≤ length items = omega (arith, length-last count trees may.fits, may.over_two) in
    root_of-concat items some ∙ ap a_concat (length-last count trees may.fits)
after_node-root trees (an_alternation count) may =
    let branches = reverse (take count trees) in
    let some : 2 ≤ length branches = omega (arith, length-last count trees may.fits, may.over_two) in
    root_of-alternation branches some ∙ ap an_alternation (length-last count trees may.fits)
after_node-root [] (a_repetition repetition) may = refl
after_node-root (tree ∷ trees) (a_repetition repetition) may = refl

after_node-length : (trees : List Tree) (node : NodeKind) → MayFollow trees node → length (after_node trees node) + child_count node ≡ length trees + 1
after_node-length trees an_empty may = omega arith
after_node-length trees (a_set ranges) may = omega arith
after_node-length trees (a_look look) may = omega arith
after_node-length [] (a_group number name) may = absurd (omega (arith, may.fits))
after_node-length (tree ∷ trees) (a_group number name) may = omega arith
after_node-length trees (a_concat count) may = omega (arith, length-drop count trees, may.fits)
after_node-length trees (an_alternation count) may = omega (arith, length-drop count trees, may.fits)
after_node-length [] (a_repetition repetition) may = absurd (omega (arith, may.fits))
after_node-length (tree ∷ trees) (a_repetition repetition) may = omega arith

-- a stack of trees with one node more
pub AreStacked-push : (nodes : List NodeKind) (node : NodeKind) (properties : List Properties) (own : Properties) (height height' : ℕ) → AreStacked nodes properties height → MayFollow (trees_of nodes) node
    → height' + child_count node ≡ height + 1 → own ≡ properties_of (first_of (after_node (trees_of nodes) node)) → AreStacked (nodes ++ node ∷ []) (properties ++ own ∷ []) height'
AreStacked-push nodes node properties own height height' stacked may counted known =
    let trees = trees_of nodes in
    let all = nodes ++ node ∷ [] in
    let pushed : trees_of all ≡ after_node trees node = trees_of-push nodes node in
    let made = first_of (after_node trees node) in
    record {
      counted = omega (arith, counted, stacked.counted, ap length pushed, after_node-length trees node may);
      exact = ap₂ (λ x y. x ++ y ∷ []) stacked.exact (sym (after_node-root trees node may))
          ∙ sym (map-append root_of (row_subtrees trees) (made ∷ [])) ∙ ap (map root_of) (sym (after_node-subtrees trees node may)) ∙ ap (λ x. map root_of (row_subtrees x)) (sym pushed);
      known = ap₂ (λ x y. x ++ y ∷ []) stacked.known known
          ∙ sym (map-append properties_of (row_subtrees trees) (made ∷ [])) ∙ ap (map properties_of) (sym (after_node-subtrees trees node may)) ∙ ap (λ x. map properties_of (row_subtrees x)) (sym pushed);
    }
