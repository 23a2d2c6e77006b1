-- The numbers of the groups of a tree, and how many groups there are among its nodes.
use Rattle.std.proofs.Common.{◌≡◌, ℕ, zero, suc, Bool, ◌+◌, ◌<◌, List, [], ◌∷◌, ◌++◌, length, get_or, take, drop, map, reverse, append-nil, length-append, refl, sym, ap, subst, ◌∙◌, arith}
use Rattle.std.specs.List.{flat_map}
use Rattle.std.proofs.lemmas.List.{reverse-append, take-append-drop, map_more}
use Rattle.rx_grammar.specs.declared.hir.Node.{Node}
use Rattle.rx_grammar.specs.Settings.{Settings}
use Rattle.rx_grammar.specs.Trees.{Tree, in_a_row, concat_of, alternation_of, numbers_of, all_numbers_of}
use Rattle.rx_grammar.specs.Subtrees.{NodeKind, an_empty, a_set, a_look, a_group, a_concat, an_alternation, a_repetition}
use Rattle.rx_grammar.specs.Postorder.{alternate, after_node, after_nodes, trees_of}
use Rattle.rx_grammar.specs.Rows.{own_groups}
use Rattle.rx_grammar.specs.Nodes.{kind_of}
use Rattle.rx_grammar.specs.Repetitions.{Postfixes, ended as no_more, further}
use Rattle.rx_grammar.specs.Groups.{numbered, unnumbered}
use Rattle.rx_grammar.specs.Grammar.{Escape, character, letter_class, look, PlainAtom, literal, dot, caret, dollar, escape, class, Atom, plain_atom, group, Items, ended, setting, item, Branches, last, bar, Spells}

all_numbers : (first second : Tree) (others : List Tree) → all_numbers_of (in_a_row first second others) ≡ flat_map numbers_of (first ∷ second ∷ others)
all_numbers first second [] = ap (λ x. numbers_of first ++ x) (sym (append-nil (numbers_of second)))
all_numbers first second (third ∷ others) = ap (λ x. numbers_of first ++ x) (all_numbers second third others)

pub numbers_of-concat : (items : List Tree) → numbers_of (concat_of items) ≡ flat_map numbers_of items
numbers_of-concat [] = refl
numbers_of-concat (only ∷ []) = sym (append-nil (numbers_of only))
numbers_of-concat (first ∷ second ∷ others) = all_numbers first second others

pub numbers_of-alternation : (first : Tree) (others : List Tree) → numbers_of (alternation_of first others) ≡ flat_map numbers_of (first ∷ others)
numbers_of-alternation branch [] = sym (append-nil (numbers_of branch))
numbers_of-alternation first (second ∷ others) = all_numbers first second others

numbers_of-branches : (branches : List Tree) → numbers_of (alternate branches) ≡ flat_map numbers_of branches
numbers_of-branches [] = refl
numbers_of-branches (first ∷ others) = numbers_of-alternation first others

-- how many groups trees in a row have
abbrev groups_of : List Tree → ℕ
groups_of [] = 0
groups_of (tree ∷ trees) = length (numbers_of tree) + groups_of trees

groups_of-append : (xs ys : List Tree) → groups_of (xs ++ ys) ≡ groups_of xs + groups_of ys
groups_of-append [] ys = omega arith
groups_of-append (x ∷ xs) ys = omega (arith, groups_of-append xs ys)

groups_of-reverse : (xs : List Tree) → groups_of (reverse xs) ≡ groups_of xs
groups_of-reverse [] = refl
groups_of-reverse (x ∷ xs) =
    let e : groups_of (reverse (x ∷ xs)) ≡ groups_of (reverse xs) + groups_of (x ∷ []) =
    ap groups_of (reverse-append (x ∷ []) xs) ∙ groups_of-append (reverse xs) (x ∷ []) in
    omega (arith, e, groups_of-reverse xs)

length-numbers : (xs : List Tree) → length (flat_map numbers_of xs) ≡ groups_of xs
length-numbers [] = refl
length-numbers (x ∷ xs) = length-append (numbers_of x) (flat_map numbers_of xs) ∙ ap (λ n. length (numbers_of x) + n) (length-numbers xs)

-- a tree of the last trees has their groups
joined_groups : (tree : Tree) (n : ℕ) (trees : List Tree) → numbers_of tree ≡ flat_map numbers_of (reverse (take n trees)) → groups_of (tree ∷ drop n trees) ≡ groups_of trees
joined_groups tree n trees is =
    let made : length (numbers_of tree) ≡ groups_of (take n trees) =
    ap length is ∙ length-numbers (reverse (take n trees)) ∙ groups_of-reverse (take n trees) in
    let split : groups_of (take n trees) + groups_of (drop n trees) ≡ groups_of trees =
    sym (groups_of-append (take n trees) (drop n trees)) ∙ ap groups_of (take-append-drop n trees) in
    omega (arith, made, split)

abbrev pub groups_in : List NodeKind → ℕ
groups_in [] = 0
groups_in (node ∷ nodes) = own_groups node + groups_in nodes

after_node-groups : (trees : List Tree) (node : NodeKind) → groups_of (after_node trees node) ≡ groups_of trees + own_groups node
after_node-groups trees an_empty = omega arith
after_node-groups trees (a_set ranges) = omega arith
after_node-groups trees (a_look asked) = omega arith
after_node-groups [] (a_group number name) = refl
after_node-groups (tree ∷ trees) (a_group number name) = omega arith
after_node-groups trees (a_concat count) =
    let e = joined_groups (concat_of (reverse (take count trees))) count trees (numbers_of-concat (reverse (take count trees))) in omega (arith, e)
after_node-groups trees (an_alternation count) =
    let e = joined_groups (alternate (reverse (take count trees))) count trees (numbers_of-branches (reverse (take count trees))) in omega (arith, e)
after_node-groups [] (a_repetition repetition) = refl
after_node-groups (tree ∷ trees) (a_repetition repetition) = omega arith

after_nodes-groups : (trees : List Tree) (nodes : List NodeKind) → groups_of (after_nodes trees nodes) ≡ groups_of trees + groups_in nodes
after_nodes-groups trees [] = omega arith
after_nodes-groups trees (node ∷ nodes) = omega (arith, after_nodes-groups (after_node trees node) nodes, after_node-groups trees node)

-- the nodes of one tree are as many groups as it has
pub groups_in-tree : {tree : Tree} (nodes : List NodeKind) → trees_of nodes ≡ tree ∷ [] → groups_in nodes ≡ length (numbers_of tree)
groups_in-tree {tree = tree} nodes one =
    let all : groups_of (trees_of nodes) ≡ 0 + groups_in nodes = after_nodes-groups [] nodes in
    let here : groups_of (trees_of nodes) ≡ length (numbers_of tree) + 0 = ap groups_of one in
    omega (arith, all, here)

groups_in-append : (xs ys : List NodeKind) → groups_in (xs ++ ys) ≡ groups_in xs + groups_in ys
groups_in-append [] ys = omega arith
groups_in-append (x ∷ xs) ys = omega (arith, groups_in-append xs ys)

-- one more node
pub groups_in-more : (nodes : List Node) (i : ℕ) (node : Node) → i < length nodes → node ≡ get_or nodes i node
    → groups_in (map kind_of (take (i + 1) nodes)) ≡ groups_in (map kind_of (take i nodes)) + own_groups (kind_of node)
groups_in-more nodes i node lt is =
    let e : groups_in (map kind_of (take (i + 1) nodes)) ≡ groups_in (map kind_of (take i nodes)) + groups_in (kind_of (get_or nodes i node) ∷ []) =
    ap groups_in (map_more kind_of nodes i node lt) ∙ groups_in-append (map kind_of (take i nodes)) (kind_of (get_or nodes i node) ∷ []) in
    let same : own_groups (kind_of node) ≡ own_groups (kind_of (get_or nodes i node)) = ap (λ x. own_groups (kind_of x)) is in
    omega (arith, e, same)

-- the numbers from m + 1 to n, in order
abbrev Run : ℕ → List ℕ → ℕ → Type 0
Run m [] n = m ≡ n
Run m (x ∷ xs) n = (x ≡ m + 1) × Run (m + 1) xs n

Run-append : (m k n : ℕ) (xs ys : List ℕ) → Run m xs k → Run k ys n → Run m (xs ++ ys) n
Run-append m k n [] ys r r' = subst (λ x. Run x ys n) (sym r) r'
Run-append m k n (x ∷ xs) ys r r' = (r.0, Run-append (m + 1) k n xs ys r.1 r')

Run-at : (m n : ℕ) (xs : List ℕ) → Run m xs n → (k : ℕ) → k < length xs → get_or xs k 0 ≡ m + (k + 1)
Run-at m n [] r k below = absurd (omega arith)
Run-at m n (x ∷ xs) r zero below = r.0
Run-at m n (x ∷ xs) r (suc k) below = let rest = Run-at (m + 1) n xs r.1 k (omega arith) in omega (arith, rest)

Run-along : (m n : ℕ) {xs ys : List ℕ} → xs ≡ ys → Run m ys n → Run m xs n
Run-along m n e r = subst (λ l. Run m l n) (sym e) r

escape_numbers : {s : Settings} {t u : List ℕ} {h : Tree} → Escape s t h u → numbers_of h ≡ []
escape_numbers (character one is) = refl
escape_numbers (letter_class kind negated e is) = refl
escape_numbers (look letter e f) = refl

pub plain_numbers : {s : Settings} {t u : List ℕ} {h : Tree} → PlainAtom s t h u → numbers_of h ≡ []
plain_numbers (literal e is_one is) = refl
plain_numbers (dot e allowed is) = refl
plain_numbers (caret e) = refl
plain_numbers (dollar e) = refl
plain_numbers (escape e one) = escape_numbers one
plain_numbers (class e one is) = refl

pub postfixes_numbers : {swap : Bool} {h g : Tree} {d e : ℕ} {t u : List ℕ} → Postfixes swap h d t g e u → numbers_of g ≡ numbers_of h
postfixes_numbers (no_more stops) = refl
postfixes_numbers (further one others) = postfixes_numbers others

mutual
  atom_run : {s : Settings} {m n d : ℕ} {t u : List ℕ} {h : Tree} → Atom s m t h d n u → Run m (numbers_of h) n
  atom_run {m = m} (plain_atom one) = Run-along m m (plain_numbers one) refl
  atom_run {m = m} {n = n} (group {h = h} {hs = hs} {k = numbered name} opening inside close) =
      (refl, Run-along (m + 1) n (numbers_of-alternation h hs) (branches_run inside))
  atom_run {m = m} {n = n} (group {h = h} {hs = hs} {k = unnumbered} opening inside close) =
      Run-along m n (numbers_of-alternation h hs) (branches_run inside)

  items_run : {s z : Settings} {m n d : ℕ} {t u : List ℕ} {hs : List Tree} → Items s m t hs d z n u → Run m (flat_map numbers_of hs) n
  items_run (ended stops) = refl
  items_run (setting one others) = items_run others
  items_run {m = m} {n = n} (item {k = k} {g = g} {hs = hs} one postfixes others) =
      Run-append m k n (numbers_of g) (flat_map numbers_of hs) (Run-along m k (postfixes_numbers postfixes) (atom_run one)) (items_run others)

  branches_run : {s z : Settings} {m n d : ℕ} {t u : List ℕ} {h : Tree} {hs : List Tree} → Branches s m t h hs d z n u → Run m (flat_map numbers_of (h ∷ hs)) n
  branches_run {m = m} {n = n} (last {hs = hs} items stops) =
      Run-along m n (append-nil (numbers_of (concat_of hs)) ∙ numbers_of-concat hs) (items_run items)
  branches_run {m = m} {n = n} (bar {k = k} {g = g} {hs = hs} {gs = gs} items e others) =
      Run-append m k n (numbers_of (concat_of hs)) (flat_map numbers_of (g ∷ gs)) (Run-along m k (numbers_of-concat hs) (items_run items)) (branches_run others)

-- the groups of what a text spells are numbered in order
pub numbered_in_order : (text : List ℕ) (settings : Settings) (tree : Tree) → Spells text settings tree → (k : ℕ) → k < length (numbers_of tree) → get_or (numbers_of tree) k 0 ≡ k + 1
numbered_in_order text settings tree spells k below =
    let is : numbers_of tree ≡ flat_map numbers_of (spells.first ∷ spells.others) = ap numbers_of spells.tree_is ∙ numbers_of-alternation spells.first spells.others in
    let at : get_or (numbers_of tree) k 0 ≡ 0 + (k + 1) = Run-at 0 spells.groups (numbers_of tree) (Run-along 0 spells.groups is (branches_run spells.whole)) k below in
    omega (arith, at)
