-- The trees that nodes make.
use Rattle.std.proofs.Common.{◌≡◌, ℕ, ◌+◌, ◌≤◌, Bool, List, [], ◌∷◌, ◌++◌, length, map, Some, None, refl, sym, ap, subst, ◌∙◌, arith, length-drop}
use Rattle.rx_grammar.specs.declared.hir.Node.{Node}
use Rattle.rx_grammar.specs.declared.hir.Node.TheVariants as node
use Rattle.rx_grammar.specs.declared.hir.Repetition.{Repetition}
use Rattle.rx_grammar.specs.Trees.{Tree, repeated}
use Rattle.rx_grammar.specs.Subtrees.{NodeKind, an_empty, a_set, a_look, a_group, a_concat, an_alternation, a_repetition}
use Rattle.rx_grammar.specs.Postorder.{after_node, after_nodes, trees_of}
use Rattle.rx_grammar.specs.Nodes.{kind_of}
use Rattle.rx_grammar.specs.Input.{Stops}
use Rattle.rx_grammar.specs.Repetitions.{Postfix, Postfixes, is_postfix_start}
use Rattle.rx_grammar.specs.Readers.{NoPostfix}
use Rattle.rx_grammar.specs.Repetitions as repetitions
use Rattle.rx_grammar.specs.Weights.{held}
use Rattle.rx_grammar.specs.Stacks.{PostfixesRead, NoPostfixes}
use Rattle.rx_grammar.proofs.RepetitionLaws.{postfix_unique, postfix_starts, postfixes_along}

after_nodes-append : (trees : List Tree) (xs ys : List NodeKind) → after_nodes trees (xs ++ ys) ≡ after_nodes (after_nodes trees xs) ys
after_nodes-append trees [] ys = refl
after_nodes-append trees (x ∷ xs) ys = after_nodes-append (after_node trees x) xs ys

pub trees_of-push : (nodes : List NodeKind) (node : NodeKind) → trees_of (nodes ++ node ∷ []) ≡ after_node (trees_of nodes) node
trees_of-push nodes node = after_nodes-append [] nodes (node ∷ [])

-- a node makes at most one tree more
length-after_node : (trees : List Tree) (node : NodeKind) → length (after_node trees node) ≤ length trees + 1
length-after_node trees an_empty = omega arith
length-after_node trees (a_set ranges) = omega arith
length-after_node trees (a_look look) = omega arith
length-after_node [] (a_group number name) = omega arith
length-after_node (tree ∷ trees) (a_group number name) = omega arith
length-after_node trees (a_concat count) = omega (arith, length-drop count trees)
length-after_node trees (an_alternation count) = omega (arith, length-drop count trees)
length-after_node [] (a_repetition repetition) = omega arith
length-after_node (tree ∷ trees) (a_repetition repetition) = omega arith

length-after_nodes : (trees : List Tree) (nodes : List NodeKind) → length (after_nodes trees nodes) ≤ length trees + length nodes
length-after_nodes trees [] = omega arith
length-after_nodes trees (node ∷ nodes) = omega (arith, length-after_nodes (after_node trees node) nodes, length-after_node trees node)

kinds_length : (nodes : List Node) → length (map kind_of nodes) ≡ length nodes
kinds_length [] = refl
kinds_length (x ∷ xs) = omega (arith, kinds_length xs)

pub length-trees_of : (nodes : List Node) → length (trees_of (map kind_of nodes)) ≤ length nodes
length-trees_of nodes = omega (arith, length-after_nodes [] (map kind_of nodes), kinds_length nodes)

-- postfixes that are read one by one
pub record PostfixesSoFar (swap : Bool) (tree : Tree) (depth : ℕ) (t : List ℕ) (trees below : List Tree) (deep : ℕ) (u : List ℕ) : Type 0 where
  pub made : Tree
  pub trees_are : trees ≡ made ∷ below
  pub on : (g : Tree) (e : ℕ) (w : List ℕ) → Postfixes swap made deep u g e w → Postfixes swap tree depth t g e w
  pub back : (g : Tree) (e : ℕ) (w : List ℕ) → Postfixes swap tree depth t g e w → Postfixes swap made deep u g e w

pub PostfixesSoFar-none : (swap : Bool) (tree : Tree) (depth : ℕ) (t : List ℕ) (trees below : List Tree) → trees ≡ tree ∷ below → PostfixesSoFar swap tree depth t trees below depth t
PostfixesSoFar-none swap tree depth t trees below e = record { made = tree; trees_are = e; on = λ g e w p. p; back = λ g e w p. p }

first_postfix : {swap : Bool} {h g : Tree} {d e : ℕ} {t u w : List ℕ} {r : Repetition} → Postfix swap t r u → Postfixes swap h d t g e w → Postfixes swap (repeated r h) (d + 1) u g e w
first_postfix one (repetitions.ended stops) = absurd (postfix_starts one stops)
first_postfix {h = h} one (repetitions.further one' others) =
    let same = postfix_unique one one' in postfixes_along (ap (λ r. repeated r h) same.0) refl same.1 others

pub PostfixesSoFar-more : {swap : Bool} {tree : Tree} {depth deep deeper : ℕ} {t u v : List ℕ} {trees trees' below : List Tree} {r : Repetition} → PostfixesSoFar swap tree depth t trees below deep u
    → Postfix swap u r v → deeper ≡ deep + 1 → trees' ≡ after_node trees (a_repetition r) → PostfixesSoFar swap tree depth t trees' below deeper v
PostfixesSoFar-more {swap = swap} {v = v} {r = r} so_far one is e = record {
  made = repeated r so_far.made;
  trees_are = e ∙ ap (λ x. after_node x (a_repetition r)) so_far.trees_are;
  on = λ g e w postfixes. so_far.on g e w (repetitions.further one (subst (λ x. Postfixes swap (repeated r so_far.made) x v g e w) is postfixes));
  back = λ g e w postfixes. subst (λ x. Postfixes swap (repeated r so_far.made) x v g e w) (sym is) (first_postfix one (so_far.back g e w postfixes));
}

pub PostfixesSoFar-end : {swap : Bool} {tree : Tree} {depth deep kept : ℕ} {t u : List ℕ} {trees below : List Tree} → PostfixesSoFar swap tree depth t trees below deep u
    → Stops is_postfix_start u → kept ≡ held deep → PostfixesRead swap tree depth t trees below kept u
PostfixesSoFar-end so_far stops is = record { made = so_far.made; deep = _; postfixes = so_far.on _ _ _ (repetitions.ended stops); trees_are = so_far.trees_are; kept_is = is }

-- if there is a postfix start but no postfix
pub PostfixesSoFar-none_here : {swap : Bool} {tree : Tree} {depth deep : ℕ} {t u : List ℕ} {trees below : List Tree} → PostfixesSoFar swap tree depth t trees below deep u
    → (Stops is_postfix_start u → ⊥) → NoPostfix swap u → NoPostfixes swap tree depth t
PostfixesSoFar-none_here {swap = swap} {u = u} so_far starts none = λ made deep w postfixes. no_more (so_far.back made deep w postfixes)
  where
    no_more : {h g : Tree} {d e : ℕ} {w : List ℕ} → Postfixes swap h d u g e w → ⊥
    no_more (repetitions.ended stops) = starts stops
    no_more (repetitions.further one others) = none _ _ one

-- nodes over one tree
abbrev pub IsOver : Node → Type 0
IsOver (node.Group number name) = Unit {0}
IsOver (node.Repeat repetition) = Unit {0}
IsOver _ = ⊥

pub over_one : (trees : List Tree) (over : Node) → IsOver over → 1 ≤ length trees → length (after_node trees (kind_of over)) ≡ length trees
over_one [] over is some = absurd (omega arith)
over_one (tree ∷ trees) node.Empty is some = absurd is
over_one (tree ∷ trees) (node.Set set) is some = absurd is
over_one (tree ∷ trees) (node.Look look) is some = absurd is
over_one (tree ∷ trees) (node.Group number None) is some = refl
over_one (tree ∷ trees) (node.Group number (Some name)) is some = refl
over_one (tree ∷ trees) (node.Concat count) is some = absurd is
over_one (tree ∷ trees) (node.Alternation count) is some = absurd is
over_one (tree ∷ trees) (node.Repeat repetition) is some = refl
