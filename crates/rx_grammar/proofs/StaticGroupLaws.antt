-- The number of groups in each match: of trees in a row, and never more than there are nodes.
use Rattle.std.proofs.Common.{◌≡◌, ℕ, zero, suc, ◌+◌, ◌≤◌, ◌<◌, ◌==◌, cond, Bool, true, false, List, [], ◌∷◌, ◌++◌, length, reverse, take, Option, Some, None, refl, sym, ap, subst, ◌∙◌, arith, length-append}
use Rattle.std.proofs.lemmas.List.{reverse-append}
use Rattle.std.specs.Option.{SomeIff}
use Rattle.rx_grammar.specs.declared.hir.Node.{Node}
use Rattle.rx_grammar.specs.declared.hir.Node.TheVariants as node
use Rattle.rx_grammar.specs.Nodes.{kind_of}
use Rattle.rx_grammar.specs.Trees.{Tree, Trees, Name, empty, one_of, look_at, group, concat, alternation, repeated, two, more, in_a_row, concat_of}
use Rattle.rx_grammar.specs.Subtrees.{NodeKind, a_group, a_concat, an_alternation, child_count, subtrees_of, all_subtrees_of}
use Rattle.rx_grammar.specs.StaticGroups.{both_groups, common_groups, repeated_groups, static_groups, all_static_groups, common_static_groups}
use Rattle.rx_grammar.specs.Postorder.{alternate, after_node, first_of}
use Rattle.rx_grammar.specs.declared.properties.RowProperties.{RowProperties}
use Rattle.rx_grammar.specs.Rows.{row_subtrees, MayFollow, static_groups_in, common_with, common_in, AreRowProperties}
use Rattle.rx_grammar.proofs.SubtreeLaws.{row_subtrees-cons}
use Rattle.rx_grammar.proofs.RowLaws.{some_last}

both-comm : (a b : Option ℕ) → both_groups a b ≡ both_groups b a
both-comm None None = refl
both-comm None (Some m) = refl
both-comm (Some n) None = refl
both-comm (Some n) (Some m) = ap Some (omega arith)

both-assoc : (a b c : Option ℕ) → both_groups a (both_groups b c) ≡ both_groups (both_groups a b) c
both-assoc None b c = refl
both-assoc (Some n) None c = refl
both-assoc (Some n) (Some m) None = refl
both-assoc (Some n) (Some m) (Some k) = ap Some (omega arith)

both-none : (a : Option ℕ) → both_groups (Some 0) a ≡ a
both-none None = refl
both-none (Some n) = ap Some (omega arith)

common-comm : (a b : Option ℕ) → common_groups a b ≡ common_groups b a
common-comm None None = refl
common-comm None (Some m) = refl
common-comm (Some n) None = refl
common-comm (Some n) (Some m) = grind arith

common-assoc : (a b c : Option ℕ) → common_groups a (common_groups b c) ≡ common_groups (common_groups a b) c
common-assoc None b c = refl
common-assoc (Some n) None c = refl
common-assoc (Some n) (Some m) None = grind arith
common-assoc (Some n) (Some m) (Some k) = grind arith

-- of a row
groups_in-append : (xs ys : List Tree) → static_groups_in (xs ++ ys) ≡ both_groups (static_groups_in xs) (static_groups_in ys)
groups_in-append [] ys = sym (both-none (static_groups_in ys))
groups_in-append (x ∷ xs) ys = ap (both_groups (static_groups x)) (groups_in-append xs ys) ∙ both-assoc (static_groups x) (static_groups_in xs) (static_groups_in ys)

pub groups_in-last : (xs : List Tree) (x : Tree) → static_groups_in (xs ++ x ∷ []) ≡ both_groups (static_groups_in xs) (static_groups x)
groups_in-last xs x = groups_in-append xs (x ∷ []) ∙ ap (both_groups (static_groups_in xs)) (both-comm (static_groups x) (Some 0) ∙ both-none (static_groups x))

groups_in-reverse : (xs : List Tree) → static_groups_in (reverse xs) ≡ static_groups_in xs
groups_in-reverse [] = refl
groups_in-reverse (x ∷ xs) =
    ap static_groups_in (reverse-append (x ∷ []) xs) ∙ groups_in-last (reverse xs) x
    ∙ ap (λ a. both_groups a (static_groups x)) (groups_in-reverse xs) ∙ both-comm (static_groups_in xs) (static_groups x)

pub common_in-last : (xs : List Tree) (x : Tree) → common_in (xs ++ x ∷ []) ≡ Some (common_with (static_groups x) (common_in xs))
common_in-last [] x = refl
common_in-last (y ∷ xs) x = ap (λ a. Some (common_with (static_groups y) a)) (common_in-last xs x) ∙ ap Some (inside (common_in xs))
  where
    inside : (a : Option (Option ℕ)) → common_groups (static_groups y) (common_with (static_groups x) a) ≡ common_groups (static_groups x) (common_with (static_groups y) a)
    inside None = common-comm (static_groups y) (static_groups x)
    inside (Some a) =
        common-assoc (static_groups y) (static_groups x) a ∙ ap (λ b. common_groups b a) (common-comm (static_groups y) (static_groups x))
        ∙ sym (common-assoc (static_groups x) (static_groups y) a)

common_in-reverse : (xs : List Tree) → common_in (reverse xs) ≡ common_in xs
common_in-reverse [] = refl
common_in-reverse (x ∷ xs) =
    ap common_in (reverse-append (x ∷ []) xs) ∙ common_in-last (reverse xs) x ∙ ap (λ a. Some (common_with (static_groups x) a)) (common_in-reverse xs)

-- what trees in a row become
all_groups : (first second : Tree) (others : List Tree) → all_static_groups (in_a_row first second others) ≡ static_groups_in (first ∷ second ∷ others)
all_groups first second [] = ap (both_groups (static_groups first)) (sym (both-none (static_groups second)) ∙ both-comm (Some 0) (static_groups second))
all_groups first second (third ∷ others) = ap (both_groups (static_groups first)) (all_groups second third others)

groups_of-concat : (items : List Tree) → 2 ≤ length items → static_groups (concat_of items) ≡ static_groups_in items
groups_of-concat [] some = absurd (omega arith)
groups_of-concat (item ∷ []) some = absurd (omega arith)
groups_of-concat (first ∷ second ∷ others) some = all_groups first second others

common_of : (first second : Tree) (others : List Tree) → Some (common_static_groups (in_a_row first second others)) ≡ common_in (first ∷ second ∷ others)
common_of first second [] = refl
common_of first second (third ∷ others) = ap (λ a. Some (common_with (static_groups first) a)) (common_of second third others)

common_of-alternation : (branches : List Tree) → 2 ≤ length branches → Some (static_groups (alternate branches)) ≡ common_in branches
common_of-alternation [] some = absurd (omega arith)
common_of-alternation (branch ∷ []) some = absurd (omega arith)
common_of-alternation (first ∷ second ∷ others) some = common_of first second others

-- fewer than there are nodes
abbrev Below : Option ℕ → ℕ → Type 0
Below None most = Unit {0}
Below (Some n) most = n < most

below : {a : Option ℕ} {n most : ℕ} → a ≡ Some n → Below a most → n < most
below {most = most} e less = subst (λ a. Below a most) e less

below-more : (a : Option ℕ) (k l : ℕ) → Below a k → k ≤ l → Below a l
below-more None k l less le = tt
below-more (Some n) k l less le = omega (arith, less, le)

both-below : (a b : Option ℕ) (k l most : ℕ) → Below a k → Below b l → k + l ≤ most + 1 → Below (both_groups a b) most
both-below None b k l most a_less b_less le = tt
both-below (Some n) None k l most a_less b_less le = tt
both-below (Some n) (Some m) k l most a_less b_less le = omega (arith, a_less, b_less, le)

common-below : (a b : Option ℕ) (k : ℕ) → Below a k → Below (common_groups a b) k
common-below None b k less = tt
common-below (Some n) None k less = tt
common-below (Some n) (Some m) k less = by_case (n == m)
  where
    by_case : (same : Bool) → Below (cond same (Some n) None) k
    by_case true = less
    by_case false = tt

repeated-below : (n : ℕ) (most a : Option ℕ) (k : ℕ) → Below a k → Below (repeated_groups n most a) (k + 1)
repeated-below n (Some zero) a k less = omega arith
repeated-below (suc n) None a k less = below-more a k (k + 1) less (omega arith)
repeated-below (suc n) (Some (suc m)) a k less = below-more a k (k + 1) less (omega arith)
repeated-below zero None None k less = tt
repeated-below zero None (Some zero) k less = omega arith
repeated-below zero None (Some (suc a)) k less = tt
repeated-below zero (Some (suc m)) None k less = tt
repeated-below zero (Some (suc m)) (Some zero) k less = omega arith
repeated-below zero (Some (suc m)) (Some (suc a)) k less = tt

both_parts : (a b : Option ℕ) (xs ys : List Tree) → Below a (length xs) → Below b (length ys) → Below (both_groups a b) (length (xs ++ ys))
both_parts a b xs ys a_less b_less = both-below a b (length xs) (length ys) (length (xs ++ ys)) a_less b_less (omega (arith, length-append xs ys))

common_parts : (a b : Option ℕ) (xs ys : List Tree) → Below a (length xs) → Below (common_groups a b) (length (xs ++ ys))
common_parts a b xs ys less = below-more (common_groups a b) (length xs) (length (xs ++ ys)) (common-below a b (length xs) less) (omega (arith, length-append xs ys))

with_own : (a : Option ℕ) (xs : List Tree) (x : Tree) → Below a (length xs) → Below a (length (xs ++ x ∷ []))
with_own a xs x less = below-more a (length xs) (length (xs ++ x ∷ [])) less (omega (arith, length-append xs (x ∷ [])))

mutual
  static_groups-below : (tree : Tree) → Below (static_groups tree) (length (subtrees_of tree))
  static_groups-below empty = omega arith
  static_groups-below (one_of ranges) = omega arith
  static_groups-below (look_at look) = omega arith
  static_groups-below (group number name tree) =
      let own = group number name tree in
      both-below (static_groups tree) (Some 1) (length (subtrees_of tree)) 2 (length (subtrees_of own)) (static_groups-below tree) (omega arith)
      (omega (arith, length-append (subtrees_of tree) (own ∷ [])))
  static_groups-below (concat trees) = with_own (all_static_groups trees) (all_subtrees_of trees) (concat trees) (all-below trees)
  static_groups-below (alternation trees) = with_own (common_static_groups trees) (all_subtrees_of trees) (alternation trees) (all_common-below trees)
  static_groups-below (repeated repetition tree) =
      let own = repeated repetition tree in
      let size = length (subtrees_of tree) in
      below-more (static_groups own) (size + 1) (length (subtrees_of own)) (repeated-below repetition.min repetition.max (static_groups tree) size (static_groups-below tree))
      (omega (arith, length-append (subtrees_of tree) (own ∷ [])))

  all-below : (trees : Trees) → Below (all_static_groups trees) (length (all_subtrees_of trees))
  all-below (two first second) = both_parts (static_groups first) (static_groups second) (subtrees_of first) (subtrees_of second) (static_groups-below first) (static_groups-below second)
  all-below (more first others) = both_parts (static_groups first) (all_static_groups others) (subtrees_of first) (all_subtrees_of others) (static_groups-below first) (all-below others)

  all_common-below : (trees : Trees) → Below (common_static_groups trees) (length (all_subtrees_of trees))
  all_common-below (two first second) = common_parts (static_groups first) (static_groups second) (subtrees_of first) (subtrees_of second) (static_groups-below first)
  all_common-below (more first others) =
      common_parts (static_groups first) (common_static_groups others) (subtrees_of first) (all_subtrees_of others) (static_groups-below first)

groups_in-below : (trees : List Tree) → Below (static_groups_in trees) (length (row_subtrees trees) + 1)
groups_in-below [] = omega arith
groups_in-below (tree ∷ trees) =
    both-below (static_groups tree) (static_groups_in trees) (length (subtrees_of tree)) (length (row_subtrees trees) + 1) (length (row_subtrees (tree ∷ trees)) + 1)
    (static_groups-below tree) (groups_in-below trees)
    (omega (arith, ap length (row_subtrees-cons tree trees), length-append (row_subtrees trees) (subtrees_of tree)))

pub static_groups-less : {n : ℕ} (tree : Tree) → static_groups tree ≡ Some n → n < length (subtrees_of tree)
static_groups-less tree is = below is (static_groups-below tree)

pub groups_in-le : {n : ℕ} (trees : List Tree) → static_groups_in trees ≡ Some n → n ≤ length (row_subtrees trees)
groups_in-le trees is = omega (arith, below is (groups_in-below trees))

-- of the last trees, which become one
pub concat-groups : {row : RowProperties} {node : NodeKind} (trees : List Tree) (count : ℕ) → node ≡ a_concat count → MayFollow trees node → AreRowProperties row (take (child_count node) trees)
    → row.groups ≡ static_groups (first_of (after_node trees node))
concat-groups {row = row} trees count e =
    subst (λ n. MayFollow trees n → AreRowProperties row (take (child_count n) trees) → row.groups ≡ static_groups (first_of (after_node trees n))) (sym e) (λ may is.
    let last = take count trees in
    is.groups ∙ sym (groups_in-reverse last) ∙ sym (groups_of-concat (reverse last) (some_last count trees may.fits may.over_two)))

pub alternation-groups : {row : RowProperties} {node : NodeKind} (trees : List Tree) (count : ℕ) → node ≡ an_alternation count → MayFollow trees node → AreRowProperties row (take (child_count node) trees)
    → row.common_groups ≡ Some (static_groups (first_of (after_node trees node)))
alternation-groups {row = row} trees count e =
    subst (λ n. MayFollow trees n → AreRowProperties row (take (child_count n) trees) → row.common_groups ≡ Some (static_groups (first_of (after_node trees n)))) (sym e) (λ may is.
    let last = take count trees in
    is.common ∙ sym (common_in-reverse last) ∙ sym (common_of-alternation (reverse last) (some_last count trees may.fits may.over_two)))

-- of the last tree, which becomes a group
group_of_last : {row : RowProperties} {number : ℕ} {name : Option Name} (trees : List Tree) → MayFollow trees (a_group number name) → AreRowProperties row (take 1 trees)
    → both_groups row.groups (Some 1) ≡ static_groups (first_of (after_node trees (a_group number name)))
group_of_last [] may is = absurd (omega (arith, may.fits))
group_of_last (tree ∷ trees) may is =
    ap (λ a. both_groups a (Some 1)) (is.groups ∙ both-comm (static_groups tree) (Some 0) ∙ both-none (static_groups tree))

abbrev pub IsGroup : Node → Type 0
IsGroup (node.Group number name) = Unit {0}
IsGroup _ = ⊥

pub group-groups : {row : RowProperties} (trees : List Tree) (own : Node) → IsGroup own → MayFollow trees (kind_of own) → AreRowProperties row (take (child_count (kind_of own)) trees)
    → both_groups row.groups (Some 1) ≡ static_groups (first_of (after_node trees (kind_of own)))
group-groups trees node.Empty one may is = absurd one
group-groups trees (node.Set set) one may is = absurd one
group-groups trees (node.Look look) one may is = absurd one
group-groups trees (node.Group number None) one may is = group_of_last trees may is
group-groups trees (node.Group number (Some name)) one may is = group_of_last trees may is
group-groups trees (node.Concat count) one may is = absurd one
group-groups trees (node.Alternation count) one may is = absurd one
group-groups trees (node.Repeat repetition) one may is = absurd one

-- a sum that fits is returned
pub told_some : (sum : Option ℕ) (Fits : Type 0) (value : ℕ) → SomeIff sum Fits value → Fits → sum ≡ Some value
told_some None Fits value not fits = absurd (not fits)
told_some (Some n) Fits value told fits = ap Some told.1
