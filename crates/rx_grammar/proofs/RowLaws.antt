-- Properties of trees in a row, and of the tree that they become.
use Rattle.std.proofs.Common.{◌≡◌, ℕ, suc, ◌+◌, ◌-◌, ◌≤◌, ◌<◌, ◌^◌, min, Bool, true, false, ◌&&◌, ◌||◌, List, [], ◌∷◌, ◌++◌, length, get_or, take, drop, map, reverse, append_assoc, refl, sym, ap, ap₂, subst, ◌∙◌, arith, length-append, Option}
use Rattle.std.specs.List.{flat_map}
use Rattle.std.proofs.lemmas.List.{reverse-append, map-append, take_more, length-map, get_or-append-add, get_or_append_left}
use Rattle.std.proofs.Math.Seq.{drop-cons}
use Rattle.std.proofs.Math.Bool.{and_comm, or_comm, and_assoc, or_assoc}
use Rattle.rx_grammar.specs.declared.properties.Properties.{Properties}
use Rattle.rx_grammar.specs.declared.properties.RowProperties.{RowProperties}
use Rattle.rx_grammar.specs.Trees.{Tree, Name, empty, one_of, look_at, group, concat, alternation, repeated, in_a_row, concat_of}
use Rattle.rx_grammar.specs.Subtrees.{NodeKind, an_empty, a_set, a_look, a_group, a_concat, an_alternation, a_repetition, child_count, subtrees_of, all_subtrees_of}
use Rattle.rx_grammar.specs.Weights.{may_be_empty, all_may_be_empty, any_may_be_empty, weight_of, all_weights_of, size_of, all_sizes_of, pattern_weight, held}
use Rattle.rx_grammar.specs.StaticGroups.{static_groups}
use Rattle.rx_grammar.specs.Postorder.{alternate, after_node, first_of}
use Rattle.rx_grammar.specs.Nodes.{properties_of}
use Rattle.rx_grammar.specs.Rows.{row_subtrees, MayFollow, weights_in, sizes_in, all_empty_in, any_empty_in, static_groups_in, common_in, AreRowProperties}
use Rattle.rx_grammar.proofs.SubtreeLaws.{row_subtrees-cons, row_subtrees-split, length-last, subtrees_of-concat, subtrees_of-alternation}

pub held-sum : (a b : ℕ) → min (held a + held b) (2 ^ 64 - 1) ≡ held (a + b)
held-sum a b = grind arith

-- sums over a row
weights_in-append : (xs ys : List Tree) → weights_in (xs ++ ys) ≡ weights_in xs + weights_in ys
weights_in-append [] ys = omega arith
weights_in-append (x ∷ xs) ys = omega (arith, weights_in-append xs ys)

sizes_in-append : (xs ys : List Tree) → sizes_in (xs ++ ys) ≡ sizes_in xs + sizes_in ys
sizes_in-append [] ys = omega arith
sizes_in-append (x ∷ xs) ys = omega (arith, sizes_in-append xs ys)

all_empty_in-append : (xs ys : List Tree) → all_empty_in (xs ++ ys) ≡ (all_empty_in xs && all_empty_in ys)
all_empty_in-append [] ys = refl
all_empty_in-append (x ∷ xs) ys = ap (λ b. may_be_empty x && b) (all_empty_in-append xs ys) ∙ sym (and_assoc (may_be_empty x) (all_empty_in xs) (all_empty_in ys))

any_empty_in-append : (xs ys : List Tree) → any_empty_in (xs ++ ys) ≡ (any_empty_in xs || any_empty_in ys)
any_empty_in-append [] ys = refl
any_empty_in-append (x ∷ xs) ys = ap (λ b. may_be_empty x || b) (any_empty_in-append xs ys) ∙ sym (or_assoc (may_be_empty x) (any_empty_in xs) (any_empty_in ys))

weights_in-reverse : (xs : List Tree) → weights_in (reverse xs) ≡ weights_in xs
weights_in-reverse [] = refl
weights_in-reverse (x ∷ xs) =
    let e = ap weights_in (reverse-append (x ∷ []) xs) ∙ weights_in-append (reverse xs) (x ∷ []) in
    omega (arith, e, weights_in-reverse xs)

sizes_in-reverse : (xs : List Tree) → sizes_in (reverse xs) ≡ sizes_in xs
sizes_in-reverse [] = refl
sizes_in-reverse (x ∷ xs) =
    let e = ap sizes_in (reverse-append (x ∷ []) xs) ∙ sizes_in-append (reverse xs) (x ∷ []) in
    omega (arith, e, sizes_in-reverse xs)

and_true : (b : Bool) → (b && true) ≡ b
and_true true = refl
and_true false = refl

or_false : (b : Bool) → (b || false) ≡ b
or_false true = refl
or_false false = refl

all_empty_in-reverse : (xs : List Tree) → all_empty_in (reverse xs) ≡ all_empty_in xs
all_empty_in-reverse [] = refl
all_empty_in-reverse (x ∷ xs) =
    ap all_empty_in (reverse-append (x ∷ []) xs) ∙ all_empty_in-append (reverse xs) (x ∷ [])
    ∙ ap₂ (λ a b. a && b) (all_empty_in-reverse xs) (and_true (may_be_empty x)) ∙ and_comm (all_empty_in xs) (may_be_empty x)

any_empty_in-reverse : (xs : List Tree) → any_empty_in (reverse xs) ≡ any_empty_in xs
any_empty_in-reverse [] = refl
any_empty_in-reverse (x ∷ xs) =
    ap any_empty_in (reverse-append (x ∷ []) xs) ∙ any_empty_in-append (reverse xs) (x ∷ [])
    ∙ ap₂ (λ a b. a || b) (any_empty_in-reverse xs) (or_false (may_be_empty x)) ∙ or_comm (any_empty_in xs) (may_be_empty x)

-- a row with one tree more
pub IsRowOf-more : {row row' : RowProperties} {part : Properties} {trees : List Tree} (tree : Tree) → AreRowProperties row trees → part ≡ properties_of tree
    → row'.extent ≡ row.extent + part.extent → row'.weight ≡ min (row.weight + part.weight) (2 ^ 64 - 1)
    → row'.size ≡ min (row.size + part.size) (2 ^ 64 - 1)
    → row'.all_may_be_empty ≡ (row.all_may_be_empty && part.may_be_empty) → row'.any_may_be_empty ≡ (row.any_may_be_empty || part.may_be_empty)
    → row'.groups ≡ static_groups_in (trees ++ tree ∷ []) → row'.common_groups ≡ common_in (trees ++ tree ∷ [])
    → AreRowProperties row' (trees ++ tree ∷ [])
IsRowOf-more {row = row} {row' = row'} {part = part} {trees = trees} tree is known extent weight size all any groups common = record {
  extent =
      let turned : row_subtrees (trees ++ tree ∷ []) ≡ subtrees_of tree ++ row_subtrees trees = ap (flat_map subtrees_of) (reverse-append trees (tree ∷ [])) in
      let sum = ap length turned ∙ length-append (subtrees_of tree) (row_subtrees trees) in
      let own = ap (λ (p : Properties). p.extent) known in
      omega (arith, extent, sum, own, is.extent);
  weight = weight ∙ ap₂ (λ a b. min (a + b) (2 ^ 64 - 1)) is.weight (ap (λ (p : Properties). p.weight) known) ∙ held-sum (weights_in trees) (weight_of tree)
      ∙ ap held (omega (arith, weights_in-append trees (tree ∷ [])));
  size = size ∙ ap₂ (λ a b. min (a + b) (2 ^ 64 - 1)) is.size (ap (λ (p : Properties). p.size) known) ∙ held-sum (sizes_in trees) (size_of tree)
      ∙ ap held (omega (arith, sizes_in-append trees (tree ∷ [])));
  all = all ∙ ap₂ (λ a b. a && b) is.all (ap (λ (p : Properties). p.may_be_empty) known ∙ sym (and_true (may_be_empty tree))) ∙ sym (all_empty_in-append trees (tree ∷ []));
  any = any ∙ ap₂ (λ a b. a || b) is.any (ap (λ (p : Properties). p.may_be_empty) known ∙ sym (or_false (may_be_empty tree))) ∙ sym (any_empty_in-append trees (tree ∷ []));
  groups = groups;
  common = common;
}

-- what trees in a row become
all_weights : (first second : Tree) (others : List Tree) → all_weights_of (in_a_row first second others) ≡ weights_in (first ∷ second ∷ others)
all_weights first second [] = omega arith
all_weights first second (third ∷ others) = ap (λ n. weight_of first + n) (all_weights second third others)

all_sizes : (first second : Tree) (others : List Tree) → all_sizes_of (in_a_row first second others) ≡ sizes_in (first ∷ second ∷ others)
all_sizes first second [] = omega arith
all_sizes first second (third ∷ others) = ap (λ n. size_of first + n) (all_sizes second third others)

all_empty : (first second : Tree) (others : List Tree) → all_may_be_empty (in_a_row first second others) ≡ all_empty_in (first ∷ second ∷ others)
all_empty first second [] = ap (λ b. may_be_empty first && b) (sym (and_true (may_be_empty second)))
all_empty first second (third ∷ others) = ap (λ b. may_be_empty first && b) (all_empty second third others)

any_empty : (first second : Tree) (others : List Tree) → any_may_be_empty (in_a_row first second others) ≡ any_empty_in (first ∷ second ∷ others)
any_empty first second [] = ap (λ b. may_be_empty first || b) (sym (or_false (may_be_empty second)))
any_empty first second (third ∷ others) = ap (λ b. may_be_empty first || b) (any_empty second third others)

weight_of-concat : (items : List Tree) → 2 ≤ length items → weight_of (concat_of items) ≡ weights_in items
weight_of-concat [] some = absurd (omega arith)
weight_of-concat (item ∷ []) some = absurd (omega arith)
weight_of-concat (first ∷ second ∷ others) some = all_weights first second others

weight_of-alternation : (branches : List Tree) → 2 ≤ length branches → weight_of (alternate branches) ≡ 1 + weights_in branches
weight_of-alternation [] some = absurd (omega arith)
weight_of-alternation (branch ∷ []) some = absurd (omega arith)
weight_of-alternation (first ∷ second ∷ others) some = ap (λ n. 1 + n) (all_weights first second others)

size_of-concat : (items : List Tree) → 2 ≤ length items → size_of (concat_of items) ≡ sizes_in items
size_of-concat [] some = absurd (omega arith)
size_of-concat (item ∷ []) some = absurd (omega arith)
size_of-concat (first ∷ second ∷ others) some = all_sizes first second others

size_of-alternation : (branches : List Tree) → 2 ≤ length branches → size_of (alternate branches) ≡ 1 + sizes_in branches
size_of-alternation [] some = absurd (omega arith)
size_of-alternation (branch ∷ []) some = absurd (omega arith)
size_of-alternation (first ∷ second ∷ others) some = ap (λ n. 1 + n) (all_sizes first second others)

may_be_empty-concat : (items : List Tree) → 2 ≤ length items → may_be_empty (concat_of items) ≡ all_empty_in items
may_be_empty-concat [] some = absurd (omega arith)
may_be_empty-concat (item ∷ []) some = absurd (omega arith)
may_be_empty-concat (first ∷ second ∷ others) some = all_empty first second others

may_be_empty-alternation : (branches : List Tree) → 2 ≤ length branches → may_be_empty (alternate branches) ≡ any_empty_in branches
may_be_empty-alternation [] some = absurd (omega arith)
may_be_empty-alternation (branch ∷ []) some = absurd (omega arith)
may_be_empty-alternation (first ∷ second ∷ others) some = any_empty first second others

pub some_last : (count : ℕ) (trees : List Tree) → count ≤ length trees → 2 ≤ count → 2 ≤ length (reverse (take count trees))
some_last count trees fits two = omega (arith, length-last count trees fits)

pub concat-weight : {row : RowProperties} (trees : List Tree) (count : ℕ) → MayFollow trees (a_concat count) → AreRowProperties row (take count trees)
    → row.weight ≡ held (weight_of (first_of (after_node trees (a_concat count))))
concat-weight trees count may is =
    let last = take count trees in
    is.weight ∙ ap held (sym (weights_in-reverse last) ∙ sym (weight_of-concat (reverse last) (some_last count trees may.fits may.over_two)))

pub concat-size : {row : RowProperties} (trees : List Tree) (count : ℕ) → MayFollow trees (a_concat count) → AreRowProperties row (take count trees)
    → row.size ≡ held (size_of (first_of (after_node trees (a_concat count))))
concat-size trees count may is =
    let last = take count trees in
    is.size ∙ ap held (sym (sizes_in-reverse last) ∙ sym (size_of-concat (reverse last) (some_last count trees may.fits may.over_two)))

pub concat-empty : {row : RowProperties} (trees : List Tree) (count : ℕ) → MayFollow trees (a_concat count) → AreRowProperties row (take count trees)
    → row.all_may_be_empty ≡ may_be_empty (first_of (after_node trees (a_concat count)))
concat-empty trees count may is =
    let last = take count trees in
    is.all ∙ sym (all_empty_in-reverse last) ∙ sym (may_be_empty-concat (reverse last) (some_last count trees may.fits may.over_two))

pub alternation-weight : {row : RowProperties} (trees : List Tree) (count : ℕ) → MayFollow trees (an_alternation count) → AreRowProperties row (take count trees)
    → min (row.weight + 1) (2 ^ 64 - 1) ≡ held (weight_of (first_of (after_node trees (an_alternation count))))
alternation-weight trees count may is =
    let last = take count trees in
    ap (λ n. min (n + 1) (2 ^ 64 - 1)) is.weight ∙ more (weights_in last)
    ∙ ap held (ap (λ n. 1 + n) (sym (weights_in-reverse last)) ∙ sym (weight_of-alternation (reverse last) (some_last count trees may.fits may.over_two)))
  where
    more : (w : ℕ) → min (held w + 1) (2 ^ 64 - 1) ≡ held (1 + w)
    more w = grind arith

pub alternation-size : {row : RowProperties} (trees : List Tree) (count : ℕ) → MayFollow trees (an_alternation count) → AreRowProperties row (take count trees)
    → min (row.size + 1) (2 ^ 64 - 1) ≡ held (size_of (first_of (after_node trees (an_alternation count))))
alternation-size trees count may is =
    let last = take count trees in
    ap (λ n. min (n + 1) (2 ^ 64 - 1)) is.size ∙ more (sizes_in last)
    ∙ ap held (ap (λ n. 1 + n) (sym (sizes_in-reverse last)) ∙ sym (size_of-alternation (reverse last) (some_last count trees may.fits may.over_two)))
  where
    more : (w : ℕ) → min (held w + 1) (2 ^ 64 - 1) ≡ held (1 + w)
    more w = grind arith

pub alternation-empty : {row : RowProperties} (trees : List Tree) (count : ℕ) → MayFollow trees (an_alternation count) → AreRowProperties row (take count trees)
    → row.any_may_be_empty ≡ may_be_empty (first_of (after_node trees (an_alternation count)))
alternation-empty trees count may is =
    let last = take count trees in
    is.any ∙ sym (any_empty_in-reverse last) ∙ sym (may_be_empty-alternation (reverse last) (some_last count trees may.fits may.over_two))

-- how many nodes the tree has that a node makes of the last trees
pub made-extent : (trees : List Tree) (node : NodeKind) → MayFollow trees node
    → length (subtrees_of (first_of (after_node trees node))) ≡ length (row_subtrees (take (child_count node) trees)) + 1
made-extent trees an_empty may = refl
made-extent trees (a_set ranges) may = refl
made-extent trees (a_look look) may = refl
made-extent [] (a_group number name) may = absurd (omega (arith, may.fits))
made-extent (tree ∷ trees) (a_group number name) may = over_one number name tree
  where
    over_one : (number : ℕ) (name : Option Name) (tree : Tree) → length (subtrees_of tree ++ group number name tree ∷ []) ≡ length (subtrees_of tree ++ []) + 1
    over_one number name tree = omega (arith, length-append (subtrees_of tree) (group number name tree ∷ []), length-append (subtrees_of tree) [])
made-extent trees (a_concat count) may =
    let items = reverse (take count trees) in
    let parts = ap length (subtrees_of-concat items (some_last count trees may.fits may.over_two)) in
    omega (arith, parts, length-append (flat_map subtrees_of items) (concat_of items ∷ []))
made-extent trees (an_alternation count) may =
    let branches = reverse (take count trees) in
    let parts = ap length (subtrees_of-alternation branches (some_last count trees may.fits may.over_two)) in
    omega (arith, parts, length-append (flat_map subtrees_of branches) (alternate branches ∷ []))
made-extent [] (a_repetition repetition) may = absurd (omega (arith, may.fits))
made-extent (tree ∷ trees) (a_repetition repetition) may =
    omega (arith, length-append (subtrees_of tree) (repeated repetition tree ∷ []), length-append (subtrees_of tree) [])

-- the same of a node that is one of these
pub concat-weight-at : {row : RowProperties} {node : NodeKind} (trees : List Tree) (count : ℕ) → node ≡ a_concat count → MayFollow trees node → AreRowProperties row (take (child_count node) trees)
    → row.weight ≡ held (weight_of (first_of (after_node trees node)))
concat-weight-at {row = row} trees count e =
    subst (λ n. MayFollow trees n → AreRowProperties row (take (child_count n) trees) → row.weight ≡ held (weight_of (first_of (after_node trees n)))) (sym e) (concat-weight trees count)

pub concat-size-at : {row : RowProperties} {node : NodeKind} (trees : List Tree) (count : ℕ) → node ≡ a_concat count → MayFollow trees node → AreRowProperties row (take (child_count node) trees)
    → row.size ≡ held (size_of (first_of (after_node trees node)))
concat-size-at {row = row} trees count e =
    subst (λ n. MayFollow trees n → AreRowProperties row (take (child_count n) trees) → row.size ≡ held (size_of (first_of (after_node trees n)))) (sym e) (concat-size trees count)

pub concat-empty-at : {row : RowProperties} {node : NodeKind} (trees : List Tree) (count : ℕ) → node ≡ a_concat count → MayFollow trees node → AreRowProperties row (take (child_count node) trees)
    → row.all_may_be_empty ≡ may_be_empty (first_of (after_node trees node))
concat-empty-at {row = row} trees count e =
    subst (λ n. MayFollow trees n → AreRowProperties row (take (child_count n) trees) → row.all_may_be_empty ≡ may_be_empty (first_of (after_node trees n))) (sym e) (concat-empty trees count)

pub alternation-weight-at : {row : RowProperties} {node : NodeKind} (trees : List Tree) (count : ℕ) → node ≡ an_alternation count → MayFollow trees node → AreRowProperties row (take (child_count node) trees)
    → min (row.weight + 1) (2 ^ 64 - 1) ≡ held (weight_of (first_of (after_node trees node)))
alternation-weight-at {row = row} trees count e =
    subst (λ n. MayFollow trees n → AreRowProperties row (take (child_count n) trees) → min (row.weight + 1) (2 ^ 64 - 1) ≡ held (weight_of (first_of (after_node trees n)))) (sym e) (alternation-weight trees count)

pub alternation-size-at : {row : RowProperties} {node : NodeKind} (trees : List Tree) (count : ℕ) → node ≡ an_alternation count → MayFollow trees node → AreRowProperties row (take (child_count node) trees)
    → min (row.size + 1) (2 ^ 64 - 1) ≡ held (size_of (first_of (after_node trees node)))
alternation-size-at {row = row} trees count e =
    subst (λ n. MayFollow trees n → AreRowProperties row (take (child_count n) trees) → min (row.size + 1) (2 ^ 64 - 1) ≡ held (size_of (first_of (after_node trees n)))) (sym e) (alternation-size trees count)

pub alternation-empty-at : {row : RowProperties} {node : NodeKind} (trees : List Tree) (count : ℕ) → node ≡ an_alternation count → MayFollow trees node → AreRowProperties row (take (child_count node) trees)
    → row.any_may_be_empty ≡ may_be_empty (first_of (after_node trees node))
alternation-empty-at {row = row} trees count e =
    subst (λ n. MayFollow trees n → AreRowProperties row (take (child_count n) trees) → row.any_may_be_empty ≡ may_be_empty (first_of (after_node trees n))) (sym e) (alternation-empty trees count)

-- properties of the last part of a row
subtrees-end : (tree : Tree) → (front : List Tree) × (subtrees_of tree ≡ front ++ tree ∷ [])
subtrees-end empty = ([], refl)
subtrees-end (one_of ranges) = ([], refl)
subtrees-end (look_at look) = ([], refl)
subtrees-end (group number name tree) = (subtrees_of tree, refl)
subtrees-end (concat trees) = (all_subtrees_of trees, refl)
subtrees-end (alternation trees) = (all_subtrees_of trees, refl)
subtrees-end (repeated repetition tree) = (subtrees_of tree, refl)

pub last_part : (tree : Tree) (d : Properties) → get_or (map properties_of (subtrees_of tree)) (length (subtrees_of tree) - 1) d ≡ properties_of tree
last_part tree d =
    let end = subtrees-end tree in
    let mapped : map properties_of (subtrees_of tree) ≡ map properties_of end.0 ++ properties_of tree ∷ [] = ap (map properties_of) end.1 ∙ map-append properties_of end.0 (tree ∷ []) in
    let at : length (subtrees_of tree) - 1 ≡ length (map properties_of end.0) + 0 = omega (arith, ap length end.1, length-append end.0 (tree ∷ []), length-map end.0 properties_of) in
    ap₂ (λ l i. get_or l i d) mapped at ∙ get_or-append-add (map properties_of end.0) (properties_of tree ∷ []) 0 d

some_nodes : (tree : Tree) → 1 ≤ length (subtrees_of tree)
some_nodes tree = let end = subtrees-end tree in omega (arith, ap length end.1, length-append end.0 (tree ∷ []))

-- before the last k trees is the next one
pub next_part : (trees : List Tree) (k : ℕ) (d : Properties) → k < length trees
    → (length (row_subtrees (take k trees)) < length (row_subtrees trees))
    × (get_or (map properties_of (row_subtrees trees)) (length (row_subtrees trees) - length (row_subtrees (take k trees)) - 1) d ≡ properties_of (get_or trees k empty))
    × (length (row_subtrees (take k trees)) + length (subtrees_of (get_or trees k empty)) ≤ length (row_subtrees trees))
next_part trees k d below =
    let tree = get_or trees k empty in
    let rest = row_subtrees (drop (suc k) trees) in
    let own = subtrees_of tree in
    let last = row_subtrees (take k trees) in
    let dropped : row_subtrees (drop k trees) ≡ rest ++ own = ap row_subtrees (drop-cons trees k empty below) ∙ row_subtrees-cons tree (drop (suc k) trees) in
    let whole : row_subtrees trees ≡ rest ++ (own ++ last) =
    sym (row_subtrees-split k trees) ∙ ap (λ x. x ++ last) dropped ∙ append_assoc rest own last in
    let lengths : length (row_subtrees trees) ≡ length rest + (length own + length last) =
    ap length whole ∙ length-append rest (own ++ last) ∙ ap (λ n. length rest + n) (length-append own last) in
    let some = some_nodes tree in
    let mapped : map properties_of (row_subtrees trees) ≡ map properties_of rest ++ (map properties_of own ++ map properties_of last) =
    ap (map properties_of) whole ∙ map-append properties_of rest (own ++ last) ∙ ap (λ x. map properties_of rest ++ x) (map-append properties_of own last) in
    let at : length (row_subtrees trees) - length last - 1 ≡ length (map properties_of rest) + (length own - 1) = omega (arith, lengths, some, length-map rest properties_of) in
    let inside : length own - 1 < length (map properties_of own) = omega (arith, some, length-map own properties_of) in (
      omega (arith, lengths, some),
      ap₂ (λ l i. get_or l i d) mapped at ∙ get_or-append-add (map properties_of rest) (map properties_of own ++ map properties_of last) (length own - 1) d
          ∙ get_or_append_left (map properties_of own) (map properties_of last) d (length own - 1) inside ∙ last_part tree d,
      omega (arith, lengths),
    )

pub IsRowOf-next : {row row' : RowProperties} {part : Properties} (trees : List Tree) (k : ℕ) → k < length trees → AreRowProperties row (take k trees) → part ≡ properties_of (get_or trees k empty)
    → ((list : List Tree) (tree : Tree) → AreRowProperties row list → part ≡ properties_of tree → AreRowProperties row' (list ++ tree ∷ [])) → AreRowProperties row' (take (k + 1) trees)
IsRowOf-next {row' = row'} trees k below is known more = subst (AreRowProperties row') (sym (take_more trees k empty below)) (more (take k trees) (get_or trees k empty) is known)

abbrev known : ℕ → ℕ → ℕ → Bool → Option ℕ → Properties
known extent weight size may_be_empty groups =
    record { extent = extent; weight = weight; size = size; may_be_empty = may_be_empty; static_groups = groups }

pub known_by : (tree : Tree) (extent weight size : ℕ) (may : Bool) (groups : Option ℕ) → extent ≡ length (subtrees_of tree) → weight ≡ held (weight_of tree) → size ≡ held (size_of tree) → may ≡ may_be_empty tree
    → groups ≡ static_groups tree → known extent weight size may groups ≡ properties_of tree
known_by tree extent weight size may groups a b c d e =
    ap₂ (λ x y. known x y size may groups) a b ∙ ap₂ (λ x y. known (length (subtrees_of tree)) (held (weight_of tree)) x y groups) c d
    ∙ ap (λ x. known (length (subtrees_of tree)) (held (weight_of tree)) (held (size_of tree)) (may_be_empty tree) x) e

pub part_known : (trees : List Tree) (k : ℕ) (items : List Properties) (len extent : ℕ) (part : Properties) → k < length trees → items ≡ map properties_of (row_subtrees trees) → len ≡ length items
    → extent ≡ length (row_subtrees (take k trees)) → part ≡ get_or items (len - extent - 1) part → part ≡ properties_of (get_or trees k empty)
part_known trees k items len extent part below items_are len_is extent_is at =
    let all = map properties_of (row_subtrees trees) in
    let index : len - extent - 1 ≡ length (row_subtrees trees) - length (row_subtrees (take k trees)) - 1 =
    omega (arith, len_is, ap length items_are, length-map (row_subtrees trees) properties_of, extent_is) in
    at ∙ ap (λ l. get_or l (len - extent - 1) part) items_are ∙ ap (λ i. get_or all i part) index ∙ (next_part trees k part below).1

pub row_fits : (n : ℕ) (trees : List Tree) → length (row_subtrees (take n trees)) ≤ length (row_subtrees trees)
row_fits n trees = omega (arith, ap length (row_subtrees-split n trees), length-append (row_subtrees (drop n trees)) (row_subtrees (take n trees)))

-- the last part of all is the tree
pub last_known : (tree : Tree) (list : List Properties) (whole : Properties) → list ≡ map properties_of (subtrees_of tree) → whole ≡ get_or list (length list - 1) whole → whole ≡ properties_of tree
last_known tree list whole is at =
    let all = map properties_of (subtrees_of tree) in
    at ∙ ap (λ l. get_or l (length l - 1) whole) is ∙ ap (λ n. get_or all (n - 1) whole) (length-map (subtrees_of tree) properties_of) ∙ last_part tree whole

pub whole-weight : (tree : Tree) (weight : ℕ) → weight ≡ held (weight_of tree) → min (weight + 3) (2 ^ 64 - 1) ≡ held (pattern_weight tree)
whole-weight tree weight is = ap (λ n. min (n + 3) (2 ^ 64 - 1)) is ∙ three (weight_of tree)
  where
    three : (w : ℕ) → min (held w + 3) (2 ^ 64 - 1) ≡ held (3 + w)
    three w = grind arith
