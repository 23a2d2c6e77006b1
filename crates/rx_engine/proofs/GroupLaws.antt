-- The groups of a tree: their names and their numbers.
use Rattle.std.proofs.Common.{◌≡◌, ◌≢◌, ℕ, zero, suc, Bool, true, false, cond, eqb, ◌+◌, ◌≤◌, ◌<◌, ◌↔◌, ◌⊎◌, List, [], ◌∷◌, ◌++◌, length, get_or, set, replicate, map, take, drop, ◌-◌, append-nil, All, AllPairs, Contains, Option, Some, None, slice_get, unwrap_or, refl, sym, ap, ap₂, subst, ◌∙◌, inl, inr, arith}
use Rattle.std.proofs.lemmas.Bool.{cases_eq}
use Rattle.std.proofs.lemmas.Bool.Decides.{Decides-eqb}
use Rattle.std.proofs.Math.Seq.{take-suc}
use Rattle.std.proofs.lemmas.List.{map-append, take-append-drop, take_all, length-set, length-replicate, get_or-replicate, get_or-set_same, get_or-set_other, length-map, map-set}
use Rattle.std.proofs.lemmas.List.Concat.{flat_map-append}
use Rattle.std.proofs.lemmas.List.Sums.{sum_by_push}
use Rattle.std.proofs.lemmas.List.Elements.{All-head, All-tail, Contains-append_left, Contains-append_right, Contains-append_cases}
use Rattle.std.proofs.lemmas.Option.{none-some, slice_get_within, slice_get-get_or}
use Rattle.std.specs.Prelude.{String, string_bytes, option_map}
use Rattle.rx_util.specs.Groups.{names_of as names_of_texts, GroupNames, name_among, HasDistinctNames}
use Rattle.rx_grammar.specs.Trees.{Name, Tree, Trees, empty, one_of, look_at, group, concat, alternation, repeated, two, more, names_of, all_names_of, numbers_of, all_numbers_of}
use Rattle.rx_grammar.specs.Subtrees.{NodeKind, a_group, root_of, subtrees_of, all_subtrees_of, nodes_of, HasName, IsWellFormed}
use Rattle.rx_grammar.specs.declared.hir.Node.{Node}
use Rattle.rx_grammar.specs.Nodes.{kind_of}
use Rattle.rx_grammar.specs.Postorder.{own_names, names_in}
use Rattle.rx_util.specs.declared.captures.WhichCaptures.{WhichCaptures}
use Rattle.rx_util.specs.declared.captures.WhichCaptures.TheVariants as notes
use Rattle.rx_engine.specs.Engines.{AreNamesOf, AreGroupNamesOf, AreNotedOf, captures_len_of}

-- ---- names

names_beside : (xs ys : List Tree) → names_in (map root_of (xs ++ ys)) ≡ names_in (map root_of xs) ++ names_in (map root_of ys)
names_beside xs ys = ap names_in (map-append root_of xs ys) ∙ flat_map-append own_names (map root_of xs) (map root_of ys)

names_under : (xs : List Tree) (root : Tree) → names_in (map root_of (xs ++ root ∷ [])) ≡ names_in (map root_of xs) ++ own_names (root_of root)
names_under xs root = names_beside xs (root ∷ []) ∙ ap (λ x. names_in (map root_of xs) ++ x) (append-nil (own_names (root_of root)))

-- the nodes of a tree name what the tree names
mutual
  nodes_name : (tree : Tree) → names_in (nodes_of tree) ≡ names_of tree
  nodes_name empty = refl
  nodes_name (one_of ranges) = refl
  nodes_name (look_at look) = refl
  nodes_name (group number None tree) = names_under (subtrees_of tree) (group number None tree) ∙ ap (λ x. x ++ []) (nodes_name tree)
  nodes_name (group number (Some name) tree) = names_under (subtrees_of tree) (group number (Some name) tree) ∙ ap (λ x. x ++ name ∷ []) (nodes_name tree)
  nodes_name (concat trees) = names_under (all_subtrees_of trees) (concat trees) ∙ append-nil (names_in (map root_of (all_subtrees_of trees))) ∙ all_nodes_name trees
  nodes_name (alternation trees) = names_under (all_subtrees_of trees) (alternation trees) ∙ append-nil (names_in (map root_of (all_subtrees_of trees))) ∙ all_nodes_name trees
  nodes_name (repeated repetition tree) = names_under (subtrees_of tree) (repeated repetition tree) ∙ append-nil (names_in (nodes_of tree)) ∙ nodes_name tree

  all_nodes_name : (trees : Trees) → names_in (map root_of (all_subtrees_of trees)) ≡ all_names_of trees
  all_nodes_name (two first second) = names_beside (subtrees_of first) (subtrees_of second) ∙ ap₂ (λ x y. x ++ y) (nodes_name first) (nodes_name second)
  all_nodes_name (more first others) = names_beside (subtrees_of first) (all_subtrees_of others) ∙ ap₂ (λ x y. x ++ y) (nodes_name first) (all_nodes_name others)

abbrev number_in : NodeKind → ℕ
number_in (a_group number name) = number
number_in _ = 0

abbrev name_in : NodeKind → Option Name
name_in (a_group number name) = name
name_in _ = None

-- a name that is apart from those behind it isn't one of them
name_apart : (name : Name) (names : List Name) → AllPairs (λ a b. a ≢ b) (name ∷ names) → Contains names name → ⊥
name_apart name names once found = once 0 (suc found.0) name (omega arith) (omega (arith, found.1)) (sym found.2)

apart_behind : (xs ys : List Name) → AllPairs (λ a b. a ≢ b) (xs ++ ys) → AllPairs (λ a b. a ≢ b) ys
apart_behind [] ys once = once
apart_behind (x ∷ xs) ys once = apart_behind xs ys (λ i j d lt within. once (suc i) (suc j) d (omega (arith, lt)) (omega (arith, within)))

-- the name of a group among the nodes is one of their names
name_found : (nodes : List NodeKind) (g : ℕ) (name : Name) (k : ℕ) → k < length nodes → get_or nodes k (a_group g (Some name)) ≡ a_group g (Some name) → Contains (names_in nodes) name
name_found [] g name k lt is = absurd (omega (arith, lt))
name_found (node ∷ nodes) g name zero lt is = subst (λ xs. Contains (xs ++ names_in nodes) name) (sym (ap own_names is)) (0, omega arith, refl)
name_found (node ∷ nodes) g name (suc k) lt is = Contains-append_right (own_names node) (names_in nodes) name (name_found nodes g name k (omega (arith, lt)) is)

-- a node with this name, and another one behind it
name_twice : (node : NodeKind) (nodes : List NodeKind) (g h : ℕ) (name : Name) (k : ℕ) → AllPairs (λ a b. a ≢ b) (own_names node ++ names_in nodes) → node ≡ a_group g (Some name)
    → k < length nodes → get_or nodes k (a_group h (Some name)) ≡ a_group h (Some name) → ⊥
name_twice node nodes g h name k once first lt is =
    name_apart name (names_in nodes) (subst (λ xs. AllPairs (λ a b. a ≢ b) (xs ++ names_in nodes)) (ap own_names first) once) (name_found nodes h name k lt is)

-- where names are apart, groups with one name are one
one_number : (nodes : List NodeKind) (g h : ℕ) (name : Name) (k j : ℕ) → AllPairs (λ a b. a ≢ b) (names_in nodes)
    → k < length nodes → get_or nodes k (a_group g (Some name)) ≡ a_group g (Some name) → j < length nodes → get_or nodes j (a_group h (Some name)) ≡ a_group h (Some name) → g ≡ h
one_number [] g h name k j once lt is lt' is' = absurd (omega (arith, lt))
one_number (node ∷ nodes) g h name zero zero once lt is lt' is' = ap number_in (sym is ∙ is')
one_number (node ∷ nodes) g h name zero (suc j) once lt is lt' is' = absurd (name_twice node nodes g h name j once is (omega (arith, lt')) is')
one_number (node ∷ nodes) g h name (suc k) zero once lt is lt' is' = absurd (name_twice node nodes h g name k once is' (omega (arith, lt)) is)
one_number (node ∷ nodes) g h name (suc k) (suc j) once lt is lt' is' =
    one_number nodes g h name k j (apart_behind (own_names node) (names_in nodes) once) (omega (arith, lt)) is (omega (arith, lt')) is'

name_once : (tree : Tree) (g h : ℕ) (name : Name) → IsWellFormed tree → HasName tree g name → HasName tree h name → g ≡ h
name_once tree g h name formed at at' =
    one_number (nodes_of tree) g h name at.0 at'.0 (subst (λ xs. AllPairs (λ a b. a ≢ b) xs) (sym (nodes_name tree)) formed.names) at.1 at.2 at'.1 at'.2

-- ---- numbers

-- how often a number stands in a list, and how many groups with it are among nodes
abbrev times : ℕ → List ℕ → ℕ
times g [] = 0
times g (x ∷ xs) = cond (eqb x g) 1 0 + times g xs

abbrev own_times : ℕ → NodeKind → ℕ
own_times g (a_group number name) = cond (eqb number g) 1 0
own_times g _ = 0

abbrev times_in : ℕ → List NodeKind → ℕ
times_in g [] = 0
times_in g (node ∷ nodes) = own_times g node + times_in g nodes

times-append : (g : ℕ) (xs ys : List ℕ) → times g (xs ++ ys) ≡ times g xs + times g ys
times-append g [] ys = omega arith
times-append g (x ∷ xs) ys = omega (arith, times-append g xs ys)

times_in-append : (g : ℕ) (xs ys : List NodeKind) → times_in g (xs ++ ys) ≡ times_in g xs + times_in g ys
times_in-append g [] ys = omega arith
times_in-append g (x ∷ xs) ys = omega (arith, times_in-append g xs ys)

times_beside : (g : ℕ) (xs ys : List Tree) → times_in g (map root_of (xs ++ ys)) ≡ times_in g (map root_of xs) + times_in g (map root_of ys)
times_beside g xs ys = ap (times_in g) (map-append root_of xs ys) ∙ times_in-append g (map root_of xs) (map root_of ys)

times_under : (g : ℕ) (xs : List Tree) (root : Tree) → times_in g (map root_of (xs ++ root ∷ [])) ≡ own_times g (root_of root) + times_in g (map root_of xs)
times_under g xs root =
    let e : times_in g (map root_of (xs ++ root ∷ [])) ≡ times_in g (map root_of xs) + (own_times g (root_of root) + 0) = times_beside g xs (root ∷ []) in
    omega (arith, e)

times_flat : (g : ℕ) (xs : List Tree) (root : Tree) → own_times g (root_of root) ≡ 0 → times_in g (map root_of (xs ++ root ∷ [])) ≡ times_in g (map root_of xs)
times_flat g xs root none = omega (arith, times_under g xs root, none)

-- a tree has as many groups with a number among its nodes as among its numbers
mutual
  nodes_number : (g : ℕ) (tree : Tree) → times_in g (nodes_of tree) ≡ times g (numbers_of tree)
  nodes_number g empty = refl
  nodes_number g (one_of ranges) = refl
  nodes_number g (look_at look) = refl
  nodes_number g (group number name tree) =
      times_under g (subtrees_of tree) (group number name tree) ∙ ap (λ n. cond (eqb number g) 1 0 + n) (nodes_number g tree)
  nodes_number g (concat trees) = times_flat g (all_subtrees_of trees) (concat trees) refl ∙ all_nodes_number g trees
  nodes_number g (alternation trees) = times_flat g (all_subtrees_of trees) (alternation trees) refl ∙ all_nodes_number g trees
  nodes_number g (repeated repetition tree) = times_flat g (subtrees_of tree) (repeated repetition tree) refl ∙ nodes_number g tree

  all_nodes_number : (g : ℕ) (trees : Trees) → times_in g (map root_of (all_subtrees_of trees)) ≡ times g (all_numbers_of trees)
  all_nodes_number g (two first second) =
      times_beside g (subtrees_of first) (subtrees_of second) ∙ ap₂ (λ x y. x + y) (nodes_number g first) (nodes_number g second)
      ∙ sym (times-append g (numbers_of first) (numbers_of second))
  all_nodes_number g (more first others) =
      times_beside g (subtrees_of first) (all_subtrees_of others) ∙ ap₂ (λ x y. x + y) (nodes_number g first) (all_nodes_number g others)
      ∙ sym (times-append g (numbers_of first) (all_numbers_of others))

-- numbers that rise by one from m + 1
abbrev Rise : ℕ → List ℕ → Type 0
Rise m xs = (k : ℕ) → k < length xs → get_or xs k 0 ≡ m + (k + 1)

rise_on : (m x : ℕ) (xs : List ℕ) → Rise m (x ∷ xs) → Rise (m + 1) xs
rise_on m x xs rise = λ k lt. let e : get_or xs k 0 ≡ m + (suc k + 1) = rise (suc k) (omega (arith, lt)) in omega (arith, e)

rise_first : (m x : ℕ) (xs : List ℕ) → Rise m (x ∷ xs) → x ≡ m + 1
rise_first m x xs rise = let e : x ≡ m + (0 + 1) = rise 0 (omega arith) in omega (arith, e)

own_low : (x g m : ℕ) (same : Bool) → (same ≡ true → x ≡ g) → x ≡ m + 1 → g ≤ m → ◌≡◌ {A = ℕ} (cond same 1 0) 0
own_low x g m true is first low = absurd (omega (arith, is refl, first, low))
own_low x g m false is first low = refl

-- a lower number isn't there
times_low : (g m : ℕ) (xs : List ℕ) → Rise m xs → g ≤ m → times g xs ≡ 0
times_low g m [] rise low = refl
times_low g m (x ∷ xs) rise low =
    omega (arith, own_low x g m (eqb x g) (Decides-eqb x g).0 (rise_first m x xs rise) low, times_low g (m + 1) xs (rise_on m x xs rise) (omega (arith, low)))

own_most : (x g m rest : ℕ) (same : Bool) → (same ≡ true → x ≡ g) → x ≡ m + 1 → (g ≤ m + 1 → rest ≡ 0) → rest ≤ 1 → cond same 1 0 + rest ≤ 1
own_most x g m rest true is first none few = let no : rest ≡ 0 = none (omega (arith, is refl, first)) in omega (arith, no)
own_most x g m rest false is first none few = omega (arith, few)

-- and each stands there once
times_most : (g m : ℕ) (xs : List ℕ) → Rise m xs → times g xs ≤ 1
times_most g m [] rise = omega arith
times_most g m (x ∷ xs) rise =
    own_most x g m (times g xs) (eqb x g) (Decides-eqb x g).0 (rise_first m x xs rise) (λ low. times_low g (m + 1) xs (rise_on m x xs rise) low) (times_most g (m + 1) xs (rise_on m x xs rise))

own_once : (g : ℕ) (name : Option Name) → own_times g (a_group g name) ≡ 1
own_once g name = ap (λ same. cond same 1 0) ((Decides-eqb g g).1 refl)

times_some : (nodes : List NodeKind) (g : ℕ) (name : Option Name) (k : ℕ) → k < length nodes → get_or nodes k (a_group g name) ≡ a_group g name → 1 ≤ times_in g nodes
times_some [] g name k lt is = absurd (omega (arith, lt))
times_some (node ∷ nodes) g name zero lt is = let e : own_times g node ≡ 1 = ap (own_times g) is ∙ own_once g name in omega (arith, e)
times_some (node ∷ nodes) g name (suc k) lt is = let e : 1 ≤ times_in g nodes = times_some nodes g name k (omega (arith, lt)) is in omega (arith, e)

-- a group with this number, and another one behind it
number_twice : (node : NodeKind) (nodes : List NodeKind) (g : ℕ) (name other : Option Name) (k : ℕ) → own_times g node + times_in g nodes ≤ 1 → node ≡ a_group g name
    → k < length nodes → get_or nodes k (a_group g other) ≡ a_group g other → ⊥
number_twice node nodes g name other k once first lt is =
    let e : own_times g node ≡ 1 = ap (own_times g) first ∙ own_once g name in
    let f : 1 ≤ times_in g nodes = times_some nodes g other k lt is in
    omega (arith, once, e, f)

-- where each number stands once, groups with one number have one name
one_name : (nodes : List NodeKind) (g : ℕ) (name other : Option Name) (k j : ℕ) → times_in g nodes ≤ 1
    → k < length nodes → get_or nodes k (a_group g name) ≡ a_group g name → j < length nodes → get_or nodes j (a_group g other) ≡ a_group g other → name ≡ other
one_name [] g name other k j once lt is lt' is' = absurd (omega (arith, lt))
one_name (node ∷ nodes) g name other zero zero once lt is lt' is' = ap name_in (sym is ∙ is')
one_name (node ∷ nodes) g name other zero (suc j) once lt is lt' is' = absurd (number_twice node nodes g name other j once is (omega (arith, lt')) is')
one_name (node ∷ nodes) g name other (suc k) zero once lt is lt' is' = absurd (number_twice node nodes g other name k once is' (omega (arith, lt)) is)
one_name (node ∷ nodes) g name other (suc k) (suc j) once lt is lt' is' =
    let rest : times_in g nodes ≤ 1 = omega (arith, once) in
    one_name nodes g name other k j rest (omega (arith, lt)) is (omega (arith, lt')) is'

number_once : (tree : Tree) (g : ℕ) (name other : Name) → IsWellFormed tree → HasName tree g name → HasName tree g other → Some name ≡ Some other
number_once tree g name other formed at at' =
    let rise : Rise 0 (numbers_of tree) = λ k lt. let e : get_or (numbers_of tree) k 0 ≡ k + 1 = formed.numbered k lt in omega (arith, e) in
    let once : times_in g (nodes_of tree) ≤ 1 = subst (λ n. n ≤ 1) (sym (nodes_number g tree)) (times_most g 0 (numbers_of tree) rise) in
    one_name (nodes_of tree) g (Some name) (Some other) at.0 at'.0 once at.1 at.2 at'.1 at'.2

-- ---- where the numbers of groups lie

within_first : (g m x n rest : ℕ) (same : Bool) → (same ≡ true → x ≡ g) → x ≡ m + 1 → (1 ≤ rest → (m + 1 + 1 ≤ g) × (g ≤ m + 1 + n)) → 1 ≤ cond same 1 0 + rest
    → (m + 1 ≤ g) × (g ≤ m + (n + 1))
within_first g m x n rest true is first later some = let here : x ≡ g = is refl in (omega (arith, here, first), omega (arith, here, first))
within_first g m x n rest false is first later some = let at = later (omega (arith, some)) in (omega (arith, at.0), omega (arith, at.1))

number_within : (g m : ℕ) (xs : List ℕ) → Rise m xs → 1 ≤ times g xs → (m + 1 ≤ g) × (g ≤ m + length xs)
number_within g m [] rise some = absurd (omega (arith, some))
number_within g m (x ∷ xs) rise some =
    let at = within_first g m x (length xs) (times g xs) (eqb x g) (Decides-eqb x g).0 (rise_first m x xs rise) (λ later. number_within g (m + 1) xs (rise_on m x xs rise) later) some in
    (at.0, omega (arith, at.1))

-- ---- the names of groups, node by node

-- of the groups among these nodes the names are told; those of the others are still none
pub record AreNamesAmong (tree : Tree) (nodes : List NodeKind) (names : List (Option Name)) : Type 0 where
  pub count : length names ≡ length (numbers_of tree)
  pub named : (k : ℕ) (name : Name) → (slice_get names k ≡ Some (Some name)) ↔ Contains nodes (a_group (k + 1) (Some name))

no_element : {A : Type 0} (x : A) → Contains [] x → ⊥
no_element x found = absurd (omega (arith, found.1))

abbrev the_none : Option Name
the_none = None

none_long : (n : ℕ) → length (replicate n (the_none)) ≡ n
none_long n = length-replicate n the_none

nameless_there : (n k : ℕ) (name : Name) → slice_get (replicate n None) k ≡ Some (Some name) → ⊥
nameless_there n k name is =
    let within : k < n = omega (arith, slice_get_within (replicate n None) k (Some name) is, none_long n) in
    let none : slice_get (replicate n None) k ≡ Some None =
    slice_get-get_or (replicate n None) k None (omega (arith, within, none_long n)) ∙ ap Some (get_or-replicate n k None None within) in
    none-some name (ap (λ o. unwrap_or o None) (sym none ∙ is))

pub none_named : (tree : Tree) (nodes : List NodeKind) (names : List (Option Name)) → nodes ≡ [] → names ≡ replicate (length (numbers_of tree)) None → AreNamesAmong tree nodes names
none_named tree nodes names fresh none = record {
  count = ap length none ∙ length-replicate (length (numbers_of tree)) None;
  named = λ k name. (
    λ is. absurd (nameless_there (length (numbers_of tree)) k name (sym (ap (λ xs. slice_get xs k) none) ∙ is)),
    λ found. absurd (no_element (a_group (k + 1) (Some name)) (subst (λ xs. Contains xs (a_group (k + 1) (Some name))) fresh found)),
  );
}

-- one node more, which is no group with a name
only_element : {A : Type 0} (x y : A) → Contains (x ∷ []) y → x ≡ y
only_element x y found = by found.0 found.1 found.2
  where
    by : (k : ℕ) → k < 1 → get_or (x ∷ []) k y ≡ y → x ≡ y
    by zero lt is = is
    by (suc k) lt is = absurd (omega (arith, lt))

before_or_last : (nodes : List NodeKind) (node x : NodeKind) → Contains (nodes ++ node ∷ []) x → Contains nodes x ⊎ (node ≡ x)
before_or_last nodes node x found = elim (Contains-append_cases nodes (node ∷ []) x found) [
  | inl before ↦ inl before
  | inr last ↦ inr (only_element node x last)
]

pub none_more_named : (tree : Tree) (nodes : List NodeKind) (names : List (Option Name)) (node : NodeKind) → own_names node ≡ [] → AreNamesAmong tree nodes names → AreNamesAmong tree (nodes ++ node ∷ []) names
none_more_named tree nodes names node none so_far = record {
  count = so_far.count;
  named = λ k name. (
    λ is. Contains-append_left nodes (node ∷ []) (a_group (k + 1) (Some name)) ((so_far.named k name).0 is),
    λ found. elim (before_or_last nodes node (a_group (k + 1) (Some name)) found) [
      | inl before ↦ (so_far.named k name).1 before
      | inr this ↦ absurd (let no : name ∷ [] ≡ [] = sym (ap own_names this) ∙ none in cc no)
    ],
  );
}

-- a group with a name
slice_get-same : (names : List (Option Name)) (g : ℕ) (one : Option Name) → g < length names → slice_get (set names g one) g ≡ Some one
slice_get-same names g one lt =
    slice_get-get_or (set names g one) g one (omega (arith, lt, length-set names g one)) ∙ ap Some (get_or-set_same names g one one lt)

slice_get-other : (names : List (Option Name)) (g k : ℕ) (one : Option Name) → k ≢ g → k < length names → slice_get (set names g one) k ≡ slice_get names k
slice_get-other names g k one other lt =
    slice_get-get_or (set names g one) k one (omega (arith, lt, length-set names g one)) ∙ ap Some (get_or-set_other names g k one one other) ∙ sym (slice_get-get_or names k one lt)

some_name : (a b : Name) → Some (Some a) ≡ Some (Some b) → a ≡ b
some_name a b e = cc e

named_here : (tree : Tree) (nodes : List NodeKind) (names : List (Option Name)) (node : NodeKind) (g : ℕ) (one : Name) → IsWellFormed tree
    → ((x : NodeKind) → Contains (nodes ++ node ∷ []) x → Contains (nodes_of tree) x) → node ≡ a_group (g + 1) (Some one) → g < length names
    → (name : Name) → (slice_get (set names g (Some one)) g ≡ Some (Some name)) ↔ Contains (nodes ++ node ∷ []) (a_group (g + 1) (Some name))
named_here tree nodes names node g one formed among is lt name =
    let here = slice_get-same names g (Some one) lt in
    let last : Contains (nodes ++ node ∷ []) (a_group (g + 1) (Some one)) = Contains-append_right nodes (node ∷ []) (a_group (g + 1) (Some one)) (0, omega arith, is) in (
      λ told. subst (λ n. Contains (nodes ++ node ∷ []) (a_group (g + 1) (Some n))) (some_name one name (sym here ∙ told)) last,
      λ found. here ∙ ap Some (number_once tree (g + 1) one name formed (among (a_group (g + 1) (Some one)) last) (among (a_group (g + 1) (Some name)) found)),
    )

named_elsewhere : (tree : Tree) (nodes : List NodeKind) (names : List (Option Name)) (node : NodeKind) (g k : ℕ) (one : Name) → AreNamesAmong tree nodes names
    → node ≡ a_group (g + 1) (Some one) → k ≢ g
    → (name : Name) → (slice_get (set names g (Some one)) k ≡ Some (Some name)) ↔ Contains (nodes ++ node ∷ []) (a_group (k + 1) (Some name))
named_elsewhere tree nodes names node g k one so_far is other name = (
  λ told.
      let lt : k < length names = omega (arith, slice_get_within (set names g (Some one)) k (Some name) told, length-set names g (Some one)) in
      Contains-append_left nodes (node ∷ []) (a_group (k + 1) (Some name)) ((so_far.named k name).0 (sym (slice_get-other names g k (Some one) other lt) ∙ told)),
  λ found. elim (before_or_last nodes node (a_group (k + 1) (Some name)) found) [
    | inl before ↦
        let told = (so_far.named k name).1 before in
        slice_get-other names g k (Some one) other (slice_get_within names k (Some name) told) ∙ told
    | inr this ↦
        let same : g + 1 ≡ k + 1 = ap number_in (sym is ∙ this) in
        absurd (other (omega (arith, same)))
  ],
)

pub one_more_named : (tree : Tree) (nodes : List NodeKind) (names : List (Option Name)) (node : NodeKind) (g : ℕ) (one : Name) → IsWellFormed tree → AreNamesAmong tree nodes names
    → ((x : NodeKind) → Contains (nodes ++ node ∷ []) x → Contains (nodes_of tree) x) → node ≡ a_group (g + 1) (Some one) → g < length names
    → AreNamesAmong tree (nodes ++ node ∷ []) (set names g (Some one))
one_more_named tree nodes names node g one formed so_far among is lt = record {
  count = length-set names g (Some one) ∙ so_far.count;
  named = λ k name. elim (cases_eq k g) [
    | inl same ↦
        subst (λ i. (slice_get (set names g (Some one)) i ≡ Some (Some name)) ↔ Contains (nodes ++ node ∷ []) (a_group (i + 1) (Some name))) (sym same)
        (named_here tree nodes names node g one formed among is lt name)
    | inr other ↦ named_elsewhere tree nodes names node g k one so_far is other name
  ];
}

-- the number of a group with a name is one of those there are, which begin with 1
pub group_place : (tree : Tree) (g : ℕ) (name : Name) → IsWellFormed tree → HasName tree g name → (1 ≤ g) × (g ≤ length (numbers_of tree))
group_place tree g name formed at =
    let some : 1 ≤ times g (numbers_of tree) = subst (λ n. 1 ≤ n) (nodes_number g tree) (times_some (nodes_of tree) g (Some name) at.0 at.1 at.2) in
    let rise : Rise 0 (numbers_of tree) = λ k lt. let e : get_or (numbers_of tree) k 0 ≡ k + 1 = formed.numbered k lt in omega (arith, e) in
    let within = number_within g 0 (numbers_of tree) rise some in
    (omega (arith, within.0), omega (arith, within.1))

-- all nodes are done
pub all_named : (tree : Tree) (nodes : List NodeKind) (names : List (Option Name)) → nodes ≡ nodes_of tree → AreNamesAmong tree nodes names → AreNamesOf tree names
all_named tree nodes names all so_far = record {
  count = so_far.count;
  named = λ k name. (
    λ is. subst (λ xs. Contains xs (a_group (k + 1) (Some name))) all ((so_far.named k name).0 is),
    λ has. (so_far.named k name).1 (subst (λ xs. Contains xs (a_group (k + 1) (Some name))) (sym all) has),
  );
}

-- no node is left
pub all_taken : (nodes : List Node) (i : ℕ) → length nodes ≤ i → map kind_of (take i nodes) ≡ map kind_of nodes
all_taken nodes i past = ap (map kind_of) (take_all i nodes (omega (arith, past)))

-- ---- names that are given as texts

abbrev text_of : {A : Type 0} → Option (String A) → Option Name
text_of text = option_map string_bytes text

nameless_texts : (A : Type 0) (n : ℕ) → map (text_of {A = A}) (replicate n None) ≡ replicate n None
nameless_texts A zero = refl
nameless_texts A (suc n) = ap (λ names. None ∷ names) (nameless_texts A n)

pub names_of-none : {A : Type 0} (n : ℕ) (names : List (Option (String A))) → names ≡ replicate n None → names_of_texts names ≡ replicate n None
names_of-none n names none = ap names_of_texts none ∙ nameless_texts _ n

pub names_of-set : {A : Type 0} (names names' : List (Option (String A))) (i : ℕ) (text : String A) (name : Name) → names' ≡ set names i (Some text) → string_bytes text ≡ name
    → names_of_texts names' ≡ set (names_of_texts names) i (Some name)
names_of-set names names' i text name put is =
    ap names_of_texts put ∙ map-set (option_map string_bytes) names i (Some text) ∙ ap (λ n. set (names_of_texts names) i (Some n)) is

pub names_of-length : {A : Type 0} (names : List (Option (String A))) → length (names_of_texts names) ≡ length names
names_of-length names = length-map names text_of

-- ---- a node in its place

node_more : (nodes : List Node) (i : ℕ) (node : Node) → i < length nodes → node ≡ get_or nodes i node
    → map kind_of (take (i + 1) nodes) ≡ map kind_of (take i nodes) ++ kind_of node ∷ []
node_more nodes i node lt is =
    let more : i + 1 ≡ suc i = omega arith in
    ap (λ n. map kind_of (take n nodes)) more ∙ ap (map kind_of) (take-suc nodes i node lt) ∙ map-append kind_of (take i nodes) (get_or nodes i node ∷ [])
    ∙ ap (λ x. map kind_of (take i nodes) ++ kind_of x ∷ []) (sym is)

-- what the next node is, among the nodes of a tree
pub record IsNodeOf (tree : Tree) (nodes : List Node) (i : ℕ) (node : Node) : Type 0 where
  pub more : map kind_of (take (i + 1) nodes) ≡ map kind_of (take i nodes) ++ kind_of node ∷ []
  pub among : (x : NodeKind) → Contains (map kind_of (take i nodes) ++ kind_of node ∷ []) x → Contains (nodes_of tree) x

pub node_of : (tree : Tree) (nodes : List Node) (i : ℕ) (node : Node) → map kind_of nodes ≡ nodes_of tree → i < length nodes → node ≡ get_or nodes i node → IsNodeOf tree nodes i node
node_of tree nodes i node all lt is =
    let more = node_more nodes i node lt is in
    let whole : map kind_of (take (i + 1) nodes) ++ map kind_of (drop (i + 1) nodes) ≡ nodes_of tree =
    sym (map-append kind_of (take (i + 1) nodes) (drop (i + 1) nodes)) ∙ ap (map kind_of) (take-append-drop (i + 1) nodes) ∙ all in
    record {
      more = more;
      among = λ x found. subst (λ xs. Contains xs x) whole
          (Contains-append_left (map kind_of (take (i + 1) nodes)) (map kind_of (drop (i + 1) nodes)) x (subst (λ xs. Contains xs x) (sym more) found));
    }

-- where a node's name is put
pub place_of : (tree : Tree) (nodes : List Node) (i : ℕ) (node : Node) (g : ℕ) (name : Name) → IsWellFormed tree → IsNodeOf tree nodes i node → kind_of node ≡ a_group g (Some name)
    → (1 ≤ g) × (g ≤ length (numbers_of tree))
place_of tree nodes i node g name formed at is =
    group_place tree g name formed (at.among (a_group g (Some name)) (Contains-append_right (map kind_of (take i nodes)) (kind_of node ∷ []) (a_group g (Some name)) (0, omega arith, is)))

pub named_more : (tree : Tree) (nodes : List Node) (i : ℕ) (node : Node) (g : ℕ) (name : Name) (names names' : List (Option Name)) → IsWellFormed tree → IsNodeOf tree nodes i node
    → kind_of node ≡ a_group g (Some name) → AreNamesAmong tree (map kind_of (take i nodes)) names → names' ≡ set names (g - 1) (Some name)
    → AreNamesAmong tree (map kind_of (take (i + 1) nodes)) names'
named_more tree nodes i node g name names names' formed at is so_far put =
    let place = place_of tree nodes i node g name formed at is in
    let down : g ≡ g - 1 + 1 = omega (arith, place.0) in
    subst (λ xs. AreNamesAmong tree xs names') (sym at.more)
    (subst (λ xs. AreNamesAmong tree (map kind_of (take i nodes) ++ kind_of node ∷ []) xs) (sym put)
    (one_more_named tree (map kind_of (take i nodes)) names (kind_of node) (g - 1) name formed so_far at.among (is ∙ ap (λ n. a_group n (Some name)) down)
    (omega (arith, place.0, place.1, so_far.count))))

pub unnamed_more : (tree : Tree) (nodes : List Node) (i : ℕ) (node : Node) (names : List (Option Name)) → IsNodeOf tree nodes i node → own_names (kind_of node) ≡ []
    → AreNamesAmong tree (map kind_of (take i nodes)) names → AreNamesAmong tree (map kind_of (take (i + 1) nodes)) names
unnamed_more tree nodes i node names at none so_far =
    subst (λ xs. AreNamesAmong tree xs names) (sym at.more) (none_more_named tree (map kind_of (take i nodes)) names (kind_of node) none so_far)

-- ---- the groups of patterns

name_among-first : (names : List (Option Name)) (g : ℕ) (name : Name) → name_among names g ≡ Some name → (k : ℕ) × (g ≡ k + 1) × (slice_get names k ≡ Some (Some name))
name_among-first names zero name is = absurd (none-some name is)
name_among-first names (suc k) name is = (k, omega arith, there (slice_get names k) is)
  where
    there : (o : Option (Option Name)) → unwrap_or o None ≡ Some name → o ≡ Some (Some name)
    there None e = absurd (none-some name e)
    there (Some x) e = ap (λ o. Some o) e

has_name : (tree : Tree) (names : List (Option Name)) (g : ℕ) (name : Name) → AreNamesOf tree names → name_among names g ≡ Some name → HasName tree g name
has_name tree names g name are is =
    let at = name_among-first names g name is in
    subst (λ n. HasName tree n name) (sym at.1) ((are.named at.0 name).0 at.2)

first_or_later : (tree : Tree) (names : List (Option Name)) (groups : GroupNames) → IsWellFormed tree → AreNamesOf tree names → HasDistinctNames groups → HasDistinctNames (names ∷ groups)
first_or_later tree names groups formed are later zero g h name at at' = name_once tree g h name formed (has_name tree names g name are at) (has_name tree names h name are at')
first_or_later tree names groups formed are later (suc p) g h name at at' = later p g h name at at'

pub distinct_names : (trees : List Tree) (groups : GroupNames) → All IsWellFormed trees → AreGroupNamesOf trees groups → HasDistinctNames groups
distinct_names [] groups formed are = subst (λ x. HasDistinctNames x) (sym are) (λ p g h name at at'. absurd (none-some name at))
distinct_names (tree ∷ trees) [] formed are = absurd are
distinct_names (tree ∷ trees) (names ∷ groups) formed are =
    first_or_later tree names groups (All-head IsWellFormed tree trees formed) are.0 (distinct_names trees groups (All-tail IsWellFormed tree trees formed) are.1)

-- those of one tree more
pub one_more_groups : (trees : List Tree) (groups : GroupNames) (tree : Tree) (names : List (Option Name)) → AreGroupNamesOf trees groups → AreNamesOf tree names
    → AreGroupNamesOf (trees ++ tree ∷ []) (groups ++ names ∷ [])
one_more_groups [] groups tree names are named = subst (λ x. AreGroupNamesOf (tree ∷ []) (x ++ names ∷ [])) (sym are) (named, refl)
one_more_groups (t ∷ trees) [] tree names are named = absurd are
one_more_groups (t ∷ trees) (n ∷ groups) tree names are named = (are.0, one_more_groups trees groups tree names are.1 named)

pub group_count : (trees : List Tree) (groups : GroupNames) → AreGroupNamesOf trees groups → length groups ≡ length trees
group_count [] groups are = ap length are
group_count (tree ∷ trees) [] are = absurd are
group_count (tree ∷ trees) (names ∷ groups) are = ap suc (group_count trees groups are.1)

-- and as many are noted
pub noted_count : (trees : List Tree) (groups : GroupNames) (which : WhichCaptures) → AreNotedOf which trees groups → length groups ≡ length trees
noted_count trees groups notes.All are = ap length are.noted ∙ group_count trees are.all_groups are.are_groups
noted_count trees groups notes.Implicit are = ap length are.noted ∙ length-replicate (length are.all_groups) [] ∙ group_count trees are.all_groups are.are_groups
noted_count trees groups notes.None are = ap length are.noted ∙ length-replicate (length are.all_groups) [] ∙ group_count trees are.all_groups are.are_groups

-- how many groups there are with those of one tree more
pub one_more_counted : (trees : List Tree) (tree : Tree) → captures_len_of (trees ++ tree ∷ []) ≡ captures_len_of trees + (length (numbers_of tree) + 1)
one_more_counted trees tree = sum_by_push (λ x. length (numbers_of x) + 1) trees tree

-- ---- as many as were gone through

taken : {X Y : Type 0} (xs : List X) (f : X → Y) (k : ℕ) (x : X) → k < length xs → x ≡ get_or xs k x → take (suc k) (map f xs) ≡ take k (map f xs) ++ f x ∷ []
taken [] f k x lt is = absurd (omega (arith, lt))
taken (y ∷ xs) f zero x lt is = ap (λ z. f z ∷ []) (sym is)
taken (y ∷ xs) f (suc k) x lt is = ap (λ ys. f y ∷ ys) (taken xs f k x (omega (arith, lt)) is)

pub taken_more : {X Y : Type 0} (xs : List X) (f : X → Y) (k : ℕ) (x : X) → k < length xs → x ≡ get_or xs k x → take (k + 1) (map f xs) ≡ take k (map f xs) ++ f x ∷ []
taken_more xs f k x lt is = let more : k + 1 ≡ suc k = omega arith in ap (λ n. take n (map f xs)) more ∙ taken xs f k x lt is

pub taken_all : {X Y : Type 0} (xs : List X) (f : X → Y) (k : ℕ) → length xs ≤ k → take k (map f xs) ≡ map f xs
taken_all [] f zero le = refl
taken_all [] f (suc k) le = refl
taken_all (y ∷ xs) f zero le = absurd (omega (arith, le))
taken_all (y ∷ xs) f (suc k) le = ap (λ ys. f y ∷ ys) (taken_all xs f k (omega (arith, le)))

taken_one : {X : Type 0} (xs : List X) (k : ℕ) (x : X) → slice_get xs k ≡ Some x → take (suc k) xs ≡ take k xs ++ x ∷ []
taken_one [] k x there = absurd (none-some x there)
taken_one (y ∷ xs) zero x there = ap (λ o. unwrap_or o y ∷ []) there
taken_one (y ∷ xs) (suc k) x there = ap (λ ys. y ∷ ys) (taken_one xs k x there)

pub taken_there : {X : Type 0} (xs : List X) (k : ℕ) (x : X) → slice_get xs k ≡ Some x → take (k + 1) xs ≡ take k xs ++ x ∷ []
taken_there xs k x there = let more : k + 1 ≡ suc k = omega arith in ap (λ n. take n xs) more ∙ taken_one xs k x there
