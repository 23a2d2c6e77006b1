-- Where the parts of a part are among all parts of a tree.
use Rattle.std.proofs.Common.{◌≡◌, ℕ, ◌+◌, ◌-◌, ◌<◌, ◌≤◌, ◌⊎◌, List, [], ◌∷◌, ◌++◌, length, reverse, get_or, append_assoc, refl, sym, ap, ap₂, subst, ◌∙◌, arith, length-append, inl, inr}
use Rattle.std.proofs.lemmas.List.{reverse-append, append-nil, get_or-append-add}
use Rattle.rx_grammar.specs.Trees.{Tree, Trees, empty, one_of, look_at, group, concat, alternation, repeated, two, more}
use Rattle.rx_grammar.specs.Subtrees.{subtrees_of, all_subtrees_of}
use Rattle.rx_program.specs.Jobs.{part_at, trees_before, HasPartsBefore}

-- the parts of a tree are in sequence among others, up to a root
pub record Stands (parts : List Tree) (k : ℕ) (some : List Tree) : Type 0 where
  pub front : List Tree
  pub rest : List Tree
  pub whole : parts ≡ front ++ (some ++ rest)
  pub root : k + 1 ≡ length front + length some

end_of : (tree : Tree) → (front : List Tree) × (subtrees_of tree ≡ front ++ tree ∷ [])
end_of empty = ([], refl)
end_of (one_of ranges) = ([], refl)
end_of (look_at look) = ([], refl)
end_of (group number name tree) = (subtrees_of tree, refl)
end_of (concat trees) = (all_subtrees_of trees, refl)
end_of (alternation trees) = (all_subtrees_of trees, refl)
end_of (repeated repetition tree) = (subtrees_of tree, refl)

pub some_parts : (tree : Tree) → 1 ≤ length (subtrees_of tree)
some_parts tree = let end = end_of tree in omega (arith, ap length end.1, length-append end.0 (tree ∷ []))

-- the root is the tree
pub root_is : (parts : List Tree) (k : ℕ) (tree : Tree) → Stands parts k (subtrees_of tree) → part_at parts k ≡ tree
root_is parts k tree stands =
    let end = end_of tree in
    let whole : parts ≡ (stands.front ++ end.0) ++ (tree ∷ stands.rest) =
    stands.whole ∙ ap (λ x. stands.front ++ (x ++ stands.rest)) end.1 ∙ ap (λ x. stands.front ++ x) (append_assoc end.0 (tree ∷ []) stands.rest) ∙ sym (append_assoc stands.front end.0 (tree ∷ stands.rest)) in
    let at : k ≡ length (stands.front ++ end.0) + 0 = omega (arith, stands.root, length-append stands.front end.0, ap length end.1, length-append end.0 (tree ∷ [])) in
    ap₂ (λ xs i. get_or xs i empty) whole at ∙ get_or-append-add (stands.front ++ end.0) (tree ∷ stands.rest) 0 empty

pub root_below : (parts : List Tree) (k : ℕ) (some : List Tree) → Stands parts k some → k < length parts
root_below parts k some stands =
    omega (arith, stands.root, ap length stands.whole, length-append stands.front (some ++ stands.rest), length-append some stands.rest)

-- of two rows in sequence
pub stands_first : (parts : List Tree) (k : ℕ) (first second : List Tree) → 1 ≤ length first → Stands parts k (first ++ second) → Stands parts (k - length second) first
stands_first parts k first second some stands = record {
  front = stands.front;
  rest = second ++ stands.rest;
  whole = stands.whole ∙ ap (λ x. stands.front ++ x) (append_assoc first second stands.rest);
  root = omega (arith, stands.root, length-append first second, some);
}

pub stands_second : (parts : List Tree) (k : ℕ) (first second : List Tree) → Stands parts k (first ++ second) → Stands parts k second
stands_second parts k first second stands = record {
  front = stands.front ++ first;
  rest = stands.rest;
  whole = stands.whole ∙ ap (λ x. stands.front ++ x) (append_assoc first second stands.rest) ∙ sym (append_assoc stands.front first (second ++ stands.rest));
  root = omega (arith, stands.root, length-append first second, length-append stands.front first);
}

-- what is inside a row of two
within : (parts front first second rest : List Tree) (k : ℕ) → parts ≡ front ++ ((first ++ second) ++ rest)
    → (parts ≡ front ++ (first ++ (second ++ rest))) × (parts ≡ (front ++ first) ++ (second ++ rest))
within parts front first second rest k e =
    let one = e ∙ ap (λ x. front ++ x) (append_assoc first second rest) in (one, one ∙ sym (append_assoc front first (second ++ rest)))

-- each root among all parts is that of a part of its own
abbrev Inside : List Tree → List Tree → Type 0
Inside parts some = (front rest : List Tree) → parts ≡ front ++ (some ++ rest) → (k : ℕ) → length front ≤ k → k < length front + length some → Stands parts k (subtrees_of (part_at parts k))

either_part : (parts first second : List Tree) → Inside parts first → Inside parts second → Inside parts (first ++ second)
either_part parts first second in_first in_second front rest e k low high = by_place (before_or_not k (length front + length first))
  where
    before_or_not : (k n : ℕ) → (k < n) ⊎ (n ≤ k)
    before_or_not k n = grind arith

    by_place : (k < length front + length first) ⊎ (length front + length first ≤ k) → Stands parts k (subtrees_of (part_at parts k))
    by_place (inl below) = in_first front (second ++ rest) (within parts front first second rest k e).0 k low below
    by_place (inr above) = in_second (front ++ first) rest (within parts front first second rest k e).1 k (omega (arith, above, length-append front first)) (omega (arith, high, length-append first second, length-append front first))

whole_part : (parts : List Tree) (inner : List Tree) (tree : Tree) → subtrees_of tree ≡ inner ++ tree ∷ [] → Inside parts inner → Inside parts (inner ++ tree ∷ [])
whole_part parts inner tree is in_inner front rest e k low high = by_place (before_or_last k (length front + length inner) (omega (arith, high, length-append inner (tree ∷ []))))
  where
    before_or_last : (k n : ℕ) → k < n + 1 → (k < n) ⊎ (k ≡ n)
    before_or_last k n h = grind arith

    by_place : (k < length front + length inner) ⊎ (k ≡ length front + length inner) → Stands parts k (subtrees_of (part_at parts k))
    by_place (inl below) = in_inner front (tree ∷ rest) (within parts front inner (tree ∷ []) rest k e).0 k low below
    by_place (inr last) =
        let stands : Stands parts k (subtrees_of tree) = record {
          front = front;
          rest = rest;
          whole = e ∙ ap (λ x. front ++ (x ++ rest)) (sym is);
          root = omega (arith, last, ap length is, length-append inner (tree ∷ []));
        } in
        subst (λ x. Stands parts k (subtrees_of x)) (sym (root_is parts k tree stands)) stands

no_part : (parts : List Tree) → Inside parts []
no_part parts front rest e k low high = absurd (omega (arith, low, high))

mutual
  inside : (parts : List Tree) (tree : Tree) → Inside parts (subtrees_of tree)
  inside parts empty = whole_part parts [] empty refl (no_part parts)
  inside parts (one_of ranges) = whole_part parts [] (one_of ranges) refl (no_part parts)
  inside parts (look_at look) = whole_part parts [] (look_at look) refl (no_part parts)
  inside parts (group number name tree) = whole_part parts (subtrees_of tree) (group number name tree) refl (inside parts tree)
  inside parts (concat trees) = whole_part parts (all_subtrees_of trees) (concat trees) refl (all_inside parts trees)
  inside parts (alternation trees) = whole_part parts (all_subtrees_of trees) (alternation trees) refl (all_inside parts trees)
  inside parts (repeated repetition tree) = whole_part parts (subtrees_of tree) (repeated repetition tree) refl (inside parts tree)

  all_inside : (parts : List Tree) (trees : Trees) → Inside parts (all_subtrees_of trees)
  all_inside parts (two first second) = either_part parts (subtrees_of first) (subtrees_of second) (inside parts first) (inside parts second)
  all_inside parts (more first others) = either_part parts (subtrees_of first) (all_subtrees_of others) (inside parts first) (all_inside parts others)

pub each_stands : (tree : Tree) (k : ℕ) → k < length (subtrees_of tree) → Stands (subtrees_of tree) k (subtrees_of (part_at (subtrees_of tree) k))
each_stands tree k below = inside (subtrees_of tree) tree [] [] (sym (append-nil (subtrees_of tree))) k (omega arith) (omega (arith, below))

-- trees in a row, the last one first
abbrev pub rev_subtrees : List Tree → List Tree
rev_subtrees [] = []
rev_subtrees (tree ∷ trees) = rev_subtrees trees ++ subtrees_of tree

pub record IsRow (parts : List Tree) (count k : ℕ) (trees : List Tree) : Type 0 where
  pub has : HasPartsBefore parts count k
  pub is : trees_before parts count k ≡ trees

pub row_back : (parts : List Tree) (k : ℕ) (trees : List Tree) → Stands parts k (rev_subtrees trees) → IsRow parts (length trees) k (reverse trees)
row_back parts k [] stands = record { has = tt; is = refl }
row_back parts k (tree ∷ trees) stands =
    let own : Stands parts k (subtrees_of tree) = stands_second parts k (rev_subtrees trees) (subtrees_of tree) stands in
    let here = root_is parts k tree own in
    let before : IsRow parts (length trees) (k - length (subtrees_of (part_at parts k))) (reverse trees) =
    subst (λ x. IsRow parts (length trees) (k - length (subtrees_of x)) (reverse trees)) (sym here) (others trees (row_back parts (k - length (subtrees_of tree)) trees) stands) in
    record {
      has = (root_below parts k (subtrees_of tree) own, before.has);
      is = ap₂ (λ xs x. xs ++ x ∷ []) before.is here ∙ sym (reverse-append (tree ∷ []) trees);
    }
  where
    others : (trees : List Tree) → (Stands parts (k - length (subtrees_of tree)) (rev_subtrees trees) → IsRow parts (length trees) (k - length (subtrees_of tree)) (reverse trees))
        → Stands parts k (rev_subtrees trees ++ subtrees_of tree) → IsRow parts (length trees) (k - length (subtrees_of tree)) (reverse trees)
    others [] again stands = record { has = tt; is = refl }
    others (next ∷ trees) again stands = again
        (stands_first parts k (rev_subtrees trees ++ subtrees_of next) (subtrees_of tree) (omega (arith, length-append (rev_subtrees trees) (subtrees_of next), some_parts next)) stands)
