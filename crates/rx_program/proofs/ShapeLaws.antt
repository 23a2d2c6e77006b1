-- What a part is by its node, and where the parts right below it are.
use Rattle.std.proofs.Common.{◌≡◌, ℕ, ◌-◌, ◌<◌, ◌≤◌, List, [], ◌∷◌, ◌++◌, length, Option, refl, subst, arith, length-append}
use Rattle.rx_sets.specs.Sets.{Range}
use Rattle.rx_grammar.specs.declared.hir.Look.{Look}
use Rattle.rx_grammar.specs.declared.hir.Repetition.{Repetition}
use Rattle.rx_grammar.specs.Trees.{Name, Tree, Trees, empty, one_of, look_at, group, concat, alternation, repeated, two, more}
use Rattle.rx_grammar.specs.Subtrees.{an_empty, a_set, a_look, a_group, a_concat, an_alternation, a_repetition, root_of, subtrees_of, all_subtrees_of, how_many}
use Rattle.rx_program.specs.Jobs.{part_at}
use Rattle.rx_program.proofs.PartLaws.{Stands, some_parts, root_is, root_below, stands_first, IsRow}
use Rattle.rx_program.proofs.RowLaws.{trees_in, row_of}

pub empty_by : (t : Tree) → root_of t ≡ an_empty → t ≡ empty
empty_by empty e = refl
empty_by (one_of ranges) e = absurd (cc e)
empty_by (look_at look) e = absurd (cc e)
empty_by (group number name tree) e = absurd (cc e)
empty_by (concat trees) e = absurd (cc e)
empty_by (alternation trees) e = absurd (cc e)
empty_by (repeated repetition tree) e = absurd (cc e)

pub set_by : (t : Tree) (ranges : List Range) → root_of t ≡ a_set ranges → t ≡ one_of ranges
set_by empty r e = absurd (cc e)
set_by (one_of ranges) r e = cc e
set_by (look_at look) r e = absurd (cc e)
set_by (group number name tree) r e = absurd (cc e)
set_by (concat trees) r e = absurd (cc e)
set_by (alternation trees) r e = absurd (cc e)
set_by (repeated repetition tree) r e = absurd (cc e)

pub look_by : (t : Tree) (look : Look) → root_of t ≡ a_look look → t ≡ look_at look
look_by empty r e = absurd (cc e)
look_by (one_of ranges) r e = absurd (cc e)
look_by (look_at look) r e = cc e
look_by (group number name tree) r e = absurd (cc e)
look_by (concat trees) r e = absurd (cc e)
look_by (alternation trees) r e = absurd (cc e)
look_by (repeated repetition tree) r e = absurd (cc e)

pub group_by : (t : Tree) (n : ℕ) (nm : Option Name) → root_of t ≡ a_group n nm → (tree : Tree) × (t ≡ group n nm tree)
group_by empty n nm e = absurd (cc e)
group_by (one_of ranges) n nm e = absurd (cc e)
group_by (look_at look) n nm e = absurd (cc e)
group_by (group number name tree) n nm e = (tree, cc e)
group_by (concat trees) n nm e = absurd (cc e)
group_by (alternation trees) n nm e = absurd (cc e)
group_by (repeated repetition tree) n nm e = absurd (cc e)

pub concat_by : (t : Tree) (count : ℕ) → root_of t ≡ a_concat count → (trees : Trees) × (t ≡ concat trees) × (how_many trees ≡ count)
concat_by empty n e = absurd (cc e)
concat_by (one_of ranges) n e = absurd (cc e)
concat_by (look_at look) n e = absurd (cc e)
concat_by (group number name tree) n e = absurd (cc e)
concat_by (concat trees) n e = (trees, refl, cc e)
concat_by (alternation trees) n e = absurd (cc e)
concat_by (repeated repetition tree) n e = absurd (cc e)

pub alternation_by : (t : Tree) (count : ℕ) → root_of t ≡ an_alternation count → (trees : Trees) × (t ≡ alternation trees) × (how_many trees ≡ count)
alternation_by empty n e = absurd (cc e)
alternation_by (one_of ranges) n e = absurd (cc e)
alternation_by (look_at look) n e = absurd (cc e)
alternation_by (group number name tree) n e = absurd (cc e)
alternation_by (concat trees) n e = absurd (cc e)
alternation_by (alternation trees) n e = (trees, refl, cc e)
alternation_by (repeated repetition tree) n e = absurd (cc e)

pub repetition_by : (t : Tree) (rep : Repetition) → root_of t ≡ a_repetition rep → (tree : Tree) × (t ≡ repeated rep tree)
repetition_by empty n e = absurd (cc e)
repetition_by (one_of ranges) n e = absurd (cc e)
repetition_by (look_at look) n e = absurd (cc e)
repetition_by (group number name tree) n e = absurd (cc e)
repetition_by (concat trees) n e = absurd (cc e)
repetition_by (alternation trees) n e = absurd (cc e)
repetition_by (repeated repetition tree) rep e = (tree, cc e)

-- the one tree right below a node
pub record Child (parts : List Tree) (root : ℕ) (tree : Tree) : Type 0 where
  pub is : part_at parts (root - 1) ≡ tree
  pub below : root - 1 < length parts
  pub some : 1 ≤ root

child : (parts : List Tree) (root : ℕ) (tree own : Tree) → Stands parts root (subtrees_of tree ++ own ∷ []) → Child parts root tree
child parts root tree own stands =
    let inner : Stands parts (root - 1) (subtrees_of tree) = stands_first parts root (subtrees_of tree) (own ∷ []) (some_parts tree) stands in
    record {
      is = root_is parts (root - 1) tree inner;
      below = root_below parts (root - 1) (subtrees_of tree) inner;
      some = omega (arith, stands.root, length-append (subtrees_of tree) (own ∷ []), some_parts tree);
    }

pub group_child : (parts : List Tree) (root number : ℕ) (name : Option Name) (tree : Tree) → part_at parts root ≡ group number name tree → Stands parts root (subtrees_of (part_at parts root)) → Child parts root tree
group_child parts root number name tree is stands = child parts root tree (group number name tree) (subst (λ t. Stands parts root (subtrees_of t)) is stands)

pub repeated_child : (parts : List Tree) (root : ℕ) (rep : Repetition) (tree : Tree) → part_at parts root ≡ repeated rep tree → Stands parts root (subtrees_of (part_at parts root)) → Child parts root tree
repeated_child parts root rep tree is stands = child parts root tree (repeated rep tree) (subst (λ t. Stands parts root (subtrees_of t)) is stands)

some_all : (trees : Trees) → 1 ≤ length (all_subtrees_of trees)
some_all (two first second) = omega (arith, length-append (subtrees_of first) (subtrees_of second), some_parts first)
some_all (more first others) = omega (arith, length-append (subtrees_of first) (all_subtrees_of others), some_parts first)

-- and the trees right below a node
pub record Children (parts : List Tree) (root : ℕ) (trees : Trees) : Type 0 where
  pub row : IsRow parts (how_many trees) (root - 1) (trees_in trees)
  pub some : 1 ≤ root

children : (parts : List Tree) (root : ℕ) (trees : Trees) (own : Tree) → Stands parts root (all_subtrees_of trees ++ own ∷ []) → Children parts root trees
children parts root trees own stands = record {
  row = row_of parts (root - 1) trees (stands_first parts root (all_subtrees_of trees) (own ∷ []) (some_all trees) stands);
  some = omega (arith, stands.root, length-append (all_subtrees_of trees) (own ∷ []), some_all trees);
}

pub concat_children : (parts : List Tree) (root : ℕ) (trees : Trees) → part_at parts root ≡ concat trees → Stands parts root (subtrees_of (part_at parts root)) → Children parts root trees
concat_children parts root trees is stands = children parts root trees (concat trees) (subst (λ t. Stands parts root (subtrees_of t)) is stands)

pub alternation_children : (parts : List Tree) (root : ℕ) (trees : Trees) → part_at parts root ≡ alternation trees → Stands parts root (subtrees_of (part_at parts root)) → Children parts root trees
alternation_children parts root trees is stands = children parts root trees (alternation trees) (subst (λ t. Stands parts root (subtrees_of t)) is stands)
