-- What a text spells is well formed.
use Rattle.std.proofs.Common.{◌≡◌, ℕ, ◌≤◌, Bool, List, [], ◌∷◌, ◌++◌, append-nil, All, Option, sym, ap, subst, arith}
use Rattle.std.specs.List.{flat_map}
use Rattle.std.proofs.lemmas.List.Elements.{All-nil, All-append, All-push, All-map}
use Rattle.rx_grammar.specs.Settings.{Settings}
use Rattle.rx_grammar.specs.declared.hir.Repetition.{Repetition}
use Rattle.rx_grammar.specs.Trees.{Tree, empty, concat, alternation, repeated, group, in_a_row, concat_of, alternation_of}
use Rattle.rx_grammar.specs.Subtrees.{a_repetition, root_of, subtrees_of, all_subtrees_of, IsMost, IsBounded, IsWellFormed}
use Rattle.rx_grammar.specs.Repetitions.{CountInBraces, exactly, at_least, between, Count, star, plus, question, in_braces, Postfix, alone, marked, Postfixes, ended as no_more, further}
use Rattle.rx_grammar.specs.Groups.{numbered, unnumbered}
use Rattle.rx_grammar.specs.Grammar.{Escape, character, letter_class, look, PlainAtom, literal, dot, caret, dollar, escape, class, Atom, plain_atom, group as a_group, Items, ended, setting, item, Branches, last, bar, Spells}
use Rattle.rx_grammar.proofs.NumberLaws.{numbered_in_order}
use Rattle.rx_grammar.proofs.FewLaws.{few_groups}
use Rattle.rx_grammar.proofs.SubtreeLaws.{all_subtrees}

braces_bounded : {t u : List ℕ} {n : ℕ} {m : Option ℕ} → CountInBraces t n m u → (n ≤ 65535) × IsMost n m
braces_bounded (exactly number e) = (number.fits, (omega arith, number.fits))
braces_bounded (at_least number e e') = (number.fits, tt)
braces_bounded (between least e most e' order) = (least.fits, (order, most.fits))

count_bounded : {t u : List ℕ} {n : ℕ} {m : Option ℕ} → Count t n m u → (n ≤ 65535) × IsMost n m
count_bounded (star e) = (omega arith, tt)
count_bounded (plus e) = (omega arith, tt)
count_bounded (question e) = (omega arith, (omega arith, omega arith))
count_bounded (in_braces e count) = braces_bounded count

postfix_bounded : {swap : Bool} {t u : List ℕ} {r : Repetition} → Postfix swap t r u → IsBounded (a_repetition r)
postfix_bounded (alone count none) = count_bounded count
postfix_bounded (marked count e) = count_bounded count

-- the repetitions among these trees are in bounds
abbrev InBounds : List Tree → Type 0
InBounds trees = All (λ (tree : Tree). IsBounded (root_of tree)) trees

one_bounded : (tree : Tree) → IsBounded (root_of tree) → InBounds (tree ∷ [])
one_bounded tree is = All-push (λ (x : Tree). IsBounded (root_of x)) [] tree (All-nil (λ (x : Tree). IsBounded (root_of x))) is

more_bounded : (trees : List Tree) (tree : Tree) → InBounds trees → IsBounded (root_of tree) → InBounds (trees ++ tree ∷ [])
more_bounded trees tree all is = All-push (λ (x : Tree). IsBounded (root_of x)) trees tree all is

bounded_along : {trees others : List Tree} → trees ≡ others → InBounds others → InBounds trees
bounded_along e all = subst InBounds (sym e) all

concat_bounded : (items : List Tree) → InBounds (flat_map subtrees_of items) → InBounds (subtrees_of (concat_of items))
concat_bounded [] all = one_bounded empty tt
concat_bounded (only ∷ []) all = bounded_along (sym (append-nil (subtrees_of only))) all
concat_bounded (first ∷ second ∷ others) all =
    more_bounded (all_subtrees_of (in_a_row first second others)) (concat (in_a_row first second others)) (bounded_along (all_subtrees first second others) all) tt

alternation_bounded : (first : Tree) (others : List Tree) → InBounds (flat_map subtrees_of (first ∷ others)) → InBounds (subtrees_of (alternation_of first others))
alternation_bounded only [] all = bounded_along (sym (append-nil (subtrees_of only))) all
alternation_bounded first (second ∷ others) all =
    more_bounded (all_subtrees_of (in_a_row first second others)) (alternation (in_a_row first second others)) (bounded_along (all_subtrees first second others) all) tt

postfixes_bounded : {swap : Bool} {h g : Tree} {d e : ℕ} {t u : List ℕ} → Postfixes swap h d t g e u → InBounds (subtrees_of h) → InBounds (subtrees_of g)
postfixes_bounded (no_more stops) all = all
postfixes_bounded {h = h} (further {r = r} one others) all = postfixes_bounded others (more_bounded (subtrees_of h) (repeated r h) all (postfix_bounded one))

escape_bounded : {s : Settings} {t u : List ℕ} {h : Tree} → Escape s t h u → InBounds (subtrees_of h)
escape_bounded (character one is) = one_bounded _ tt
escape_bounded (letter_class kind negated e is) = one_bounded _ tt
escape_bounded (look letter e f) = one_bounded _ tt

plain_bounded : {s : Settings} {t u : List ℕ} {h : Tree} → PlainAtom s t h u → InBounds (subtrees_of h)
plain_bounded (literal e is_one is) = one_bounded _ tt
plain_bounded (dot e allowed is) = one_bounded _ tt
plain_bounded (caret e) = one_bounded _ tt
plain_bounded (dollar e) = one_bounded _ tt
plain_bounded (escape e one) = escape_bounded one
plain_bounded (class e one is) = one_bounded _ tt

both_bounded : (xs ys : List Tree) → InBounds xs → InBounds ys → InBounds (xs ++ ys)
both_bounded xs ys all all' = All-append (λ (x : Tree). IsBounded (root_of x)) xs ys all all'

mutual
  atom_bounded : {s : Settings} {m n d : ℕ} {t u : List ℕ} {h : Tree} → Atom s m t h d n u → InBounds (subtrees_of h)
  atom_bounded (plain_atom one) = plain_bounded one
  atom_bounded {m = m} (a_group {h = h} {hs = hs} {k = numbered name} opening inside close) =
      more_bounded (subtrees_of (alternation_of h hs)) (group _ name (alternation_of h hs)) (alternation_bounded h hs (branches_bounded inside)) tt
  atom_bounded (a_group {h = h} {hs = hs} {k = unnumbered} opening inside close) = alternation_bounded h hs (branches_bounded inside)

  items_bounded : {s z : Settings} {m n d : ℕ} {t u : List ℕ} {hs : List Tree} → Items s m t hs d z n u → InBounds (flat_map subtrees_of hs)
  items_bounded (ended stops) = All-nil (λ (x : Tree). IsBounded (root_of x))
  items_bounded (setting one others) = items_bounded others
  items_bounded (item {g = g} {hs = hs} one postfixes others) =
      both_bounded (subtrees_of g) (flat_map subtrees_of hs) (postfixes_bounded postfixes (atom_bounded one)) (items_bounded others)

  branches_bounded : {s z : Settings} {m n d : ℕ} {t u : List ℕ} {h : Tree} {hs : List Tree} → Branches s m t h hs d z n u → InBounds (flat_map subtrees_of (h ∷ hs))
  branches_bounded (last {hs = hs} items stops) = bounded_along (append-nil (subtrees_of (concat_of hs))) (concat_bounded hs (items_bounded items))
  branches_bounded (bar {g = g} {hs = hs} {gs = gs} items e others) =
      both_bounded (subtrees_of (concat_of hs)) (flat_map subtrees_of (g ∷ gs)) (concat_bounded hs (items_bounded items)) (branches_bounded others)

pub well_formed : {text : List ℕ} {settings : Settings} {tree : Tree} → Spells text settings tree → IsWellFormed tree
well_formed {text = text} {settings = settings} {tree = tree} spells = record {
  numbered = numbered_in_order text settings tree spells;
  few = few_groups text settings tree spells;
  names = spells.names;
  repetitions = All-map IsBounded root_of (subtrees_of tree)
      (bounded_along (ap subtrees_of spells.tree_is) (alternation_bounded spells.first spells.others (branches_bounded spells.whole)));
}
