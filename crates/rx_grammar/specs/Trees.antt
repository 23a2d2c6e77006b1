-- Syntax trees of patterns, without simplification.
use Rattle.std.specs.Prelude.{ℕ, List, [], ◌∷◌, ◌++◌, Option}
use Rattle.std.specs.Option.{option_to_list}
use Rattle.rx_grammar.specs.declared.hir.Look.{Look}
use Rattle.rx_grammar.specs.declared.hir.Repetition.{Repetition}
use Rattle.rx_grammar.specs.Sets.{Range}

-- the name of a group, as its characters: these are ASCII, so they are its bytes too
abbrev pub Name : Type 0
Name = List ℕ

mutual
  pub data Tree : Type 0 where
    -- the empty pattern
    empty : Tree
    -- one character of a set
    one_of : List Range → Tree
    look_at : Look → Tree
    -- a numbered group, possibly with a name
    group : ℕ → Option Name → Tree → Tree
    concat : Trees → Tree
    alternation : Trees → Tree
    repeated : Repetition → Tree → Tree

  -- two trees or more, in order
  pub data Trees : Type 0 where
    two : Tree → Tree → Trees
    more : Tree → Trees → Trees

abbrev pub in_a_row : Tree → Tree → List Tree → Trees
in_a_row first second [] = two first second
in_a_row first second (third ∷ others) = more first (in_a_row second third others)

-- the concatenation of items
abbrev pub concat_of : List Tree → Tree
concat_of [] = empty
concat_of (item ∷ []) = item
concat_of (first ∷ second ∷ others) = concat (in_a_row first second others)

-- the alternation of branches
abbrev pub alternation_of : Tree → List Tree → Tree
alternation_of first [] = first
alternation_of first (second ∷ others) = alternation (in_a_row first second others)

-- the names of the groups, in the order in which these close
abbrev mutual
  pub names_of : Tree → List Name
  names_of empty = []
  names_of (one_of ranges) = []
  names_of (look_at look) = []
  names_of (group number name tree) = names_of tree ++ option_to_list name
  names_of (concat trees) = all_names_of trees
  names_of (alternation trees) = all_names_of trees
  names_of (repeated repetition tree) = names_of tree

  pub all_names_of : Trees → List Name
  all_names_of (two first second) = names_of first ++ names_of second
  all_names_of (more first others) = names_of first ++ all_names_of others

-- the numbers of the groups, in the order in which these open
abbrev mutual
  pub numbers_of : Tree → List ℕ
  numbers_of empty = []
  numbers_of (one_of ranges) = []
  numbers_of (look_at look) = []
  numbers_of (group number name tree) = number ∷ numbers_of tree
  numbers_of (concat trees) = all_numbers_of trees
  numbers_of (alternation trees) = all_numbers_of trees
  numbers_of (repeated repetition tree) = numbers_of tree

  pub all_numbers_of : Trees → List ℕ
  all_numbers_of (two first second) = numbers_of first ++ numbers_of second
  all_numbers_of (more first others) = numbers_of first ++ all_numbers_of others
