-- The number of groups in every match of a tree, if it is the same for all.
use Rattle.std.specs.Prelude.{ℕ, zero, suc, ◌+◌, ◌==◌, cond, List, [], ◌∷◌, map, Option, Some, None}
use Rattle.rx_grammar.specs.Trees.{Tree, Trees, empty, one_of, look_at, group, concat, alternation, repeated, two, more}

-- the sum, if both are known
abbrev pub both_groups : Option ℕ → Option ℕ → Option ℕ
both_groups (Some n) (Some m) = Some (n + m)
both_groups _ _ = None

-- the number that both are
abbrev pub common_groups : Option ℕ → Option ℕ → Option ℕ
common_groups (Some n) (Some m) = cond (n == m) (Some n) None
common_groups _ _ = None

-- of a repetition, by its least and greatest number and its operand
abbrev pub repeated_groups : ℕ → Option ℕ → Option ℕ → Option ℕ
repeated_groups n (Some zero) groups = Some 0
repeated_groups (suc n) most groups = groups
-- zero times or more: then the operand must have no groups
repeated_groups zero most (Some zero) = Some 0
repeated_groups zero most groups = None

-- the number that all are, or none if there is none
abbrev pub common_of_all : List (Option ℕ) → Option ℕ
common_of_all [] = None
common_of_all (groups ∷ []) = groups
common_of_all (groups ∷ second ∷ others) = common_groups groups (common_of_all (second ∷ others))

abbrev mutual
  pub static_groups : Tree → Option ℕ
  static_groups empty = Some 0
  static_groups (one_of ranges) = Some 0
  static_groups (look_at look) = Some 0
  static_groups (group number name tree) = both_groups (static_groups tree) (Some 1)
  static_groups (concat trees) = all_static_groups trees
  static_groups (alternation trees) = common_static_groups trees
  static_groups (repeated repetition tree) =
      repeated_groups repetition.min repetition.max (static_groups tree)

  pub all_static_groups : Trees → Option ℕ
  all_static_groups (two first second) = both_groups (static_groups first) (static_groups second)
  all_static_groups (more first others) =
      both_groups (static_groups first) (all_static_groups others)

  pub common_static_groups : Trees → Option ℕ
  common_static_groups (two first second) =
      common_groups (static_groups first) (static_groups second)
  common_static_groups (more first others) =
      common_groups (static_groups first) (common_static_groups others)

-- including the whole match, which is a group in each
abbrev pub static_captures_of : Tree → Option ℕ
static_captures_of tree = both_groups (static_groups tree) (Some 1)

-- of several patterns, of which one matches
abbrev pub static_captures_of_all : List Tree → Option ℕ
static_captures_of_all trees = common_of_all (map static_captures_of trees)
