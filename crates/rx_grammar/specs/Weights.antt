-- The weight of a pattern: the size of its program.
use Rattle.std.specs.Prelude.{ℕ, zero, suc, ◌+◌, ◌*◌, ◌-◌, ◌^◌, Bool, true, false, ◌==◌, ◌&&◌, ◌||◌, length, min, Option, Some, None}
use Rattle.rx_grammar.specs.Trees.{Tree, Trees, empty, one_of, look_at, group, concat, alternation, repeated, two, more}

-- some path through a tree's program takes no character, whatever look-around assertions are on the
-- path
abbrev mutual
  pub may_be_empty : Tree → Bool
  may_be_empty empty = true
  may_be_empty (one_of ranges) = false
  may_be_empty (look_at look) = true
  may_be_empty (group number name tree) = may_be_empty tree
  may_be_empty (concat trees) = all_may_be_empty trees
  may_be_empty (alternation trees) = any_may_be_empty trees
  may_be_empty (repeated repetition tree) = (repetition.min == 0) || may_be_empty tree

  pub all_may_be_empty : Trees → Bool
  all_may_be_empty (two first second) = may_be_empty first && may_be_empty second
  all_may_be_empty (more first others) = may_be_empty first && all_may_be_empty others

  pub any_may_be_empty : Trees → Bool
  any_may_be_empty (two first second) = may_be_empty first || may_be_empty second
  any_may_be_empty (more first others) = may_be_empty first || any_may_be_empty others

-- the weight of a repetition, by its least and greatest number, its operand's weight, and whether
-- the operand may be empty; also the size, by its operand's size
abbrev pub repeated_weight : ℕ → Option ℕ → ℕ → Bool → ℕ
-- h{0}: like the empty pattern
repeated_weight n (Some zero) w may = 1
-- h{n,m}: n copies, then m - n optional copies, each inside the one before
repeated_weight n (Some (suc m)) w may = n * w + (suc m - n) * (1 + w)
-- h*, h{0,}: a loop
repeated_weight zero None w false = 1 + w
-- if h may be empty: an optional loop
repeated_weight zero None w true = 2 + w
-- h+, h{n,}: n copies, and a jump back to the last one
repeated_weight (suc n) None w may = suc n * w + 1

abbrev mutual
  pub weight_of : Tree → ℕ
  weight_of empty = 1
  weight_of (one_of ranges) = 1 + length ranges
  weight_of (look_at look) = 1
  weight_of (group number name tree) = 2 + weight_of tree
  weight_of (concat trees) = all_weights_of trees
  weight_of (alternation trees) = 1 + all_weights_of trees
  weight_of (repeated repetition tree) = repeated_weight repetition.min repetition.max (weight_of tree) (may_be_empty tree)

  pub all_weights_of : Trees → ℕ
  all_weights_of (two first second) = weight_of first + weight_of second
  all_weights_of (more first others) = weight_of first + all_weights_of others

-- the number of nodes of a tree's program: the weight without the ranges of sets
abbrev mutual
  pub size_of : Tree → ℕ
  size_of empty = 1
  size_of (one_of ranges) = 1
  size_of (look_at look) = 1
  size_of (group number name tree) = 2 + size_of tree
  size_of (concat trees) = all_sizes_of trees
  size_of (alternation trees) = 1 + all_sizes_of trees
  size_of (repeated repetition tree) = repeated_weight repetition.min repetition.max (size_of tree) (may_be_empty tree)

  pub all_sizes_of : Trees → ℕ
  all_sizes_of (two first second) = size_of first + size_of second
  all_sizes_of (more first others) = size_of first + all_sizes_of others

-- the weight of a whole pattern, with the group of the whole match and the end
abbrev pub pattern_weight : Tree → ℕ
pattern_weight tree = 3 + weight_of tree

-- a number capped at the greatest one that is stored
abbrev pub held : ℕ → ℕ
held n = min n (2 ^ 64 - 1)
