-- A program has no more nodes than its tree weighs.
use Rattle.std.proofs.Common.{ℕ, zero, suc, ◌+◌, ◌-◌, ◌≤◌, Bool, true, false, Option, Some, None, arith}
use Rattle.std.proofs.Math.Nat.{mul-le-mul_left}
use Rattle.rx_grammar.specs.Trees.{Tree, Trees, empty, one_of, look_at, group, concat, alternation, repeated, two, more}
use Rattle.rx_grammar.specs.Weights.{may_be_empty, weight_of, all_weights_of, size_of, all_sizes_of, repeated_weight}

repeated_grows : (n : ℕ) (most : Option ℕ) (s w : ℕ) (may : Bool) → s ≤ w → repeated_weight n most s may ≤ repeated_weight n most w may
repeated_grows n (Some zero) s w may le = omega arith
repeated_grows n (Some (suc m)) s w may le =
    let more : 1 + s ≤ 1 + w = omega (arith, le) in
    omega (arith, mul-le-mul_left n le, mul-le-mul_left (suc m - n) more)
repeated_grows zero None s w false le = omega (arith, le)
repeated_grows zero None s w true le = omega (arith, le)
repeated_grows (suc n) None s w may le = omega (arith, mul-le-mul_left (suc n) le)

mutual
  pub size_le_weight : (tree : Tree) → size_of tree ≤ weight_of tree
  size_le_weight empty = omega arith
  size_le_weight (one_of ranges) = omega arith
  size_le_weight (look_at look) = omega arith
  size_le_weight (group number name tree) = omega (arith, size_le_weight tree)
  size_le_weight (concat trees) = sizes_le_weights trees
  size_le_weight (alternation trees) = omega (arith, sizes_le_weights trees)
  size_le_weight (repeated repetition tree) = repeated_grows repetition.min repetition.max (size_of tree) (weight_of tree) (may_be_empty tree) (size_le_weight tree)

  sizes_le_weights : (trees : Trees) → all_sizes_of trees ≤ all_weights_of trees
  sizes_le_weights (two first second) = omega (arith, size_le_weight first, size_le_weight second)
  sizes_le_weights (more first others) = omega (arith, size_le_weight first, sizes_le_weights others)
