use Rattle.std.proofs.Common.{◌≡◌, ◌+◌, ◌<◌, ◌^◌, drop, map}
use Rattle.rx_grammar.specs.Postorder.{tree_of}
use Rattle.rx_grammar.specs.Weights.{held}
use Rattle.rx_program.specs.Sizes.{sum_of_weights, weight_of_all}
use Rattle.rx_program.proofs.patterns.weight_of_all.Given as goal

-- the weight of the patterns so far, and of those that are left
abbrev pub invariant-loop-hir : goal.invariant-loop-hir
invariant-loop-hir l =
    let trees = map (λ hir. tree_of hir.now) l.hirs in
    record {
      weight : held (l.weight + sum_of_weights (drop l.hir-index trees)) ≡ held (weight_of_all trees);
      fits : l.weight < 2 ^ 64;
    }
