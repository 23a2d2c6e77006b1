use Rattle.std.proofs.Common.{◌+◌, map, drop, arith}
use Rattle.rx_grammar.specs.Postorder.{tree_of}
use Rattle.rx_program.specs.Sizes.{weight_of_all}
use Rattle.rx_program.proofs.ManyLaws.{first_left, weight_on}
use Rattle.rx_program.proofs.patterns.weight_of_all.Goals as goal

pub loop-hir-preserved : goal.loop-hir-preserved
loop-hir-preserved c =
    let hirs = c.args.hirs.now in
    let trees = map (λ hir. tree_of hir.now) hirs in
    let k = c.loop-hir.hir-index in
    let first = first_left hirs (λ hir. tree_of hir.now) k c.hir-item.result c.loop-hir-test.true c.hir-item.is in
    record {
      weight = weight_on c.loop-hir.weight c.saturating_add-weight.result c.weight.result (drop k trees) (drop (k + 1) trees) (tree_of c.hir-item.result.now) (weight_of_all trees) first c.weight.ensures c.saturating_add-weight.ensures c.loop-hir.invariant.weight;
      fits = omega (arith, c.saturating_add-weight.ensures);
    }
