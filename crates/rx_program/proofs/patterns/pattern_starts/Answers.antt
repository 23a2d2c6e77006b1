use Rattle.std.proofs.Common.{◌+◌, ◌∷◌, ◌++◌, [], map, drop, ap, ◌∙◌, arith}
use Rattle.rx_grammar.specs.Postorder.{tree_of}
use Rattle.rx_program.specs.Code.{pattern_starts}
use Rattle.rx_program.proofs.ManyLaws.{first_left, size_of_first, starts_on, weights_on}
use Rattle.rx_program.proofs.patterns.pattern_starts.Goals as goal

pub state_count-at-requires : goal.state_count-at-requires
state_count-at-requires c =
    let hirs = c.args.hirs.now in
    let trees = map (λ hir. tree_of hir.now) hirs in
    let k = c.loop-hir.hir-index in
    let first = first_left hirs (λ hir. tree_of hir.now) k c.hir-item.result c.loop-hir-test.true c.hir-item.is in
    omega (arith, c.loop-hir.invariant.room, weights_on (drop k trees) (drop (k + 1) trees) (tree_of c.hir-item.result.now) first)

pub overflow_add-at : goal.overflow_add-at
overflow_add-at c =
    let hirs = c.args.hirs.now in
    let trees = map (λ hir. tree_of hir.now) hirs in
    let k = c.loop-hir.hir-index in
    let tree = tree_of c.hir-item.result.now in
    let first = first_left hirs (λ hir. tree_of hir.now) k c.hir-item.result c.loop-hir-test.true c.hir-item.is in
    omega (arith, c.loop-hir.invariant.room, weights_on (drop k trees) (drop (k + 1) trees) tree first, size_of_first tree, c.state_count-at.ensures)

pub loop-hir-preserved : goal.loop-hir-preserved
loop-hir-preserved c =
    let hirs = c.args.hirs.now in
    let trees = map (λ hir. tree_of hir.now) hirs in
    let k = c.loop-hir.hir-index in
    let tree = tree_of c.hir-item.result.now in
    let at = c.loop-hir.at in
    let more = c.state_count-at.result in
    let first = first_left hirs (λ hir. tree_of hir.now) k c.hir-item.result c.loop-hir-test.true c.hir-item.is in
    record {
      starts = ap (λ xs. xs ++ pattern_starts (drop (k + 1) trees) (at + more)) (c.in_ok-push.ensures.items ∙ ap (λ n. c.loop-hir.starts.items ++ n ∷ []) c.new.ensures)
          ∙ starts_on at (at + more) c.loop-hir.starts.items (drop k trees) (drop (k + 1) trees) tree (pattern_starts trees c.args.at) first (ap (λ n. at + n) c.state_count-at.ensures) c.loop-hir.invariant.starts;
      room = omega (arith, c.loop-hir.invariant.room, weights_on (drop k trees) (drop (k + 1) trees) tree first, size_of_first tree, c.state_count-at.ensures);
    }
