use Rattle.std.proofs.Common.{◌≡◌, ◌+◌, length, map, take, ap, sym, ◌∙◌, arith}
use Rattle.rx_grammar.specs.Postorder.{tree_of}
use Rattle.rx_grammar.specs.Trees.{numbers_of}
use Rattle.rx_engine.specs.Engines.{captures_len_of}
use Rattle.rx_engine.proofs.GroupLaws.{one_more_counted, taken_all, taken_more}
use Rattle.rx_engine.proofs.groups.count_groups.Goals as goal

pub loop-hir-preserved : goal.loop-hir-preserved
loop-hir-preserved c =
    let hirs = c.args.hirs.now in
    let trees = map (λ hir. tree_of hir.now) hirs in
    let k = c.loop-hir.hir-index in
    let tree = tree_of c.hir-item.result.now in
    let more = taken_more hirs (λ hir. tree_of hir.now) k c.hir-item.result c.loop-hir-test.true c.hir-item.is in
    let grown : captures_len_of (take (k + 1) trees) ≡ captures_len_of (take k trees) + (length (numbers_of tree) + 1) = ap captures_len_of more ∙ one_more_counted (take k trees) tree in
    let added : c.in_ok-len.len ≡ c.loop-hir.len + (length (numbers_of tree) + 1) = omega (arith, c.in_ok-len.ensures, c.in_ok-checked_add.ensures, c.group_count.ensures.count) in
    added ∙ ap (λ n. n + (length (numbers_of tree) + 1)) c.loop-hir.invariant ∙ sym grown

pub returns : goal.returns
returns c =
    let hirs = c.args.hirs.now in
    c.loop-hir.invariant ∙ ap captures_len_of (taken_all hirs (λ hir. tree_of hir.now) c.loop-hir.hir-index c.loop-hir-test.false)
