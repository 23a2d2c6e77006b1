use Rattle.std.proofs.Common.{◌+◌, ◌-◌, ◌<◌, ◌^◌, length, Fits, w64, sym, ap, subst, ◌∙◌, arith}
use Rattle.rx_grammar.specs.Subtrees.{subtrees_of}
use Rattle.rx_grammar.specs.Postorder.{tree_of}
use Rattle.rx_grammar.specs.Weights.{size_of}
use Rattle.rx_program.specs.Jobs.{part_at}
use Rattle.rx_program.proofs.FactLaws.{known_any}
use Rattle.rx_program.proofs.PatternLaws.{whole_root}
use Rattle.rx_program.proofs.patterns.state_count.Goals as goal

pub overflow_add-result : goal.overflow_add-result
overflow_add-result c =
    let tree = tree_of c.args.hir.now in
    let root = whole_root tree c.nodes.result.now (c.nodes.ensures.nodes ∙ c.nodes.ensures.exact) c.requires in
    let same = ap size_of root.is in
    let small : size_of (part_at (subtrees_of tree) (length c.nodes.result.now - 1)) + 1 < 2 ^ 64 = omega (arith, root.small, same) in
    subst (λ n. Fits w64 (3 + n)) (sym ((known_any (subtrees_of tree) c.properties.result.now (length c.nodes.result.now - 1) _ c.properties.ensures root.below).size small)) (omega (arith, root.small, same))

pub returns : goal.returns
returns c =
    let tree = tree_of c.args.hir.now in
    let root = whole_root tree c.nodes.result.now (c.nodes.ensures.nodes ∙ c.nodes.ensures.exact) c.requires in
    let same = ap size_of root.is in
    let small : size_of (part_at (subtrees_of tree) (length c.nodes.result.now - 1)) + 1 < 2 ^ 64 = omega (arith, root.small, same) in
    ap (λ n. 3 + n) ((known_any (subtrees_of tree) c.properties.result.now (length c.nodes.result.now - 1) _ c.properties.ensures root.below).size small ∙ same)
