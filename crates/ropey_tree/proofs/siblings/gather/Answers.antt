use Rattle.std.proofs.Common.{◌≡◌, ◌+◌, ◌∷◌, [], ◌++◌, get_or, take, ap, sym, ◌∙◌, arith, rules}
use Rattle.std.proofs.lemmas.List.{map_more, take-map}
use Rattle.ropey_tree.specs.Counts.{total}
use Rattle.ropey_tree.specs.Nodes.{all_pieces}
use Rattle.ropey_tree.specs.Siblings.{views}
use Rattle.ropey_tree.proofs.InRow.{bytes-take-le}
use Rattle.ropey_tree.proofs.siblings.gather.Goals as goal

pub with-requires-clause-fits : goal.with-requires-clause-fits
with-requires-clause-fits c =
    let nodes = c.args.nodes.now in
    let i = c.loop-node.node-index in
    let node = c.node-item.result in
    let same : c.in_ok-copy.copy.value ≡ (get_or nodes i node).value = search rules in
    let row = ap (λ us. us ++ c.in_ok-copy.copy.value ∷ []) c.loop-node.invariant.0 ∙ ap (λ v. views (take i nodes) ++ v ∷ []) same ∙ sym (map_more (λ node. node.value) nodes i node c.loop-node-test.true) ∙ sym (take-map (λ node. node.value) (i + 1) nodes) in
    omega (arith, ap (λ us. (total (all_pieces us)).bytes) row, bytes-take-le (views nodes) (i + 1), c.requires.fits)
