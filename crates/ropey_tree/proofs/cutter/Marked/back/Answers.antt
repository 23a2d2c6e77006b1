use Rattle.std.proofs.Common.{◌≡◌, ◌++◌, ap, sym, take, ◌∙◌}
use Rattle.std.specs.List.{concat}
use Rattle.std.proofs.lemmas.List.{take-map}
use Rattle.ropey_tree.specs.Nodes.{all_pieces}
use Rattle.ropey_tree.specs.Siblings.{views}
use Rattle.ropey_tree.proofs.cutter.Marked.back.Goals as goal

pub invariant_of-result : goal.invariant_of-result
invariant_of-result c =
    let same : views c.truncate.new.self.items ≡ take c.self.inside.mark (views c.self.inside.leaves.items) =
    ap views c.truncate.ensures.items ∙ sym (take-map (λ node. node.value) c.self.inside.mark c.self.inside.leaves.items) in
    rw same c.self.invariant.1

pub returns : goal.returns
returns c =
    let same : views c.truncate.new.self.items ≡ take c.self.inside.mark (views c.self.inside.leaves.items) =
    ap views c.truncate.ensures.items ∙ sym (take-map (λ node. node.value) c.self.inside.mark c.self.inside.leaves.items) in
    ap (λ leaves. concat (all_pieces leaves) ++ c.self.inside.rest_at_mark) same ∙ ap (λ v. v.mark) c.self.view_is
