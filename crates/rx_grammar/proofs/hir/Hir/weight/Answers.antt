use Rattle.std.proofs.Common.{◌≡◌, ◌-◌, length, get_or, map, ap, ◌∙◌}
use Rattle.rx_grammar.specs.declared.properties.Properties.{Properties}
use Rattle.rx_grammar.specs.Subtrees.{subtrees_of}
use Rattle.rx_grammar.specs.Postorder.{tree_of}
use Rattle.rx_grammar.specs.Nodes.{properties_of}
use Rattle.rx_grammar.proofs.RowLaws.{last_known, whole-weight}
use Rattle.rx_grammar.proofs.hir.Hir.weight.Goals as goal

pub returns-in-Some : goal.returns-in-Some
returns-in-Some c =
    let whole = c.in-Some.whole.now in
    let list = c.deref.result.now in
    let tree = tree_of c.args.self.now in
    let at : whole ≡ get_or list (length list - 1) whole = rw c.in-Some.is at c.last.ensures.item.1 in
    let is = c.deref.ensures.value ∙ c.self.invariant.known ∙ ap (λ x. map properties_of (subtrees_of (tree_of x))) c.self.view_is in
    let known = last_known tree list whole is at in
    c.saturating_add.ensures ∙ whole-weight tree whole.weight (ap (λ (p : Properties). p.weight) known)
