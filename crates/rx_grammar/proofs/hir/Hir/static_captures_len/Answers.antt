use Rattle.std.proofs.Common.{◌≡◌, ◌+◌, ◌<◌, ◌^◌, Some, None, length, map, sym, ap, ◌∙◌, arith}
use Rattle.std.proofs.lemmas.List.{length-map}
use Rattle.rx_grammar.specs.declared.properties.Properties.{Properties}
use Rattle.rx_grammar.specs.Subtrees.{subtrees_of}
use Rattle.rx_grammar.specs.StaticGroups.{static_groups, both_groups}
use Rattle.rx_grammar.specs.Postorder.{tree_of}
use Rattle.rx_grammar.specs.Nodes.{properties_of}
use Rattle.rx_grammar.proofs.RowLaws.{last_known}
use Rattle.rx_grammar.proofs.StaticGroupLaws.{static_groups-less, told_some}
use Rattle.rx_grammar.proofs.hir.Hir.static_captures_len.Goals as goal

pub returns-in_err-whole-2 : goal.returns-in_err-whole-2
returns-in_err-whole-2 c =
    let whole = c.in_ok-whole.whole.now in
    let is = c.deref.ensures.value ∙ c.self.invariant.known ∙ ap (λ x. map properties_of (subtrees_of (tree_of x))) c.self.view_is in
    let known = last_known (tree_of c.args.self.now) c.deref.result.now whole is c.in_ok-whole.ensures.item.1 in
    let groups : static_groups (tree_of c.args.self.now) ≡ None = sym (ap (λ (p : Properties). p.static_groups) known) ∙ c.in_err-whole-2.was in
    c.from_residual-in_err-whole-2.ensures ∙ sym (ap (λ a. both_groups a (Some 1)) groups)

pub returns : goal.returns
returns c =
    let tree = tree_of c.args.self.now in
    let whole = c.in_ok-whole.whole.now in
    let properties = c.self.inside.properties in
    let list = c.self.invariant.known ∙ ap (λ x. map properties_of (subtrees_of (tree_of x))) c.self.view_is in
    let known = last_known tree c.deref.result.now whole (c.deref.ensures.value ∙ list) c.in_ok-whole.ensures.item.1 in
    let groups : static_groups tree ≡ Some c.in_ok-whole-2.field-0 = sym (ap (λ (p : Properties). p.static_groups) known) ∙ c.in_ok-whole-2.was in
    let len : length properties.items ≡ length (subtrees_of tree) = ap length list ∙ length-map (subtrees_of tree) properties_of in
    let fits : c.in_ok-whole-2.field-0 + 1 < 2 ^ 64 = omega (arith, static_groups-less tree groups, len, properties.ok.0, properties.small) in
    told_some c.checked_add.result (c.in_ok-whole-2.field-0 + 1 < 2 ^ 64) (c.in_ok-whole-2.field-0 + 1) c.checked_add.ensures fits
    ∙ sym (ap (λ a. both_groups a (Some 1)) groups)
