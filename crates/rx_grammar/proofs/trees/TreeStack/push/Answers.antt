use Rattle.std.proofs.Common.{◌≡◌, ◌+◌, ◌-◌, ◌<◌, ◌^◌, [], ◌∷◌, ◌++◌, map, take, sym, ap, subst, ◌∙◌, arith}
use Rattle.std.proofs.lemmas.List.{map-append}
use Rattle.rx_grammar.specs.Postorder.{after_node, trees_of, first_of}
use Rattle.rx_grammar.specs.Rows.{MayFollow, AreRowProperties, AreStacked}
use Rattle.rx_grammar.specs.Nodes.{kind_of, properties_of}
use Rattle.rx_grammar.proofs.StackLaws.{trees_of-push, length-trees_of}
use Rattle.rx_grammar.proofs.SubtreeLaws.{AreStacked-push}
use Rattle.rx_grammar.proofs.trees.TreeStack.push.Goals as goal

pub overflow_add-self : goal.overflow_add-self
overflow_add-self c =
    let nodes = c.self.inside.nodes in
    let small : c.self.inside.height < 2 ^ 63 = omega (arith, c.self.invariant.counted, length-trees_of nodes.items, nodes.ok.0, nodes.small) in
    omega (arith, small)

pub invariant_of-self-2 : goal.invariant_of-self-2
invariant_of-self-2 c =
    let node = kind_of c.args.node in
    let nodes = map kind_of c.self.inside.nodes.items in
    let height = c.self.inside.height - c.width-width.result + 1 in
    let trees = trees_of c.args.self.now in
    let may : MayFollow (trees_of nodes) node = subst (λ x. MayFollow (trees_of x) node) (sym c.self.view_is) c.requires in
    let row = subst (λ n. AreRowProperties c.last_row.result (take n trees)) c.width-width.ensures c.last_row.ensures.row in
    let own = c.properties-properties.ensures trees c.requires row ∙ ap (λ x. properties_of (first_of (after_node (trees_of x) node))) (sym c.self.view_is) in
    let e : map kind_of c.push.new.self.items ≡ nodes ++ node ∷ [] =
    ap (map kind_of) c.in_ok-push.ensures.items ∙ map-append kind_of c.self.inside.nodes.items (c.args.node ∷ []) in
    let f : c.push-2.new.self.items ≡ c.self.inside.properties.items ++ c.properties-properties.result ∷ [] =
    c.in_ok-push-2.ensures.items ∙ ap (λ x. x ++ c.properties-properties.result ∷ []) c.in_ok-reserve.ensures.items in
    subst (λ x. AreStacked x c.push-2.new.self.items height) (sym e)
    (subst (λ x. AreStacked (nodes ++ node ∷ []) x height) (sym f)
    (AreStacked-push nodes node c.self.inside.properties.items c.properties-properties.result c.self.inside.height height c.self.invariant may
    (omega (arith, c.width-width.ensures, may.fits, c.self.invariant.counted)) own))

pub returns : goal.returns
returns c =
    let node = kind_of c.args.node in
    let nodes = map kind_of c.self.inside.nodes.items in
    let e : map kind_of c.push.new.self.items ≡ nodes ++ node ∷ [] =
    ap (map kind_of) c.in_ok-push.ensures.items ∙ map-append kind_of c.self.inside.nodes.items (c.args.node ∷ []) in
    ap trees_of e ∙ trees_of-push nodes node ∙ ap (λ x. after_node (trees_of x) node) c.self.view_is
