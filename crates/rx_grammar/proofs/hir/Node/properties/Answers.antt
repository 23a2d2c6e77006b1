use Rattle.std.proofs.Common.{◌+◌, sym, ap, ◌∙◌}
use Rattle.rx_grammar.specs.Postorder.{first_of, after_node}
use Rattle.rx_grammar.specs.Nodes.{kind_of}
use Rattle.rx_grammar.proofs.RowLaws.{made-extent, known_by}
use Rattle.rx_grammar.proofs.hir.Node.properties.Goals as goal

pub returns : goal.returns
returns c = λ trees may is.
    let node = kind_of c.args.self.now in
    let extent = ap (λ n. n + 1) is.extent ∙ sym (made-extent trees node may) in
    known_by (first_of (after_node trees node)) _ _ _ _ _ extent (c.weight.ensures trees may is) (c.size.ensures trees may is) (c.may_be_empty.ensures trees may is) (c.static_groups.ensures trees may is)
