use Rattle.std.proofs.Common.{◌≡◌, ◌<◌, length, map, ap, ◌∙◌, arith}
use Rattle.std.proofs.lemmas.List.{length-map}
use Rattle.rx_grammar.specs.declared.properties.Properties.{Properties}
use Rattle.rx_grammar.specs.Trees.{empty}
use Rattle.rx_grammar.specs.Postorder.{trees_of}
use Rattle.rx_grammar.specs.Nodes.{properties_of}
use Rattle.rx_grammar.specs.Rows.{row_subtrees}
use Rattle.rx_grammar.proofs.RowLaws.{next_part, part_known, row_fits, IsRowOf-next}
use Rattle.rx_grammar.proofs.trees.TreeStack.last_row.Goals as goal

pub overflow_sub-root : goal.overflow_sub-root
overflow_sub-root c =
    let trees = trees_of c.args.self.now in
    let properties = c.self.inside.properties in
    let known = c.self.invariant.known ∙ ap (λ x. map properties_of (row_subtrees (trees_of x))) c.self.view_is in
    let count : length properties.items ≡ length (row_subtrees trees) = ap length known ∙ length-map (row_subtrees trees) properties_of in
    omega (arith, c.len.ensures, properties.ok.0, count, c.loop.invariant.extent, row_fits c.loop.counter trees)

pub overflow_sub-root-in-loop : goal.overflow_sub-root-in-loop
overflow_sub-root-in-loop c =
    let trees = trees_of c.args.self.now in
    let properties = c.self.inside.properties in
    let known = c.self.invariant.known ∙ ap (λ x. map properties_of (row_subtrees (trees_of x))) c.self.view_is in
    let count : length properties.items ≡ length (row_subtrees trees) = ap length known ∙ length-map (row_subtrees trees) properties_of in
    let below : c.loop.counter < length trees = omega (arith, c.loop-test.true, c.requires) in
    let next = next_part trees c.loop.counter (properties_of empty) below in
    omega (arith, c.len.ensures, properties.ok.0, count, c.loop.invariant.extent, next.0)

pub loop-preserved : goal.loop-preserved
loop-preserved c =
    let trees = trees_of c.args.self.now in
    let properties = c.self.inside.properties in
    let known = c.self.invariant.known ∙ ap (λ x. map properties_of (row_subtrees (trees_of x))) c.self.view_is in
    let below : c.loop.counter < length trees = omega (arith, c.loop-test.true, c.requires) in
    let len : c.len.result ≡ length properties.items = omega (arith, c.len.ensures, properties.ok.0) in
    let part = part_known trees c.loop.counter properties.items c.len.result c.loop.row.extent c.index.result.now below known len c.loop.invariant.extent c.index.ensures in
    IsRowOf-next trees c.loop.counter below c.loop.invariant part c.with-row.ensures

pub with-row-requires : goal.with-row-requires
with-row-requires c =
    let trees = trees_of c.args.self.now in
    let properties = c.self.inside.properties in
    let known = c.self.invariant.known ∙ ap (λ x. map properties_of (row_subtrees (trees_of x))) c.self.view_is in
    let count : length properties.items ≡ length (row_subtrees trees) = ap length known ∙ length-map (row_subtrees trees) properties_of in
    let below : c.loop.counter < length trees = omega (arith, c.loop-test.true, c.requires) in
    let len : c.len.result ≡ length properties.items = omega (arith, c.len.ensures, properties.ok.0) in
    let part = part_known trees c.loop.counter properties.items c.len.result c.loop.row.extent c.index.result.now below known len c.loop.invariant.extent c.index.ensures in
    let extent = ap (λ (p : Properties). p.extent) part in
    let next = next_part trees c.loop.counter (properties_of empty) below in
    omega (arith, extent, next.2, count, c.loop.invariant.extent, c.len.type_inv, len)

pub returns-clause-room : goal.returns-clause-room
returns-clause-room c =
    let trees = trees_of c.args.self.now in
    let properties = c.self.inside.properties in
    let known = c.self.invariant.known ∙ ap (λ x. map properties_of (row_subtrees (trees_of x))) c.self.view_is in
    let count : length properties.items ≡ length (row_subtrees trees) = ap length known ∙ length-map (row_subtrees trees) properties_of in
    omega (arith, count, c.loop.invariant.extent, row_fits c.loop.counter trees, properties.ok.0, properties.small)
