use Rattle.std.proofs.Common.{List, Option, sym, subst}
use Rattle.rx_onepass.specs.declared.edges.Edge.{Edge}
use Rattle.rx_onepass.specs.Edges.{AreEdges}
use Rattle.rx_onepass.proofs.WayLaws.{with_edges}
use Rattle.rx_onepass.proofs.search.Walker.learn.Goals as goal

pub returns-in-Some-clause-made : goal.returns-in-Some-clause-made
returns-in-Some-clause-made c =
    let p = c.args.program.now in
    let old = c.args.self.now in
    let new = c.edge_of.new.self in
    let are = subst (λ (es : List (Option Edge)). AreEdges p old.slot_len es) (sym c.edge_of.ensures.edges) c.requires.made.are_edges in
    with_edges p old.stepper.widths new.stepper.widths old.asks_looks new.asks_looks old.slot_len new.slot_len old.edges c.learn.new.self c.edge_of.ensures.widths c.edge_of.ensures.asks_looks c.edge_of.ensures.slot_len
    (c.learn.ensures p old.slot_len are c.in-Some.ensures.edge) c.requires.made
