use Rattle.std.proofs.Common.{Option, List, sym, subst}
use Rattle.rx_onepass.specs.declared.edges.Edge.{Edge}
use Rattle.rx_onepass.specs.Edges.{AreEdges}
use Rattle.rx_onepass.proofs.EdgeLaws.{learnt}
use Rattle.rx_onepass.proofs.edges.Edges.learn.Goals as goal

pub returns : goal.returns
returns c = λ p len are one.
    subst (λ (es : List (Option Edge)). AreEdges p len es) (sym c.put.ensures) (learnt p len c.make_room.new.self c.place_of.result c.args.edge (c.make_room.ensures p len are) one)
