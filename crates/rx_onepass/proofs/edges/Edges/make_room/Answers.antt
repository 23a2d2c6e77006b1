use Rattle.std.proofs.Common.{◌-◌, List, Option, is_ok, vec_len, sym, subst}
use Rattle.rx_onepass.specs.declared.edges.Edge.{Edge}
use Rattle.rx_onepass.specs.Edges.{AreEdges}
use Rattle.rx_onepass.proofs.EdgeLaws.{resized}
use Rattle.rx_onepass.proofs.edges.Edges.make_room.Goals as goal

pub returns-then-len-lt-PLACES : goal.returns-then-len-lt-PLACES
returns-then-len-lt-PLACES c = λ p len are.
    resized p len (is_ok c.resize-made.result) c.self.inside.places.items c.resize-made.new.self.items 1024 (1024 - vec_len c.self.inside.places) c.resize-made.ensures.items
    (subst (λ (es : List (Option Edge)). AreEdges p len es) (sym c.self.view_is) are)
