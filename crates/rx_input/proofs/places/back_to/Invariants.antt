use Rattle.rx_input.specs.Cursors.{IsSameContent}
use Rattle.rx_input.proofs.places.back_to.Given as goal

abbrev pub invariant-loop-cursor : goal.invariant-loop-cursor
invariant-loop-cursor g l = IsSameContent (g.C.Cursor.state l.fn.cursor) (g.C.Cursor.state l.cursor)

abbrev pub decreases-loop-cursor : goal.decreases-loop-cursor
decreases-loop-cursor g l = (g.C.Cursor.state l.cursor).start
