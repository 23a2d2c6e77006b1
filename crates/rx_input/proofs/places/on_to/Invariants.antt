use Rattle.std.proofs.Common.{◌≤◌, ◌-◌, length}
use Rattle.rx_input.specs.Cursors.{IsSameContent}
use Rattle.rx_input.proofs.places.on_to.Given as goal

abbrev pub invariant-loop-cursor : goal.invariant-loop-cursor
invariant-loop-cursor g l = record {
  same : IsSameContent (g.C.Cursor.state l.fn.cursor) (g.C.Cursor.state l.cursor);
  start : (g.C.Cursor.state l.cursor).start ≤ l.at;
}

abbrev pub decreases-loop-cursor : goal.decreases-loop-cursor
decreases-loop-cursor g l = length (g.C.Cursor.state l.cursor).content - (g.C.Cursor.state l.cursor).end
