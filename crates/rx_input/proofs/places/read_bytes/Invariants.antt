use Rattle.std.proofs.Common.{◌≡◌, ◌≤◌, length, take, drop}
use Rattle.rx_input.specs.Cursors.{IsSameContent}
use Rattle.rx_input.proofs.places.read_bytes.Given as goal

-- the bytes so far are read
abbrev pub invariant-loop-index : goal.invariant-loop-index
invariant-loop-index g l = record {
  same : IsSameContent (g.C.Cursor.state l.fn.cursor) (g.C.Cursor.state l.cursor);
  room : length l.buf ≡ length l.fn.buf;
  within : l.index ≤ length l.fn.buf;
  bytes : take l.index l.buf ≡ take l.index (drop l.from (g.C.Cursor.state l.fn.cursor).content);
}
