use Rattle.std.proofs.Common.{◌-◌, ◌≤◌, inl, inr, length, arith}
use Rattle.ropey_tree.proofs.Ends.{floor_low, lf_at_room, no_lf_at_end, no_lf_at_cr, no_cr}
use Rattle.ropey_tree.proofs.leaf.fill_end.Goals as goal
use Rattle.ropey_tree.proofs.leaf.fill_end.Goals.{else-end-gt0-via-then-end-gt0+else-as_bytes-end-eq13, else-end-gt0-via-else-end-gt0}

pub returns-then-text-room-clause-lf : goal.returns-then-text-room-clause-lf
returns-then-text-room-clause-lf c lf = absurd (no_lf_at_end c.args.text.now lf)

pub returns-then-as_bytes-end-eq13-clause-full : goal.returns-then-as_bytes-end-eq13-clause-full
returns-then-as_bytes-end-eq13-clause-full c =
    let e = c.floor_char_boundary-end.ensures in
    let low = floor_low c.args.text.now c.args.room c.floor_char_boundary-end.result c.utf8.text c.if-text-room.false e.boundary e.bound e.nearest in
    inr (omega (arith, low))

pub returns-then-as_bytes-end-eq13-clause-lf : goal.returns-then-as_bytes-end-eq13-clause-lf
returns-then-as_bytes-end-eq13-clause-lf c lf =
    let is = rw c.as_bytes.ensures.value at c.if-as_bytes-end-eq13.true in
    absurd (no_lf_at_cr c.args.text.now (c.floor_char_boundary-end.result - 1) (omega (arith, c.floor_char_boundary-end.ensures.bound, c.if-text-room.false, c.if-end-gt0.true)) is lf)

pub returns-else-end-gt0-clause-full : goal.returns-else-end-gt0-clause-full
returns-else-end-gt0-clause-full c =
    let e = c.floor_char_boundary-end.ensures in
    let low = floor_low c.args.text.now c.args.room c.floor_char_boundary-end.result c.utf8.text c.if-text-room.false e.boundary e.bound e.nearest in
    inr (omega (arith, low))

pub returns-else-end-gt0-clause-cr : goal.returns-else-end-gt0-clause-cr
returns-else-end-gt0-clause-cr c =
    let end = c.floor_char_boundary-end.result in
    let within : end ≤ length c.args.text.now = omega (arith, c.floor_char_boundary-end.ensures.bound, c.if-text-room.false) in
    elim c.else-end-gt0.branch [
      | else-end-gt0-via-then-end-gt0+else-as_bytes-end-eq13 w ↦
          inr (inr (no_cr c.args.text.now end c.utf8.text c.floor_char_boundary-end.ensures.boundary (omega (arith, w.if-end-gt0.true)) within (rw w.as_bytes.ensures.value at w.if-as_bytes-end-eq13.false)))
      | else-end-gt0-via-else-end-gt0 w ↦ inr (inl (omega (arith, w.if-end-gt0.false)))
    ]

pub returns-else-end-gt0-clause-lf : goal.returns-else-end-gt0-clause-lf
returns-else-end-gt0-clause-lf c lf =
    let e = c.floor_char_boundary-end.ensures in
    lf_at_room c.args.text.now c.args.room c.floor_char_boundary-end.result c.utf8.text c.if-text-room.false e.boundary e.bound e.nearest lf
