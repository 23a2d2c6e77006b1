use Rattle.std.proofs.Common.{◌+◌, arith}
use Rattle.ropey.specs.Writing.{AppendsFront}
use Rattle.ropey.proofs.Written.{front_step, front_taken, front_kept, on_err}
use Rattle.ropey.proofs.writing.write_bytes.Goals as goal

pub returns-in_err-count-clause-err : goal.returns-in_err-count-clause-err
returns-in_err-count-clause-err g c =
    let before = g.W.Write.contents c.args.writer.now in
    let after = g.W.Write.contents c.write.new.self in
    let front = front_kept before (g.W.Write.contents c.loop-done.writer) after c.args.bytes.now c.loop-done.done c.loop-done.invariant.1 c.in_err-count.ensures.bytes in
    on_err c.from_residual.result (AppendsFront before after c.args.bytes.now) front

pub returns-in-0-clause-err : goal.returns-in-0-clause-err
returns-in-0-clause-err g c =
    front_taken _ _ c.args.bytes.now (c.loop-done.done + c.in_ok-count.count)
    (front_step _ _ _ c.args.bytes.now c.loop-done.done c.in_ok-count.count c.loop-done.invariant.1 c.in_ok-count.ensures.bytes)

pub loop-done-preserved : goal.loop-done-preserved
loop-done-preserved g c = (
  omega (arith, c.in_ok-count.ensures.bound, c.loop-done.invariant.0),
  front_step _ _ _ c.args.bytes.now c.loop-done.done c.in_ok-count.count c.loop-done.invariant.1 c.in_ok-count.ensures.bytes,
)
