use Rattle.std.proofs.Common.{arith}
use Rattle.rope_search_io.proofs.Fronts.{Writes-step, WritesFront-step}
use Rattle.rope_search_io.proofs.write_buffer.write_all.Goals as goal

pub loop-done-preserved : goal.loop-done-preserved
loop-done-preserved g c = (
  omega (arith, c.in-Ok.ensures.bound),
  Writes-step _ _ _ _ _ _ c.loop-done.invariant.1 c.in-Ok.ensures.bytes (omega (arith, c.in-Ok.ensures.failures)) c.in-Ok.ensures.flushes,
)

pub returns-in-Err : goal.returns-in-Err
returns-in-Err g c =
    WritesFront-step _ _ _ _ _ c.loop-done.invariant.1 c.in-Err.ensures.bytes c.in-Err.ensures.failures c.in-Err.ensures.flushes
