use Rattle.std.proofs.lemmas.Result.{err_from_is_err_and}
use Rattle.rope_search_io.proofs.Fronts.{WritesUntil-part}
use Rattle.rope_search_io.proofs.write_buffer.WriteBuffer.put_parts.Goals as goal

pub returns-in_err-put-clause-written : goal.returns-in_err-put-clause-written
returns-in_err-put-clause-written g c =
    let p = err_from_is_err_and c.from_residual.result c.from_residual.ensures.1 in
    rw (p.1, p.2) (WritesUntil-part _ _ _ _ _ _ _ _ _ c.loop-part-test.true c.loop-part.invariant c.in_err-put.ensures.written)
