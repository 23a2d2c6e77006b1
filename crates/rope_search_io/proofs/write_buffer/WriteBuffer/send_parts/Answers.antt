use Rattle.std.proofs.lemmas.Result.{err_from_is_err_and}
use Rattle.rope_search_io.proofs.Fronts.{WritesUntil-put}
use Rattle.rope_search_io.proofs.write_buffer.WriteBuffer.send_parts.Goals as goal

pub returns-in_err-send-clause-written : goal.returns-in_err-send-clause-written
returns-in_err-send-clause-written g c =
    let p = err_from_is_err_and c.from_residual-in_err-send.result c.from_residual-in_err-send.ensures.1 in
    rw (p.1, p.2) (WritesUntil-put _ _ _ _ _ _ _ c.in_ok-put_parts.ensures.written c.in_err-send.ensures.written)
