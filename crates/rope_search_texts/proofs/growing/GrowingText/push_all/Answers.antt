use Rattle.std.proofs.Common.{refl}
use Rattle.std.proofs.lemmas.Result.{err_from_is_err_and}
use Rattle.rope_search_texts.proofs.GrowingLemmas.{stops_within, grown_by}
use Rattle.rope_search_texts.proofs.growing.GrowingText.push_all.Goals as goal

pub loop-byte-preserved : goal.loop-byte-preserved
loop-byte-preserved c = grown_by _ _ _ _ _ _ c.loop-byte-test.true refl c.loop-byte.invariant c.in_ok-push.ensures.bytes

pub returns-in_err-push-clause-stops : goal.returns-in_err-push-clause-stops
returns-in_err-push-clause-stops c =
    let p = err_from_is_err_and c.from_residual.result c.from_residual.ensures.1 in
    rw (p.1, p.2) (stops_within _ _ _ _ _ _ c.loop-byte-test.true refl c.loop-byte.invariant c.in_err-push.ensures.stops)
