use Rattle.std.proofs.Common.{ap, ◌∙◌}
use Rattle.std.proofs.lemmas.Result.{err_from_is_err_and}
use Rattle.rope_search.proofs.PrintLemmas.{PutSoFar-start, PutSoFar-step, PutSoFar-end, WritesUntil-chunk}
use Rattle.rope_search.proofs.texts.put_text.Goals as goal

pub loop-chunk-init : goal.loop-chunk-init
loop-chunk-init g c = PutSoFar-start _ _ _ _ (ap (λ chunks. chunks.ahead) (c.into_iter-chunk-iterator.ensures.into_iter_gives ∙ c.chunks-chunk-items.ensures.pieces))

pub returns-in_err-put : goal.returns-in_err-put
returns-in_err-put g c =
    let p = err_from_is_err_and c.from_residual.result c.from_residual.ensures.1 in
    let step = c.in-Some.ensures.steps in
    rw (p.1, p.2) (record {
      written = WritesUntil-chunk _ _ _ _ _ _ _ _ _ _ _ c.loop-chunk.invariant step.0.0 step.1 c.as_bytes.ensures.value c.in_err-put.ensures.written;
    })

pub loop-chunk-preserved : goal.loop-chunk-preserved
loop-chunk-preserved g c =
    let step = c.in-Some.ensures.steps in
    PutSoFar-step _ _ _ _ _ _ _ _ _ _ _ c.loop-chunk.invariant step.0.0 step.1 c.as_bytes.ensures.value c.in_ok-put.ensures.written

pub returns : goal.returns
returns g c = record { written = PutSoFar-end _ _ _ _ _ _ c.loop-chunk.invariant c.in-None.ensures.steps.0.0 }
