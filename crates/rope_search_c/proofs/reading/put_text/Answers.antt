use Rattle.std.proofs.Common.{◌∙◌, arith}
use Rattle.rope_search_c.proofs.TextLemmas.{HasPut-room, HasPut-step}
use Rattle.rope_search_c.proofs.reading.put_text.Goals as goal

pub slice_bounds-copy_from_slice-end : goal.slice_bounds-copy_from_slice-end
slice_bounds-copy_from_slice-end c =
    let step = c.in-Some.ensures.steps in
    HasPut-room _ _ _ _ _ _ _ c.loop-chunk.invariant step.0.0 step.1

pub loop-chunk-preserved : goal.loop-chunk-preserved
loop-chunk-preserved c =
    let step = c.in-Some.ensures.steps in
    HasPut-step _ _ _ _ _ _ _ _ _ c.loop-chunk.invariant step.0.0 step.1 (c.copy_from_slice.ensures.after ∙ c.as_bytes.ensures.value) (omega arith)
