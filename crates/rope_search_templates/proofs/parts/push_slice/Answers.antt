use Rattle.std.proofs.Common.{ap, ◌∙◌, string_bytes}
use Rattle.std.specs.Str.{chars}
use Rattle.ropey.specs.Chunks.{text_of}
use Rattle.ropey.specs.Slices.{slice_text}
use Rattle.rope_search_templates.proofs.PushLemmas.{pushed-next, pushed-front, pushed-chars, on_err}
use Rattle.rope_search_templates.proofs.parts.push_slice.Goals as goal

pub loop-chunk-preserved : goal.loop-chunk-preserved
loop-chunk-preserved c =
    pushed-next _ _ _ _ (chars c.in-Some.chunk.now) _ _ c.loop-chunk.invariant (ap text_of c.in-Some.ensures.steps.0.0) (pushed-chars c.loop-chunk.out c.push_str.new.self c.in-Some.chunk.now c.in_ok-push_str.ensures.bytes)

pub returns-in_err-push_str-clause-front : goal.returns-in_err-push_str-clause-front
returns-in_err-push_str-clause-front c =
    let has = pushed-front (chars (string_bytes c.args.out.now)) (chars (string_bytes c.loop-chunk.out)) (text_of c.loop-chunk.chunk-iterator.ahead) (slice_text c.args.slice) c.loop-chunk.invariant in
    on_err c.from_residual.result _ (has.0, ap chars c.in_err-push_str.ensures.bytes ∙ has.1)
