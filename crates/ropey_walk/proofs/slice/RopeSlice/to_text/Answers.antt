use Rattle.std.proofs.Common.{◌++◌, string_bytes, ap, ◌∙◌}
use Rattle.std.specs.Prelude.{encode_utf8_all}
use Rattle.ropey_walk.specs.Chunks.{text_of}
use Rattle.ropey_walk.specs.Slices.{slice_text}
use Rattle.ropey_walk.proofs.ChunkWalks.{written}
use Rattle.ropey_walk.proofs.slice.RopeSlice.to_text.Goals as goal

pub loop-chunk-preserved : goal.loop-chunk-preserved
loop-chunk-preserved c =
    let step = c.in-Some.ensures.steps in
    let text = encode_utf8_all (slice_text c.args.self.now) in
    ap (λ bs. bs ++ encode_utf8_all (text_of c.next.new.self.ahead)) c.in_ok-push_str.ensures.bytes
    ∙ written (string_bytes c.loop-chunk.text) c.in-Some.chunk.now c.loop-chunk.chunk-iterator.ahead c.next.new.self.ahead text c.loop-chunk.invariant step.0.0 step.1
