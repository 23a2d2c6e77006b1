use Rattle.std.proofs.Common.{[], ◌++◌, ap, ◌∙◌, rules}
use Rattle.std.specs.Prelude.{encode_utf8_all}
use Rattle.std.proofs.Output.{has_written_append}
use Rattle.ropey_walk.specs.Chunks.{text_of}
use Rattle.ropey_walk.specs.Comparing.{slice_bytes}
use Rattle.ropey_walk.proofs.ChunkWalks.{written}
use Rattle.ropey_walk.proofs.comparing.RopeSliceDisplay.fmt.Goals as goal

pub loop-chunk-init : goal.loop-chunk-init
loop-chunk-init g c =
    λ plain. (
      [],
      search rules,
      ap (λ chunks. encode_utf8_all (text_of chunks.ahead)) (c.into_iter-chunk-iterator.ensures.into_iter_gives ∙ c.chunks-chunk-items.ensures.pieces),
    )

pub loop-chunk-preserved : goal.loop-chunk-preserved
loop-chunk-preserved g c =
    λ plain.
    let now = c.loop-chunk.invariant plain in
    let step = c.in-Some.ensures.steps in (
      now.0 ++ c.in-Some.chunk.now,
      has_written_append _ _ _ _ _ _ now.1 (search rules),
      written now.0 c.in-Some.chunk.now c.loop-chunk.chunk-iterator.ahead c.next.new.self.ahead (slice_bytes c.args.self.now) now.2 step.0.0 step.1,
    )
