use Rattle.std.proofs.Common.{[], ap, sym, ◌∙◌, append-nil, refl}
use Rattle.std.specs.Str.{chars}
use Rattle.ropey.specs.Chunks.{text_of}
use Rattle.ropey_walk.specs.Slices.{slice_text}
use Rattle.ropey.proofs.Copying.{copied_next}
use Rattle.ropey.proofs.rope_builder.append_chunks.Goals as goal

pub loop-chunk-init : goal.loop-chunk-init
loop-chunk-init c = (
  record {
    front = [];
    new_is = sym (append-nil c.args.text.now.text);
    parts = ap (λ it. text_of it.ahead) (c.into_iter-chunk-iterator.ensures.into_iter_gives ∙ c.chunks-chunk-items.ensures.pieces);
  },
  refl,
)

pub loop-chunk-preserved : goal.loop-chunk-preserved
loop-chunk-preserved c =
    let step = c.in-Some.ensures.steps in (
      copied_next c.args.text.now.text c.loop-chunk.text.text (text_of c.loop-chunk.chunk-iterator.ahead) (slice_text c.args.slice) c.loop-chunk.invariant.0
          (chars c.in-Some.chunk.now) c.append.new.self.text (text_of c.next.new.self.ahead) (ap text_of step.0.0) c.in_ok-append.ensures.text,
      c.append.ensures.mark ∙ c.loop-chunk.invariant.1,
    )
