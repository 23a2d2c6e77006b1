-- A front of the slice's text was appended, what is ahead stands behind it, and the mark is where it was.
use Rattle.std.proofs.Common.{◌≡◌}
use Rattle.ropey.specs.Chunks.{text_of}
use Rattle.ropey_walk.specs.Slices.{slice_text}
use Rattle.ropey.proofs.Copying.{IsCopied}
use Rattle.ropey.proofs.rope_builder.append_chunks.Given as goal

abbrev pub invariant-loop-chunk : goal.invariant-loop-chunk
invariant-loop-chunk l = IsCopied l.fn.text.text l.text.text (text_of l.chunk-iterator.ahead) (slice_text l.fn.slice) × (l.text.mark ≡ l.fn.text.mark)
