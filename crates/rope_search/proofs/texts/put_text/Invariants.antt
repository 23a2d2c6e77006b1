-- The chunks so far were appended to the buffered bytes.
use Rattle.ropey.specs.Chunks.{text_of}
use Rattle.rope_search.proofs.PrintLemmas.{PutSoFar}
use Rattle.rope_search.proofs.texts.put_text.Given as goal

abbrev pub invariant-loop-chunk : goal.invariant-loop-chunk
invariant-loop-chunk g l = PutSoFar (text_of l.text) l.chunk-iterator.ahead l.fn.write_buffer l.write_buffer (g.W.Sink.state l.fn.sink) (g.W.Sink.state l.sink)
