-- What the writer took and what is ahead are the text.
use Rattle.std.proofs.Common.{◌≡◌, ℕ, List, ◌++◌}
use Rattle.std.specs.Prelude.{encode_utf8_all}
use Rattle.std.specs.Io.KnownBytes.{Appends}
use Rattle.ropey.specs.Chunks.{text_of}
use Rattle.ropey.proofs.rope.Rope.write_to.Given as goal

abbrev pub invariant-loop-chunk : goal.invariant-loop-chunk
invariant-loop-chunk g l =
    (done : List ℕ) × Appends (g.W.Write.contents l.fn.writer) (g.W.Write.contents l.writer) done
    × (done ++ encode_utf8_all (text_of l.chunk-iterator.ahead) ≡ encode_utf8_all (text_of l.self))
