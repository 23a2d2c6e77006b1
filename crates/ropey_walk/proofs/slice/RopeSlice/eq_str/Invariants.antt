-- The text and the `&str` start with the same bytes.
use Rattle.std.proofs.Common.{◌≡◌, ℕ, List, ◌++◌, encode_utf8_all}
use Rattle.ropey_walk.specs.Chunks.{text_of}
use Rattle.ropey_walk.specs.Comparing.{slice_bytes}
use Rattle.ropey_walk.proofs.slice.RopeSlice.eq_str.Given as goal

abbrev pub invariant-loop-chunk : goal.invariant-loop-chunk
invariant-loop-chunk l =
    (done : List ℕ) × (done ++ l.rest ≡ l.fn.text)
    × (done ++ encode_utf8_all (text_of l.chunk-iterator.ahead) ≡ slice_bytes l.fn.self)
