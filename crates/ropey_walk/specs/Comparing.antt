-- What texts are compared and hashed by: their bytes, however they are split into chunks.
use Rattle.std.specs.Prelude.{ℕ, ◌+◌, ◌/◌, List, ◌++◌, length, map, encode_utf8_all}
use Rattle.std.specs.Fork.{slice_chunk}
use Rattle.std.specs.Hash as fed
use Rattle.std.specs.List.{range_with_len}
use Rattle.ropey_walk.specs.declared.slice.RopeSlice.{RopeSlice}
use Rattle.ropey_walk.specs.Chunks.{text_of}
use Rattle.ropey_walk.specs.Slices.{slice_text}
use Rattle.ropey_walk.specs.TwoWay.{TwoWay}

-- the bytes of a slice
abbrev pub slice_bytes : RopeSlice → List ℕ
slice_bytes slice = encode_utf8_all (slice_text slice)

-- the rest of a part of a text, and then the bytes of the chunks ahead
abbrev pub bytes_left : List ℕ → TwoWay (List ℕ) → List ℕ
bytes_left part chunks = part ++ encode_utf8_all (text_of chunks.ahead)

-- bytes in blocks of 256; the last one is shorter, and may be empty
abbrev pub blocks : List ℕ → List (List ℕ)
blocks bytes = map (slice_chunk bytes 256) (range_with_len 0 (length bytes / 256 + 1))

-- what a hasher gets of a text: its bytes in blocks, and then 0xFF, which no UTF-8 has
abbrev pub hash_writes : List ℕ → fed.HashWrites
hash_writes bytes = blocks bytes ++ fed.u8 255
