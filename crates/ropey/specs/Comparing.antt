-- What ropes are compared and hashed by: the bytes of their texts.
use Rattle.std.specs.Prelude.{ℕ, List, encode_utf8_all}
use Rattle.ropey_walk.specs.Chunks.{text_of}
pub use Rattle.ropey_walk.specs.Comparing.{blocks, hash_writes}

-- the bytes of the text of these pieces
abbrev pub text_bytes : List (List ℕ) → List ℕ
text_bytes pieces = encode_utf8_all (text_of pieces)
