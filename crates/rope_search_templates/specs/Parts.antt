-- A part of a text's bytes, in the chunk that contains it.
use Rattle.std.specs.Prelude.{◌≡◌, ℕ, List, ◌++◌, length}

-- a chunk of the bytes starts at an offset, with some bytes before it, and others after it
pub record ChunkIn (content chunk : List ℕ) (start : ℕ) : Type 0 where
  pub front : List ℕ
  pub back : List ℕ
  pub parts : content ≡ front ++ (chunk ++ back)
  pub start_is : start ≡ length front
