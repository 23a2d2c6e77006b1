-- Haystacks that are read chunk by chunk. Offsets are bytes of the haystack.
use Rattle.std.specs.Prelude.{◌≡◌, ℕ, ◌-◌, ◌^◌, ◌<◌, ◌≤◌, Bool, true, List, [], length, take, drop, cond, Option, Some, None}

-- a cursor: a haystack, whether the cursor reports its length, and the current chunk, from one
-- offset to another
pub record CursorState : Type 0 where
  pub content : List ℕ
  pub is_sized : Bool
  pub start : ℕ
  pub end : ℕ

-- the chunk is inside the haystack and empty only if that is, and the haystack has fewer than 2^63
-- bytes
pub record IsLawful (c : CursorState) : Type 0 where
  pub ordered : c.start ≤ c.end
  pub within : c.end ≤ length c.content
  pub filled : c.start ≡ c.end → c.content ≡ []
  pub bound : length c.content < 2 ^ 63

-- the bytes of the current chunk
abbrev pub piece_of : CursorState → List ℕ
piece_of c = take (c.end - c.start) (drop c.start c.content)

-- the length of the haystack, if the cursor reports it
abbrev pub told_length : CursorState → Option ℕ
told_length c = cond c.is_sized (Some (length c.content)) None

-- both have the same haystack, and report its length or not
pub record IsSameContent (c d : CursorState) : Type 0 where
  pub content : d.content ≡ c.content
  pub is_sized : d.is_sized ≡ c.is_sized

-- the chunk of the second starts where that of the first ends
pub record IsNext (first second : CursorState) : Type 0 where
  pub same : IsSameContent first second
  pub meets : second.start ≡ first.end

-- a haystack in one chunk
abbrev pub whole_cursor : List ℕ → CursorState
whole_cursor bytes = record { content = bytes; is_sized = true; start = 0; end = length bytes }
