-- Haystacks in a list of chunks.
use Rattle.std.specs.Prelude.{◌≡◌, ℕ, zero, suc, ◌+◌, ◌^◌, ◌<◌, ◌≤◌, true, List, [], ◌∷◌, length, take}
use Rattle.std.specs.List.{flat_map}
use Rattle.std.specs.Borrow.{Bor}
use Rattle.rx_input.specs.Cursors.{CursorState}

-- the bytes of all chunks, in order
abbrev pub joined : List (Bor (List ℕ)) → List ℕ
joined chunks = flat_map (λ (chunk : Bor (List ℕ)). chunk.now) chunks

-- the chunk with this index, or an empty one if there is none
abbrev pub chunk_at : List (Bor (List ℕ)) → ℕ → List ℕ
chunk_at [] i = []
chunk_at (chunk ∷ chunks) zero = chunk.now
chunk_at (chunk ∷ chunks) (suc i) = chunk_at chunks i

-- the chunks before one index have the same bytes as those before another
abbrev pub SameBefore : List (Bor (List ℕ)) → ℕ → ℕ → Type 0
SameBefore chunks i j = joined (take i chunks) ≡ joined (take j chunks)

-- a cursor whose current chunk has this index and this offset
abbrev pub showing : List (Bor (List ℕ)) → ℕ → ℕ → CursorState
showing chunks i start = record {
  content = joined chunks;
  is_sized = true;
  start = start;
  end = start + length (chunk_at chunks i);
}

-- the current chunk starts at this offset, and is empty only if the haystack is
pub record IsShowing (chunks : List (Bor (List ℕ))) (i start total : ℕ) : Type 0 where
  pub inside : i ≤ length chunks
  pub starts : start ≡ length (joined (take i chunks))
  pub filled : length (chunk_at chunks i) ≡ 0 → joined chunks ≡ []
  pub total_is : total ≡ length (joined chunks)
  pub bound : total < 2 ^ 63
