-- A chunk of a text, with the counts before it in all four measures.
use Rattle.std.specs.Prelude.{◌≡◌, ℕ, ◌^◌, ◌<◌, ◌≤◌, ◌⊎◌, List, [], ◌++◌}
use Rattle.str_indices.specs.Text.{byte_len, NoCrLfBetween}
use Rattle.ropey_tree.specs.declared.counts.Counts.{Counts}
use Rattle.ropey_tree.specs.declared.counts.By.{By}
use Rattle.ropey_tree.specs.Counts.{counts_of, amount}
use Rattle.ropey_walk.specs.Chunks.{text_of, lone_piece}

-- the chunk that contains position i of a measure, as in `ShowsChunk`
pub record StandsAt (pieces : List (List ℕ)) (by : By) (i : ℕ) (chunk : List ℕ) (start : Counts) : Type 0 where
  pub before : List (List ℕ)
  pub after : List (List ℕ)
  pub parts : pieces ≡ before ++ lone_piece chunk ++ after
  pub some : chunk ≡ [] → pieces ≡ []
  pub start_is : start ≡ counts_of (text_of before)
  pub not_past : amount by (counts_of (text_of before)) ≤ i
  pub passed : (i < amount by (counts_of (text_of before ++ chunk))) ⊎ (after ≡ [])

-- a chunk of a text, with no CR LF across its ends, the counts before it, and a position in it
pub record IsPlaceIn (text chunk : List ℕ) (start : Counts) (at : ℕ) : Type 0 where
  pub before : List ℕ
  pub after : List ℕ
  pub parts : text ≡ before ++ chunk ++ after
  pub start_is : start ≡ counts_of before
  pub whole_before : NoCrLfBetween before chunk
  pub whole_after : NoCrLfBetween (before ++ chunk) after
  pub within : at ≤ byte_len chunk
  pub fits : byte_len text < 2 ^ 63

-- a chunk of a text in chunks, with the counts before it; an empty one is none of these, and says
-- nothing
pub record IsChunkOf (pieces : List (List ℕ)) (chunk : List ℕ) (start : Counts) : Type 0 where
  pub before : List (List ℕ)
  pub after : List (List ℕ)
  pub parts : pieces ≡ before ++ lone_piece chunk ++ after
  pub start_is : start ≡ counts_of (text_of before)
