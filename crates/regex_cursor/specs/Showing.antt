-- A cursor over a slice of a rope: an iterator over its chunks, after the current one.
use Rattle.std.specs.Prelude.{◌≡◌, ℕ, ◌+◌, ◌^◌, ◌<◌, Bool, true, false, List, [], ◌∷◌, ◌++◌, length, reverse, encode_utf8_all}
use Rattle.std.specs.Str.{chars, IsUtf8}
-- the words of slices of ropes, for the crates above
pub use Rattle.str_indices.specs.Text.{byte_len}
pub use Rattle.ropey.specs.Chunks.{text_of}
pub use Rattle.ropey.specs.Slices.{slice_bytes, slice_text}
use Rattle.ropey.specs.Chunks.{lone_piece}
use Rattle.ropey.specs.Iter.{TwoWay}
use Rattle.rx_input.specs.Cursors.{CursorState}

-- all chunks, those before a position and those after it
abbrev pub all_chunks : TwoWay (List ℕ) → List (List ℕ)
all_chunks place = reverse place.behind ++ place.ahead

-- these of their bytes are the current chunk, which starts at `offset`
abbrev pub showing : TwoWay (List ℕ) → ℕ → List ℕ → CursorState
showing chunks offset shown = record {
  content = encode_utf8_all (text_of (all_chunks chunks));
  is_sized = true;
  start = offset;
  end = offset + length shown;
}

-- each of the chunks has characters
abbrev pub HaveCharacters : List (List ℕ) → Type 0
HaveCharacters chunks = (front back : List (List ℕ)) (chunk : List ℕ)
    → chunks ≡ front ++ chunk ∷ back
    → chunk ≡ [] → ⊥

-- The iterator is after the current chunk, which starts at that byte. The current chunk is empty
-- only if there is no chunk.
pub record IsShowing (place : TwoWay (List ℕ)) (shown : List ℕ) (offset len : ℕ) : Type 0 where
  -- the chunks before it, the nearest first
  pub earlier : List (List ℕ)
  pub stands : place.behind ≡ lone_piece (chars shown) ++ earlier
  pub some : chars shown ≡ [] → (earlier ≡ []) × (place.ahead ≡ [])
  pub filled : HaveCharacters (all_chunks place)
  pub utf8 : IsUtf8 shown
  pub offset_is : offset ≡ byte_len (text_of (reverse earlier))
  pub len_is : len ≡ byte_len (text_of (all_chunks place))
  pub bound : len < 2 ^ 63

-- after the next chunk, if there is one
abbrev pub behind_next : List (List ℕ) → List (List ℕ) → TwoWay (List ℕ)
behind_next [] behind = record { ahead = []; behind = behind }
behind_next (chunk ∷ ahead) behind = record { ahead = ahead; behind = chunk ∷ behind }

-- the position after the current chunk, of an iterator that is before it or there
abbrev pub behind_shown : Bool → TwoWay (List ℕ) → TwoWay (List ℕ)
behind_shown true place = behind_next place.ahead place.behind
behind_shown false place = place

-- there is a next chunk
abbrev pub IsSomeAhead : TwoWay (List ℕ) → Type 0
IsSomeAhead place = place.ahead ≡ [] → ⊥

-- it is before the previous chunk of a position, if there is one
abbrev pub IsBeforeLast : TwoWay (List ℕ) → TwoWay (List ℕ) → Type 0
IsBeforeLast place before = (last : List ℕ) (earlier : List (List ℕ))
    → place.behind ≡ last ∷ earlier
    → before ≡ record { ahead = last ∷ place.ahead; behind = earlier }

-- The iterator is before the current chunk, or after it.
pub record StandsBy (is_before : Bool) (place : TwoWay (List ℕ)) (shown : List ℕ)
    (offset len : ℕ) : Type 0 where
  pub shows : IsShowing (behind_shown is_before place) shown offset len
  pub some : is_before ≡ true → IsSomeAhead place

-- The iterator is at that byte, before a chunk that can be shown, or there is no chunk.
pub record MayShowNext (place : TwoWay (List ℕ)) (offset len : ℕ) : Type 0 where
  pub some : place.ahead ≡ [] → place.behind ≡ []
  pub filled : HaveCharacters (all_chunks place)
  pub offset_is : offset ≡ byte_len (text_of (reverse place.behind))
  pub len_is : len ≡ byte_len (text_of (all_chunks place))
  pub bound : len < 2 ^ 63

-- the first of these chunks ends there, or there is none and it is the start
abbrev pub EndsFirst : List (List ℕ) → ℕ → ℕ → Type 0
EndsFirst [] start end = end ≡ start
EndsFirst (chunk ∷ chunks) start end = end ≡ start + byte_len chunk
