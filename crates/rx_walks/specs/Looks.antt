-- Look-around assertions about an offset, in a haystack that is cut to the slice. The bytes before
-- the offset are given in reverse order.
use Rattle.std.specs.Prelude.{ℕ, ◌<◌, Bool, true, false, not, ◌&&◌, ◌==◌, List, [], ◌∷◌, Option, Some, None}
use Rattle.rx_walks.specs.Characters.{first_character, last_character}

pub data Look : Type 0 where
  -- `\A`, and `^` without the flag `m`
  start_text : Look
  -- `\z`, and `$` without the flag `m`
  end_text : Look
  -- `^` under the flag `m`
  start_line : Look
  -- `$` under the flag `m`
  end_line : Look
  -- `\b`
  word_boundary : Look
  -- `\B`
  no_word_boundary : Look

-- what is on one side of an offset: nothing, bytes that are no whole character, or a character
pub data Side : Type 0 where
  edge : Side
  broken : Side
  whole : ℕ → Side

abbrev pub side_of : List ℕ → Option ℕ → Side
side_of [] c = edge
side_of (b ∷ bytes) None = broken
side_of (b ∷ bytes) (Some c) = whole c

abbrev pub side_before : List ℕ → Side
side_before before = side_of before (last_character before)

abbrev pub side_after : List ℕ → Side
side_after after = side_of after (first_character after)

-- a word character is on this side
abbrev pub has_word : (ℕ → Bool) → Side → Bool
has_word is_word edge = false
has_word is_word broken = false
has_word is_word (whole c) = is_word c

abbrev pub is_broken : Side → Bool
is_broken edge = false
is_broken broken = true
is_broken (whole c) = false

abbrev pub is_same : Bool → Bool → Bool
is_same true b = b
is_same false b = not b

-- an assertion about words: it depends on characters, the others on bytes
abbrev pub asks_characters : Look → Bool
asks_characters word_boundary = true
asks_characters no_word_boundary = true
asks_characters _ = false

-- there are no bytes, or the first one is ASCII
abbrev pub IsEdgeOrAscii : List ℕ → Type 0
IsEdgeOrAscii [] = Unit {0}
IsEdgeOrAscii (b ∷ bytes) = b < 128

-- there are no bytes
abbrev pub is_edge : List ℕ → Bool
is_edge [] = true
is_edge (b ∷ bytes) = false

-- there are no bytes, or the first one is this
abbrev pub is_edge_or : ℕ → List ℕ → Bool
is_edge_or terminator [] = true
is_edge_or terminator (b ∷ bytes) = b == terminator

-- an assertion holds at an offset, for these word characters and this line terminator
abbrev pub holds_between : (ℕ → Bool) → ℕ → Look → List ℕ → List ℕ → Bool
holds_between is_word terminator start_text before after = is_edge before
holds_between is_word terminator end_text before after = is_edge after
holds_between is_word terminator start_line before after = is_edge_or terminator before
holds_between is_word terminator end_line before after = is_edge_or terminator after
holds_between is_word terminator word_boundary before after =
    not (is_same (has_word is_word (side_before before)) (has_word is_word (side_after after)))
holds_between is_word terminator no_word_boundary before after =
    not (is_broken (side_before before)) && not (is_broken (side_after after))
    && is_same (has_word is_word (side_before before)) (has_word is_word (side_after after))
