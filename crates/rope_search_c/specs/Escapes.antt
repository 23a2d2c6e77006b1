-- A text escaped for a pattern, as C gets it.
use Rattle.std.specs.Prelude.{◌≡◌, ℕ, ◌<◌, ◌≤◌, ◌⊎◌, List, length}
use Rattle.std.specs.Str.{IsUtf8}
use Rattle.rope_search_reports.specs.Escaping.{SpellsText, escaped_bytes}
use Rattle.rope_search_c.specs.Reading.{with_front}

-- the escaped text spells the text, and this is its number of bytes; it is at the buffer's start,
-- or doesn't fit, and the buffer is unchanged
pub record CopiesEscaped (text old new : List ℕ) (len : ℕ) : Type 0 where
  pub spells : SpellsText (escaped_bytes text) text
  pub counted : len ≡ length (escaped_bytes text)
  pub copied : ((len ≤ length old) × (new ≡ with_front (escaped_bytes text) old))
      ⊎ ((length old < len) × (new ≡ old))

-- why there is no escaped text: the bytes aren't UTF-8, with status 3, it would have more than
-- 65,536 bytes, with status 5, or out of memory, with status 7
abbrev pub IsNotEscaped : List ℕ → ℕ → Type 0
IsNotEscaped text status = ((status ≡ 3) × ¬ (IsUtf8 text))
    ⊎ ((status ≡ 5) × IsUtf8 text × (65536 < length (escaped_bytes text)))
    ⊎ (status ≡ 7)

-- the escaped text, with status 0; or there is none, and neither output is changed
abbrev pub WritesEscaped : List ℕ → ℕ → List ℕ → List ℕ → ℕ → ℕ → Type 0
WritesEscaped text status old new old_len len =
    ((status ≡ 0) × CopiesEscaped text old new len)
    ⊎ (IsNotEscaped text status × (new ≡ old) × (len ≡ old_len))
