-- The first line break of a text, and the breaks after it.
use Rattle.std.specs.Prelude.{◌≡◌, ℕ, ◌+◌, ◌-◌, ◌<◌, Bool, true, List, [], ◌∷◌, ◌++◌, take, drop, map}
use Rattle.std.specs.Str.{chars, IsCharBoundary, NonePass}
use Rattle.str_indices.specs.Text.{byte_len, ends_break, breaks, break_ends}

-- exactly one break, given the text after it: a character of the set, but no CR before an LF; or CR
-- LF, if both are in the set
abbrev pub IsBreak : (ℕ → Bool) → List ℕ → List ℕ → Type 0
IsBreak is_break (c ∷ []) rest = ends_break is_break c rest ≡ true
IsBreak is_break (c ∷ d ∷ []) rest = (c ≡ 13) × (d ≡ 10) × (is_break 13 ≡ true) × (is_break 10 ≡ true)
IsBreak is_break one rest = ⊥

-- The first break of a text, given as UTF-8, as a byte range. It splits the text into the line
-- before it, the break, and the rest.
pub record IsFirstBreak (is_break : ℕ → Bool) (bytes : List ℕ) (start end : ℕ) : Type 0 where
  pub starts : IsCharBoundary bytes start
  pub ends : IsCharBoundary bytes end
  pub order : start < end
  pub parts : chars bytes ≡ chars (take start bytes) ++ chars (take (end - start) (drop start bytes)) ++ chars (drop end bytes)
  -- no character of the set is before it
  pub line : NonePass is_break (chars (take start bytes))
  -- the range has exactly one break
  pub one : IsBreak is_break (chars (take (end - start) (drop start bytes))) (chars (drop end bytes))
  -- it ends where the first of all breaks does, and the others are those of the rest
  pub break_ends : break_ends is_break (chars bytes) ≡ end ∷ map (λ place. end + place) (break_ends is_break (chars (drop end bytes)))

-- after the first break, the breaks are those of the rest
abbrev pub GoesOnBehindFirstBreak : (ℕ → Bool) → Type 0
GoesOnBehindFirstBreak is_break = (line one rest : List ℕ) → NonePass is_break line → IsBreak is_break one rest
    → (breaks is_break (line ++ one ++ rest) ≡ breaks is_break rest + 1)
    × (break_ends is_break (line ++ one ++ rest) ≡ byte_len (line ++ one) ∷ map (λ place. byte_len (line ++ one) + place) (break_ends is_break rest))
