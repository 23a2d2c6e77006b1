-- Texts: the ends of their characters and line breaks, and their UTF-16 code units. A text is a
-- list of Unicode scalar values. An offset in it is a number of bytes of its UTF-8.
use Rattle.std.specs.Prelude.{◌≡◌, ℕ, zero, suc, ◌+◌, Bool, false, not, ◌&&◌, ◌||◌, if◌then◌else◌, List, [], ◌∷◌, ◌++◌, length, replicate, sum_by, count_by, slice_index_or, encode_utf8_all, nat_le, ◌==◌}
use Rattle.std.specs.Char.{len_utf8}

-- the number of bytes of a text
abbrev pub byte_len : List ℕ → ℕ
byte_len text = length (encode_utf8_all text)

-- ---- the CR and the LF of a CR LF
-- CR is 13, and LF is 10
abbrev pub ends_with_cr : List ℕ → Bool
ends_with_cr [] = false
ends_with_cr (c ∷ []) = c == 13
ends_with_cr (c ∷ d ∷ cs) = ends_with_cr (d ∷ cs)

abbrev pub starts_with_lf : List ℕ → Bool
starts_with_lf [] = false
starts_with_lf (c ∷ cs) = c == 10

-- the first text ends in CR and the second starts with LF
abbrev pub cuts_cr_lf : List ℕ → List ℕ → Bool
cuts_cr_lf first second = ends_with_cr first && starts_with_lf second

-- no CR LF is split between two texts
abbrev pub NoCrLfBetween : List ℕ → List ℕ → Type 0
NoCrLfBetween first second = cuts_cr_lf first second ≡ false

-- ---- the three sets of break characters
-- LF, VT, FF and CR, which are 10 to 13, U+0085, U+2028 and U+2029
abbrev pub is_line_break : ℕ → Bool
is_line_break c = (nat_le 10 c && nat_le c 13) || (c == 0x85) || (c == 0x2028) || (c == 0x2029)

-- LF and CR
abbrev pub is_crlf_break : ℕ → Bool
is_crlf_break c = (c == 10) || (c == 13)

-- LF
abbrev pub is_lf_break : ℕ → Bool
is_lf_break c = c == 10

-- ---- ends of characters
-- The byte offset at which each character ends, repeated as often as it counts. That may depend on
-- the text after the character. The text starts at offset `at`.
abbrev pub ends_from : (ℕ → List ℕ → ℕ) → ℕ → List ℕ → List ℕ
ends_from count at [] = []
ends_from count at (c ∷ cs) = replicate (count c cs) (at + len_utf8 c) ++ ends_from count (at + len_utf8 c) cs

-- each character counts once
abbrev pub char_ends : List ℕ → List ℕ
char_ends text = ends_from (λ _ _. 1) 0 text

-- c is in the set, and no CR before an LF
abbrev pub ends_break : (ℕ → Bool) → ℕ → List ℕ → Bool
ends_break is_break c rest = is_break c && not ((c == 13) && starts_with_lf rest)

-- a character counts once if it ends a break
abbrev pub break_ends : (ℕ → Bool) → List ℕ → List ℕ
break_ends is_break text = ends_from (λ c rest. if ends_break is_break c rest then 1 else 0) 0 text

-- the number of line breaks of a text
abbrev pub breaks : (ℕ → Bool) → List ℕ → ℕ
breaks is_break text = length (break_ends is_break text)

-- ---- UTF-16 code units
-- the number of code units of a character: two from U+10000 on, else one
abbrev pub units_of : ℕ → ℕ
units_of c = if nat_le 0x1_0000 c then 2 else 1

-- the number of code units of a text
abbrev pub units : List ℕ → ℕ
units text = sum_by units_of text

-- the number of characters of two code units
abbrev pub surrogate_pairs : List ℕ → ℕ
surrogate_pairs text = count_by (λ c. nat_le 0x1_0000 c) text

-- the end of the character that contains each unit
abbrev pub unit_ends : List ℕ → List ℕ
unit_ends text = ends_from (λ c _. units_of c) 0 text

-- the byte offset at which each character starts, repeated as often as it counts, as in `ends_from`
abbrev pub starts_from : (ℕ → List ℕ → ℕ) → ℕ → List ℕ → List ℕ
starts_from count at [] = []
starts_from count at (c ∷ cs) = replicate (count c cs) at ++ starts_from count (at + len_utf8 c) cs

-- the start of the character that contains each unit
abbrev pub unit_starts : List ℕ → List ℕ
unit_starts text = starts_from (λ c _. units_of c) 0 text

-- ---- conversions
-- the number of ends at or before an offset
abbrev pub ends_up_to : ℕ → List ℕ → ℕ
ends_up_to place ends = count_by (λ e. nat_le e place) ends

-- the k-th end, 0 for k = 0, and `last` past the last end
abbrev pub end_place : List ℕ → ℕ → ℕ → ℕ
end_place ends zero last = 0
end_place ends (suc k) last = slice_index_or ends k last
