-- Examples of the definitions on texts, each by computation.
use Rattle.std.specs.Prelude.{◌≡◌, [], ◌∷◌, codes, refl}
use Rattle.std.proofs.Math.Utf8.{encode}
use Rattle.str_indices.specs.Text.{breaks}
use Rattle.ropey.specs.Chunks.{is_break}
use Rattle.rope_search_reports.specs.Text.{line_count, bytes_of}

-- ---- breaks

-- the letter a, CR, LF, U+2028 and CR have two breaks: CR LF is one, U+2028 is none, and a CR at
-- the end is one
pub breaks_mixed : breaks is_break (97 ∷ 13 ∷ 10 ∷ 0x2028 ∷ 13 ∷ []) ≡ 2
breaks_mixed = refl

pub breaks_crlf : breaks is_break (13 ∷ 10 ∷ []) ≡ 1
breaks_crlf = refl

-- LF CR are two breaks
pub breaks_lfcr : breaks is_break (10 ∷ 13 ∷ []) ≡ 2
breaks_lfcr = refl

-- of LF, VT, FF, CR, U+0085, U+2028 and U+2029, only LF and CR are breaks
pub breaks_few : breaks is_break (10 ∷ 11 ∷ 12 ∷ 13 ∷ 0x85 ∷ 0x2028 ∷ 0x2029 ∷ []) ≡ 2
breaks_few = refl

-- a tab, U+001C and a space are none
pub breaks_none : breaks is_break (9 ∷ 0x1c ∷ 32 ∷ []) ≡ 0
breaks_none = refl

-- the empty text has one line
pub lines_empty : line_count [] ≡ 1
lines_empty = refl

-- a break at the end is followed by an empty line
pub lines_ended : line_count (codes "one\ntwo\n") ≡ 3
lines_ended = refl

-- ---- bytes

-- the UTF-8 of the character U+2028 has three bytes
pub bytes_separator : bytes_of (0x2028 ∷ []) ≡ 0xe2 ∷ 0x80 ∷ 0xa8 ∷ []
unfolding encode
bytes_separator = refl
