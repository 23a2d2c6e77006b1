-- Positions in a few small texts, by computation.
use Rattle.std.specs.Prelude.{◌≡◌, [], ◌∷◌, codes, refl}
use Rattle.std.specs.Str.{chars}
use Rattle.std.proofs.Math.Utf8.{encode}
use Rattle.str_indices.specs.Text.{break_ends}
use Rattle.ropey.specs.Chunks.{is_break}
use Rattle.rope_search_reports.specs.Report.{line_texts}
use Rattle.rope_search_reports.specs.Position.{line_at, line_start, text_end, position}

-- the letter a, CR, LF, U+2028 and CR: CR LF ends at 3, U+2028 has three bytes and ends no line
pub ends_mixed : break_ends is_break (97 ∷ 13 ∷ 10 ∷ 0x2028 ∷ 13 ∷ []) ≡ 3 ∷ 7 ∷ []
ends_mixed = refl

-- the offset between CR and LF is in the line that the break ends
pub line_in_crlf : line_at (codes "\r\n") 1 ≡ 0
line_in_crlf = refl

pub line_after_crlf : line_at (codes "\r\n") 2 ≡ 1
line_after_crlf = refl

-- the end of a text that ends with a break is at the start of the last line
pub position_of_end : position (codes "ab\r\n") 4 ≡ (1, 0)
unfolding encode chars
position_of_end = refl

-- of the letter a, U+1F438 (a frog) and the letter b: the frog has four bytes and two code units
pub position_behind_frog : position (97 ∷ 0x1f438 ∷ 98 ∷ []) 5 ≡ (0, 3)
unfolding encode chars
position_behind_frog = refl

-- a line's text ends before its break, CR LF whole
pub text_end_crlf : text_end (codes "ab\r\ncd") 0 ≡ 2
unfolding encode line_texts
text_end_crlf = refl

pub text_end_last : text_end (codes "ab\r\ncd") 1 ≡ 6
unfolding encode line_texts
text_end_last = refl

-- past the last line
pub start_past : line_start (codes "ab\r\ncd") 2 ≡ 6
unfolding encode
start_past = refl
