-- The lines of a few small texts, each by computation.
use Rattle.std.specs.Prelude.{◌≡◌, [], ◌∷◌, codes, refl}
use Rattle.rope_search_reports.specs.Report.{line_texts}

-- the empty text has one line
pub lines_of_nothing : line_texts [] ≡ [] ∷ []
unfolding line_texts
lines_of_nothing = refl

-- a line's text excludes both CR and LF, and a break at the end is followed by an empty line
pub lines_crlf : line_texts (codes "q\r\nq\n") ≡ codes "q" ∷ codes "q" ∷ [] ∷ []
unfolding line_texts
lines_crlf = refl

-- LF CR are two breaks
pub lines_lfcr : line_texts (10 ∷ 13 ∷ []) ≡ [] ∷ [] ∷ [] ∷ []
unfolding line_texts
lines_lfcr = refl

-- of the letter a, CR, LF, U+2028 and CR: U+2028 is text of its line
pub lines_mixed : line_texts (97 ∷ 13 ∷ 10 ∷ 0x2028 ∷ 13 ∷ []) ≡ codes "a" ∷ (0x2028 ∷ []) ∷ [] ∷ []
unfolding line_texts
lines_mixed = refl
