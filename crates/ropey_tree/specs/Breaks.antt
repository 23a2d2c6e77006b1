-- The line breaks of a rope. All definitions that are about them use this word, and the code uses
-- the module `breaks`.
use Rattle.std.specs.Prelude.{ℕ, Bool}
use Rattle.str_indices.specs.Text.{is_crlf_break}

-- the characters that break a line: LF and CR, with CR LF as one break
abbrev pub is_break : ℕ → Bool
is_break = is_crlf_break
