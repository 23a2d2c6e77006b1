-- What look-around assertions need to know of a position: one byte on each side.
use Rattle.std.specs.Prelude.{ℕ, Bool, true, false, not, ◌&&◌, ◌==◌, nat_lt, Option, Some, None, cond}
use Rattle.unicode.specs.Perl.{is_word_char}
use Rattle.rx_walks.specs.Looks.{is_same}
use Rattle.rx_steps.specs.declared.asked.AskedLooks.{AskedLooks}
use Rattle.rx_steps.specs.declared.place.Looks.{Looks}
use Rattle.rx_dfa.specs.declared.behind.Behind.{Behind}
use Rattle.rx_dfa.specs.declared.behind.Behind.TheVariants.{Edge, Byte}

-- the byte is an ASCII word character
abbrev pub is_word_ascii : ℕ → Bool
is_word_ascii b = nat_lt b 128 && is_word_char b

-- what precedes a position after this byte, or none, as far as these assertions depend on it
abbrev pub behind_of : AskedLooks → ℕ → Option ℕ → Behind
behind_of asked terminator None = cond asked.any Edge (Byte false false)
behind_of asked terminator (Some b) =
    Byte (asked.lines && (b == terminator)) (asked.words && is_word_ascii b)

abbrev pub is_start : Behind → Bool
is_start Edge = true
is_start (Byte ends_line is_word) = false

abbrev pub starts_line : Behind → Bool
starts_line Edge = true
starts_line (Byte ends_line is_word) = ends_line

abbrev pub was_word : Behind → Bool
was_word Edge = false
was_word (Byte ends_line is_word) = is_word

abbrev pub is_end : Option ℕ → Bool
is_end None = true
is_end (Some b) = false

abbrev pub ends_line_at : ℕ → Option ℕ → Bool
ends_line_at terminator None = true
ends_line_at terminator (Some b) = b == terminator

abbrev pub is_word_at : Option ℕ → Bool
is_word_at None = false
is_word_at (Some b) = is_word_ascii b

-- the assertions that hold between this and the following byte, or none
abbrev pub looks_of : ℕ → Behind → Option ℕ → Looks
looks_of terminator behind ahead = record {
  start = is_start behind;
  end = is_end ahead;
  start_line = starts_line behind;
  end_line = ends_line_at terminator ahead;
  word_boundary = not (is_same (was_word behind) (is_word_at ahead));
  no_word_boundary = is_same (was_word behind) (is_word_at ahead);
}

-- with word assertions, a search must quit before a byte that isn't ASCII
abbrev pub quits : AskedLooks → Option ℕ → Bool
quits asked None = false
quits asked (Some b) = asked.words && not (nat_lt b 128)
