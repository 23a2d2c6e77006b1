-- The result of a search for all matches.
use Rattle.std.specs.Prelude.{◌≡◌, ℕ, Bool, true, false, Option, Some, None, option_map}
use Rattle.unicode.specs.Perl.{is_word_char}
use Rattle.rx_util.specs.Search.{Found}
use Rattle.rx_walks.specs.Finds.{Search, up_to_place, PatternMatch}
use Rattle.rx_walks.specs.ProgramFinds.{ProgramFindsAll}
use Rattle.rx_utf8.specs.Automata.{is_in}
use Rattle.rx_program.specs.Programs.{ByteProgram, character_program}
use Rattle.rx_steps.specs.Searching.{IsFirstEnd}

-- a match as its start, its pattern and its end
abbrev pub pattern_match : Found → PatternMatch
pattern_match found =
    record { start = found.span.start; pattern = found.pattern; end = found.span.end }

-- what a program finds among all matches
abbrev pub IsAnswerAll : ByteProgram → Search → Option Found → Type 0
IsAnswerAll p s found =
    ProgramFindsAll is_in is_word_char (character_program p) s (option_map pattern_match found)

-- the result of a search that stops at an offset: what the program finds; or, if any match may be
-- reported and there is one, what it finds up to this offset, which is the first match end
abbrev pub IsAnswerAllAt : Bool → ByteProgram → Search → ℕ → Option Found → Type 0
IsAnswerAllAt false p s end found = IsAnswerAll p s found
IsAnswerAllAt true p s end None = IsAnswerAll p s None
IsAnswerAllAt true p s end (Some found) = (found.span.end ≡ end) × IsFirstEnd p s end
    × IsAnswerAll p (up_to_place s end) (Some found)
