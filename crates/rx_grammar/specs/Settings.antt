-- The settings of parsing, and how flags in the pattern change them.
use Rattle.std.specs.Prelude.{ℕ, Bool, false, List, [], ◌∷◌}
use Rattle.rx_grammar.specs.declared.flags.Flag.{Flag}
use Rattle.rx_grammar.specs.declared.flags.Flag.TheVariants.{CaseInsensitive, MultiLine, DotMatchesNewLine, SwapGreed}

pub record Settings : Type 0 where
  pub case_insensitive : Bool
  pub multi_line : Bool
  pub dot_matches_new_line : Bool
  pub swap_greed : Bool
  -- how deeply groups and repetitions may be nested
  pub nest_limit : ℕ
  -- the byte that `.` doesn't match
  pub line_terminator : ℕ

-- all flags off, 250 levels, and LF as the line terminator
abbrev pub default_settings : Settings
default_settings = record {
  case_insensitive = false;
  multi_line = false;
  dot_matches_new_line = false;
  swap_greed = false;
  nest_limit = 250;
  line_terminator = 10;
}

-- the letter of a flag: i, m, s or U
abbrev pub letter_of : Flag → ℕ
letter_of CaseInsensitive = 105
letter_of MultiLine = 109
letter_of DotMatchesNewLine = 115
letter_of SwapGreed = 85

abbrev pub with_flag : Bool → Settings → Flag → Settings
with_flag on settings CaseInsensitive = record settings { case_insensitive = on }
with_flag on settings MultiLine = record settings { multi_line = on }
with_flag on settings DotMatchesNewLine = record settings { dot_matches_new_line = on }
with_flag on settings SwapGreed = record settings { swap_greed = on }

-- the settings with all these flags on, or all of them off
abbrev pub with_flags : Bool → Settings → List Flag → Settings
with_flags on settings [] = settings
with_flags on settings (flag ∷ flags) = with_flags on (with_flag on settings flag) flags
