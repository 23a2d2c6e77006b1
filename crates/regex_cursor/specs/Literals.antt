-- The literals that a program's matches begin with, are, or contain.
use Rattle.std.specs.Prelude.{◌≡◌, ◌≤◌, None, IfSome}
use Rattle.rx_util.specs.declared.search.Anchored.TheVariants.{No}
use Rattle.rx_input.specs.Inputs.{Asked}
use Rattle.rx_program.specs.Programs.{ByteProgram, character_program}
use Rattle.rx_literals.specs.Beginnings.{MatchesBeginWith}
use Rattle.rx_literals.specs.ByteSets.{MatchesBeginIn}
use Rattle.rx_literals.specs.Literals.{IsLiteralOf}
use Rattle.rx_literals.specs.Requirements.{MatchesContain}
use Rattle.regex_cursor.specs.declared.engines.meta.literals.Literals.{Literals}

-- nothing is known of them
abbrev pub no_literals : Literals
no_literals = record { beginnings = None; whole = None; required = None; first = None }

-- what is known of a program's literals holds: each match begins with one, is one, or contains one;
-- or it begins with one of these bytes
pub record AreLiteralsOf (p : ByteProgram) (literals : Literals) : Type 0 where
  pub beginnings : IfSome literals.beginnings
      (λ needles. MatchesBeginWith needles (character_program p))
  pub whole : IfSome literals.whole (λ needles. IsLiteralOf needles (character_program p))
  pub required : IfSome literals.required (λ needles. MatchesContain needles (character_program p))
  pub first : IfSome literals.first (λ bytes. MatchesBeginIn bytes (character_program p))

-- matches are requested anywhere in a span that is inside the slice
pub record AsksInSlice (a : Asked) : Type 0 where
  pub unanchored : a.anchored ≡ No
  pub from : a.slice.start ≤ a.span.start
  pub to : a.span.end ≤ a.slice.end
