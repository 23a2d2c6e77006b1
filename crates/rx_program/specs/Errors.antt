-- The parts of an error.
use Rattle.std.specs.Prelude.{ℕ, Option, Some, None}
use Rattle.rx_grammar.specs.declared.error.SyntaxError.{SyntaxError}
use Rattle.rx_program.specs.declared.error.BuildError.{BuildError}
use Rattle.rx_program.specs.declared.error.BuildError.TheVariants.{Syntax, Size}

-- the first pattern that isn't valid
abbrev pub pattern_in : BuildError → Option ℕ
pattern_in (Syntax pattern error) = Some pattern
pattern_in _ = None

-- why that pattern isn't valid
abbrev pub syntax_in : BuildError → Option SyntaxError
syntax_in (Syntax pattern error) = Some error
syntax_in _ = None

-- the limit that the patterns exceed
abbrev pub limit_in : BuildError → Option ℕ
limit_in (Size limit) = Some limit
limit_in _ = None
