-- The sets of a pattern.
use Rattle.std.specs.Prelude.{ℕ}
use Rattle.rx_grammar.specs.Settings.{Settings}
-- how sets are stored, and those of the letter classes
pub use Rattle.rx_sets.specs.Sets.{Range, IsScalar, ordinal, IsSetOf, FoldedIf, InPerl}

-- the set of a literal or a class with the characters P: with `i` it is closed under folding
abbrev pub Folded : Settings → (ℕ → Type 0) → ℕ → Type 0
Folded settings P c = FoldedIf settings.case_insensitive P c
