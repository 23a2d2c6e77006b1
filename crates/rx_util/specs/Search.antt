-- What a search finds, as contracts see it.
use Rattle.std.specs.Prelude.{ℕ}
use Rattle.rx_util.specs.declared.search.Span.{Span}

-- a match: the pattern and the span
pub record Found : Type 0 where
  pub pattern : ℕ
  pub span : Span

-- the pattern that matched, and one end of the match
pub record HalfFound : Type 0 where
  pub pattern : ℕ
  pub offset : ℕ
