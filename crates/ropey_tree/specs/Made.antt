-- What an edit makes.
use Rattle.std.specs.Prelude.{ℕ}

-- the number of nodes that were made
pub record MadeNodes : Type 0 where
  pub nodes : ℕ
