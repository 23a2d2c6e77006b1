-- The rest of a text that is copied from its start on.
use Rattle.std.specs.Prelude.{ℕ, List}

-- its bytes, the number of them that are left of a chunk, and the number of chunks after that
pub record LeftState : Type 0 where
  pub bytes : List ℕ
  pub shown : ℕ
  pub chunks : ℕ
