-- Machines: what a program does at each node and each offset of a haystack.
use Rattle.std.specs.Prelude.{◌≡◌, ℕ, ◌<◌, List}

-- the move at a node: a pattern's match ends; or epsilon transitions lead on, the preferred one
-- first; or one edge reads up to a later offset. A node without an edge goes to no node.
pub data Move (Q : Type 0) : Type 0 where
  ends : ℕ → Move Q
  goes : List Q → Move Q
  reads : Q → ℕ → Move Q

-- the move for each offset and node, and the notes after an epsilon transition; nodes are of Q,
-- notes of N
pub record Machine (Q N : Type 0) : Type 0 where
  pub move : ℕ → Q → Move Q
  pub note : ℕ → Q → N → N

-- the outcome of a walk: the pattern that it matches, the offset at which it ends, and its notes
pub record Outcome (N : Type 0) : Type 0 where
  pub pattern : ℕ
  pub end : ℕ
  pub notes : N

-- each read leads forward
abbrev pub IsForward : {Q N : Type 0} → Machine Q N → Type 0
IsForward {Q} m = (i j : ℕ) (q r : Q) → m.move i q ≡ reads r j → i < j
