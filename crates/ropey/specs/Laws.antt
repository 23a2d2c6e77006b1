-- Laws of the definitions, for every rope.
use Rattle.std.specs.Prelude.{◌≡◌, ◌+◌, ◌≤◌, ℕ, List, ◌++◌, length, take, drop}
use Rattle.ropey.specs.Edits.{with_inserted, with_removed}
-- no CR LF is split between two pieces; texts are the same exactly if their bytes are
pub use Rattle.ropey_walk.specs.Laws.{NoCuttingCutsCrLf, EqualWhereTextsAre}

-- removing the inserted characters undoes an insertion
abbrev pub RemovalUndoesInsertion : Type 0
RemovalUndoesInsertion = (text inserted : List ℕ) (at : ℕ) → at ≤ length text
    → with_removed (with_inserted text at inserted) at (at + length inserted) ≡ text

-- appending the second part undoes a split
abbrev pub AppendUndoesSplit : Type 0
AppendUndoesSplit = (text : List ℕ) (at : ℕ) → take at text ++ drop at text ≡ text
