-- Edits of a text, which is the list of its characters.
use Rattle.std.specs.Prelude.{ℕ, List, ◌++◌, take, drop}
-- a text with the part between two byte indices replaced
pub use Rattle.ropey_tree.specs.Edits.{IsReplaced}

-- a text with another one inserted before a character, or at the end
abbrev pub with_inserted : List ℕ → ℕ → List ℕ → List ℕ
with_inserted text at inserted = take at text ++ inserted ++ drop at text

-- a text without the characters from `start` to `end`, exclusive
abbrev pub with_removed : List ℕ → ℕ → ℕ → List ℕ
with_removed text start end = take start text ++ drop end text

-- a text, or its bytes, with those from `start` to `end`, exclusive, replaced
abbrev pub with_replaced : List ℕ → ℕ → ℕ → List ℕ → List ℕ
with_replaced text start end new = take start text ++ new ++ drop end text
