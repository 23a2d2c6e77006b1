-- Checking UTF-8 in parts: what the bytes so far require of those that follow.
use Rattle.std.specs.Prelude.{◌≡◌, ℕ, Bool, false, List, ◌++◌, IsUtf8, ◌+◌, ◌↔◌}
use Rattle.std.specs.Str.{continuation_len}

-- the bytes of a character that isn't complete yet, and whether some bytes before it are no UTF-8
pub record Judging : Type 0 where
  pub part : List ℕ
  pub dead : Bool

-- all bytes so far, followed by `more`, are UTF-8
abbrev pub Continues : Judging → List ℕ → Type 0
Continues judging more = (judging.dead ≡ false) × IsUtf8 (judging.part ++ more)

-- these bytes were added: what may follow now is what may follow all of them
abbrev pub Feeds : Judging → Judging → List ℕ → Type 0
Feeds old new bytes = (more : List ℕ) → Continues old (bytes ++ more) ↔ Continues new more

-- the number of bytes of a character, given its first byte
abbrev pub len_by_first : ℕ → ℕ
len_by_first first = continuation_len first + 1
