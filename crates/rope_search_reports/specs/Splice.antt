-- The effect of an edit on the lines of a text: it replaces some of them; all others stay.
use Rattle.std.specs.Prelude.{◌≡◌, ℕ, ◌+◌, ◌-◌, ◌≤◌, List, ◌++◌, take, drop}
use Rattle.str_indices.specs.Text.{byte_len, breaks}
use Rattle.ropey.specs.Chunks.{is_break}
use Rattle.rope_search_reports.specs.Report.{line_texts, AreRows, IsReport}
use Rattle.rope_search_reports.specs.Position.{line_at}

-- Lines `first` to `last` of the new text replace lines `first` to `gone` of the old one. No other
-- line changes. If `gone` is below `first`, no line of the old text is removed.
pub record IsSplice (old new : List ℕ) (first last gone : ℕ) : Type 0 where
  pub lines : line_texts new ≡ take first (line_texts old)
      ++ take (last + 1 - first) (drop first (line_texts new))
      ++ drop (gone + 1) (line_texts old)
  pub ordered : first ≤ last
  pub within : first ≤ gone + 1

-- If a text replaces another one, the lines from the one in which it starts to the one in which it
-- ends are new, whatever breaks are at its ends. They are at most its breaks plus one.
abbrev pub EditsSpliceLines : Type 0
EditsSpliceLines = (before removed inserted after : List ℕ)
    → IsSplice (before ++ removed ++ after) (before ++ inserted ++ after)
    (line_at (before ++ inserted ++ after) (byte_len before))
    (line_at (before ++ inserted ++ after) (byte_len before + byte_len inserted))
    (line_at (before ++ removed ++ after) (byte_len before + byte_len removed))
    × (line_at (before ++ inserted ++ after) (byte_len before + byte_len inserted)
    ≤ line_at (before ++ inserted ++ after) (byte_len before) + breaks is_break inserted)

-- The rows of unchanged lines are kept: with the rows of the new lines between them, they are the
-- report of the new text.
abbrev pub KeepsRows : Type 0
KeepsRows = (pattern old new : List ℕ) (first last gone : ℕ) (rows made : List (List (ℕ × ℕ)))
    → IsSplice old new first last gone → IsReport old pattern rows
    → AreRows pattern (take (last + 1 - first) (drop first (line_texts new))) made
    → IsReport new pattern (take first rows ++ made ++ drop (gone + 1) rows)
