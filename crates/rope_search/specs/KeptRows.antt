-- Rows that a step between two texts took out of a report, kept for the way back.
use Rattle.std.specs.Prelude.{◌≡◌, ◌≢◌, ◌⊎◌, ℕ, ◌+◌, ◌-◌, ◌*◌, ◌<◌, ◌≤◌, List, length, sum_by, All, Option, Some}
use Rattle.rope_search_reports.specs.declared.patches.Patch.{Patch}
use Rattle.rope_search_reports.specs.Patches.{AreInTurn, patched}
use Rattle.rope_search_reports.specs.Report.{IsReport}
use Rattle.rope_search_reports.specs.Text.{line_count}
use Rattle.rope_search.specs.declared.kept_rows.KeptRows.{KeptRows}
use Rattle.rope_search.specs.Histories.{text_at}

-- each patch has as many rows as it replaces, so that no other row moves
abbrev pub MoveNoRow : List Patch → Type 0
MoveNoRow patches =
    All (λ (patch : Patch). patch.first + length patch.made.items ≡ patch.end) patches

-- the patches put old rows back in place of new ones, and move no row
pub record PutBack (new old : List (List (ℕ × ℕ))) (patches : List Patch) : Type 0 where
  pub in_turn : AreInTurn 0 (length new) patches
  pub still : MoveNoRow patches
  pub old_is : patched 0 new patches ≡ old

-- the patches turn the report of one text into that of another, for a pattern, and move no row
pub record TurnRows (pattern old new : List ℕ) (patches : List Patch) : Type 0 where
  pub in_turn : AreInTurn 0 (line_count old) patches
  pub still : MoveNoRow patches
  pub report : (rows : List (List (ℕ × ℕ))) → IsReport old pattern rows
      → IsReport new pattern (patched 0 rows patches)

-- the step that leads to the text with this number can be undone if that is the current one or
-- before it, and else be redone; the kept rows are those of the text on the other side
pub record HoldsStep (texts : List (List ℕ)) (current : ℕ) (pattern : List ℕ)
    (kept : KeptRows) : Type 0 where
  pub back : kept.step ≤ current
      → TurnRows pattern (text_at texts kept.step) (text_at texts (kept.step - 1))
      kept.patches.items
  pub forward : current < kept.step
      → TurnRows pattern (text_at texts (kept.step - 1)) (text_at texts kept.step)
      kept.patches.items

-- if a pattern is set, kept rows are for it
abbrev pub HoldsKept : List (List ℕ) → ℕ → Option (List ℕ) → Option KeptRows → Type 0
HoldsKept texts current pattern kept = (own : List ℕ) (rows : KeptRows)
    → pattern ≡ Some own → kept ≡ Some rows → HoldsStep texts current own rows

-- after a step from one text to another, kept rows are those of the text that was left, or of
-- another step, as before
abbrev pub KeepsStep : ℕ → List ℕ → List ℕ → List ℕ → Option KeptRows → Option KeptRows → Type 0
KeepsStep step pattern old new kept kept' = (rows : KeptRows) → kept' ≡ Some rows
    → ((rows.step ≡ step) × TurnRows pattern new old rows.patches.items)
    ⊎ ((kept ≡ Some rows) × (rows.step ≢ step))

-- ---- their memory

-- the bytes that are counted for a row and for a patch
abbrev pub row_bytes : List (ℕ × ℕ) → ℕ
row_bytes row = 40 + 16 * length row

abbrev pub patch_bytes : Patch → ℕ
patch_bytes patch = 40 + sum_by row_bytes patch.made.items

-- those that are counted for patches
abbrev pub bytes_kept : List Patch → ℕ
bytes_kept patches = sum_by patch_bytes patches
