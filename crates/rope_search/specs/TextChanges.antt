-- Which bytes of a text a call replaced.
use Rattle.std.specs.Prelude.{◌≡◌, ℕ, ◌+◌, ◌-◌, ◌≤◌, List, [], ◌∷◌, ◌++◌, drop, map, Bool, true, false}
use Rattle.std.specs.Str.{IsCharBoundary}
use Rattle.ropey.specs.Slices.{between}
use Rattle.rope_search_reports.specs.Text.{bytes_of}
use Rattle.rope_search_changes.specs.declared.Change.{Change}
use Rattle.rope_search.specs.declared.text_changes.TextChange.{TextChange}

-- From an offset of the old text and one of the new text on, the range is the next: it starts and
-- ends at character boundaries in both, and up to it both are the same.
pub record ComesNext (old new : List ℕ) (at at_new : ℕ) (range : TextChange) : Type 0 where
  pub forward : at ≤ range.old_start
  pub forward_new : at_new ≤ range.new_start
  pub ordered : range.old_start ≤ range.old_end
  pub ordered_new : range.new_start ≤ range.new_end
  pub starts : IsCharBoundary old range.old_start
  pub starts_new : IsCharBoundary new range.new_start
  pub ends : IsCharBoundary old range.old_end
  pub ends_new : IsCharBoundary new range.new_end
  pub same : between at range.old_start old ≡ between at_new range.new_start new

-- The ranges follow each other, and two may touch; outside of them both texts are the same.
abbrev pub RangesFollow : List ℕ → List ℕ → ℕ → ℕ → List TextChange → Type 0
RangesFollow old new at at_new [] = drop at old ≡ drop at_new new
RangesFollow old new at at_new (range ∷ ranges) =
    ComesNext old new at at_new range
    × RangesFollow old new range.old_end range.new_end ranges

-- In these ranges, ascending, bytes of the new text replace those of the old one.
abbrev pub AreTextChanges : List ℕ → List ℕ → List TextChange → Type 0
AreTextChanges old new ranges = RangesFollow (bytes_of old) (bytes_of new) 0 0 ranges

-- The old text from an offset on, each range replaced by that of the new text.
abbrev pub with_ranges : List ℕ → List ℕ → ℕ → List TextChange → List ℕ
with_ranges old new at [] = drop at old
with_ranges old new at (range ∷ ranges) =
    between at range.old_start old ++ between range.new_start range.new_end new
    ++ with_ranges old new range.old_end ranges

-- The old text with each range replaced by that of the new text is the new text.
abbrev pub TextChangesMakeText : Type 0
TextChangesMakeText = (old new : List ℕ) (ranges : List TextChange) → AreTextChanges old new ranges
    → with_ranges (bytes_of old) (bytes_of new) 0 ranges ≡ bytes_of new

-- ---- the ranges of changes

-- a text of this length replaces one of that length
abbrev pub whole_change : ℕ → ℕ → Change
whole_change old_len new_len = record { old_end = old_len; new_start = 0; new_end = new_len }

-- the range of a change; the one before it ends at these offsets
abbrev pub range_from : ℕ → ℕ → Change → TextChange
range_from at at_new change = record {
  old_start = at + (change.new_start - at_new);
  old_end = change.old_end;
  new_start = change.new_start;
  new_end = change.new_end;
}

abbrev pub ranges_from : ℕ → ℕ → List Change → List TextChange
ranges_from at at_new [] = []
ranges_from at at_new (change ∷ changes) =
    range_from at at_new change ∷ ranges_from change.old_end change.new_end changes

-- the ranges of changes that lead from one text to another
abbrev pub ranges_of : List Change → List TextChange
ranges_of changes = ranges_from 0 0 changes

-- a reversed range
abbrev pub turned_range : TextChange → TextChange
turned_range range = record {
  old_start = range.new_start;
  old_end = range.new_end;
  new_start = range.old_start;
  new_end = range.old_end;
}

-- a range, or its reverse
abbrev pub range_in : Bool → TextChange → TextChange
range_in false range = range
range_in true range = turned_range range

-- the ranges of changes, or of their reverse
abbrev pub ranges_in : Bool → List Change → List TextChange
ranges_in false changes = ranges_of changes
ranges_in true changes = map turned_range (ranges_of changes)
