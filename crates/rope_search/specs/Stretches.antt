-- Which rows of a report were replaced.
use Rattle.std.specs.Prelude.{◌≡◌, ℕ, ◌+◌, ◌≤◌, List, [], ◌∷◌, length, take, drop, Option, None, Some}
use Rattle.rope_search_reports.specs.Report.{IsReport}
use Rattle.rope_search_reports.specs.Turned.{lines_put}
use Rattle.rope_search_changes.specs.declared.Change.{Change}
use Rattle.rope_search.specs.declared.stretches.Stretch.{Stretch}

-- A part of an old list, and the part of a new one that replaced it: before and after them both
-- lists are alike.
pub record IsStretch {A : Type 0} (old new : List A) (stretch : Stretch) : Type 0 where
  pub before : take stretch.first new ≡ take stretch.first old
  pub behind : drop (stretch.first + stretch.added) new ≡ drop (stretch.first + stretch.removed) old
  pub within : stretch.first + stretch.removed ≤ length old
  pub within_new : stretch.first + stretch.added ≤ length new

-- nothing was replaced
abbrev pub none : Stretch
none = record { first = 0; removed = 0; added = 0 }

-- everything was replaced, given the old and the new number
abbrev pub whole_stretch : ℕ → ℕ → Stretch
whole_stretch removed added = record { first = 0; removed = removed; added = added }

-- it is such a part of the reports of two texts, for a pattern
abbrev pub ReplacesIn : List ℕ → List ℕ → List ℕ → Stretch → Type 0
ReplacesIn old new pattern stretch = (rows rows' : List (List (ℕ × ℕ)))
    → IsReport old pattern rows → IsReport new pattern rows' → IsStretch rows rows' stretch

-- ---- its length, for changes that lead to a text

-- the change from where the first of the changes starts to where the last ends
abbrev pub hull : Change → List Change → Change
hull first [] = first
hull first (change ∷ changes) = record {
  old_end = (hull change changes).old_end;
  new_start = first.new_start;
  new_end = (hull change changes).new_end;
}

abbrev pub hull_of : List Change → Option Change
hull_of [] = None
hull_of (change ∷ changes) = Some (hull change changes)

-- the number of lines of the new text from where the first change starts to where the last one ends
abbrev pub lines_spanned : List ℕ → List Change → ℕ
lines_spanned content [] = 0
lines_spanned content (change ∷ changes) = lines_put content (hull change changes ∷ [])
