-- Changes that lead from one text to another, and back.
use Rattle.std.specs.Prelude.{◌≡◌, ℕ, ◌+◌, ◌-◌, List, [], ◌∷◌, sum_by}
use Rattle.rope_search_reports.specs.Text.{IsText, bytes_of, line_count}
use Rattle.rope_search_reports.specs.Changes.{AreChanges}
use Rattle.rope_search_reports.specs.Replacement.{between}
use Rattle.rope_search_changes.specs.declared.Change.{Change}
use Rattle.rope_search_reports.specs.declared.changes.Changes.{Changes}
use Rattle.rope_search_reports.specs.declared.changes.Changes.TheVariants.{One, Many}

-- the changes turn the old text into the new one
abbrev pub Lead : List Change → List ℕ → List ℕ → Type 0
Lead changes old new = (n : ℕ) × AreChanges changes 0 0 old new n

-- the changes as a list
abbrev pub listed : Changes → List Change
listed (One change) = change ∷ []
listed (Many changes) = changes.items

-- The reverse of a change: it removes what the change inserts into the new text, and inserts what
-- it removes from the old one. The rest of both texts starts at these offsets.
abbrev pub turned_from : ℕ → ℕ → Change → Change
turned_from at_old at_new change = record {
  old_end = change.new_end;
  new_start = at_old + (change.new_start - at_new);
  new_end = change.old_end;
}

-- the reversed changes, from two offsets on
abbrev pub turned_changes : ℕ → ℕ → List Change → List Change
turned_changes at_old at_new [] = []
turned_changes at_old at_new (change ∷ changes) =
    turned_from at_old at_new change ∷ turned_changes change.old_end change.new_end changes

-- the number of lines that the changes may have searched in the new text: for each change the
-- number of breaks that it inserts plus one
abbrev pub lines_put : List ℕ → List Change → ℕ
lines_put content changes =
    sum_by (λ (change : Change). line_count (between content change.new_start change.new_end))
    changes

-- reversed changes lead from the new text to the old one
abbrev pub ChangesLeadBack : Type 0
ChangesLeadBack = (changes : List Change) (old new : List ℕ)
    → Lead changes old new → Lead (turned_changes 0 0 changes) new old

-- reversing changes twice gives them back
abbrev pub ChangesTurnTwice : Type 0
ChangesTurnTwice = (changes : List Change) (old new : List ℕ)
    → Lead changes old new → turned_changes 0 0 (turned_changes 0 0 changes) ≡ changes

-- the lines that changes may have searched are those of what they insert
abbrev pub ChangesPutLines : Type 0
ChangesPutLines = (changes : List Change) (old new : List ℕ) (n : ℕ) → IsText new
    → AreChanges changes 0 0 old new n → n ≡ lines_put (bytes_of new) changes
