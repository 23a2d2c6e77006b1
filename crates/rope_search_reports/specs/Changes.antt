-- The effect of several changes on the lines of a text.
use Rattle.std.specs.Prelude.{◌≡◌, ℕ, ◌+◌, ◌-◌, ◌≤◌, ◌⊎◌, List, [], ◌++◌, length, take, drop, max}
use Rattle.str_indices.specs.Text.{byte_len, breaks}
use Rattle.ropey.specs.Chunks.{is_break}
use Rattle.rope_search_reports.specs.Report.{line_texts}
use Rattle.rope_search_reports.specs.Position.{line_at}
pub use Rattle.rope_search_changes.specs.Changes.{IsChange, AreChanges}

-- Two texts up to an offset after which they are alike, and how many of their lines are done: none
-- before the first change, afterwards those up to the one in which the last change ends.
pub record IsAtStart (before before' : List ℕ) (kept done : ℕ) : Type 0 where
  pub old : before ≡ []
  pub new : before' ≡ []
  pub none : kept ≡ 0
  pub none_new : done ≡ 0

pub record StandsAtLines (old new : List ℕ) (at_old at_new kept done : ℕ) : Type 0 where
  pub old_is : kept ≡ line_at old at_old + 1
  pub new_is : done ≡ line_at new at_new + 1

abbrev pub IsInStep : List ℕ → List ℕ → List ℕ → List ℕ → ℕ → ℕ → Type 0
IsInStep before before' after after' kept done =
    IsAtStart before before' kept done
    ⊎ StandsAtLines (before ++ after) (before' ++ after')
    (byte_len before) (byte_len before') kept done

-- One more change. Lines `done` to `start` of the new text are those of the old one from `kept` on;
-- lines `start` to `last` are new; those up to `gone` of the old text are removed.
pub record IsFurther (old new : List ℕ) (kept done start last gone : ℕ) : Type 0 where
  pub lines : take (last + 1) (line_texts new) ≡ take done (line_texts new)
      ++ take (start - done) (drop kept (line_texts old))
      ++ take (last + 1 - start) (drop start (line_texts new))
  pub forward : done ≤ start
  pub ordered : start ≤ last + 1
  pub within : kept + (start - done) ≤ gone + 1
  pub inside : gone + 1 ≤ length (line_texts old)
  pub inside_new : last + 1 ≤ length (line_texts new)

-- Lines that begin after a change and end before the next one are unchanged, whatever breaks are at
-- the ends of the changes. A change replaces at most one line plus one for each break that it
-- inserts.
abbrev pub ChangesKeepLines : Type 0
ChangesKeepLines = (before before' gap removed inserted after after' : List ℕ) (kept done : ℕ)
    → IsInStep before before' (gap ++ removed ++ after) (gap ++ inserted ++ after') kept done
    → let old = before ++ gap ++ removed ++ after in
    let new = before' ++ gap ++ inserted ++ after' in
    let start = max (line_at new (byte_len (before' ++ gap))) done in
    let last = line_at new (byte_len (before' ++ gap ++ inserted)) in
    let gone = line_at old (byte_len (before ++ gap ++ removed)) in
    IsFurther old new kept done start last gone
    × (last + 1 - start ≤ breaks is_break inserted + 1)

-- after the last change
abbrev pub TailsKeepLines : Type 0
TailsKeepLines = (before before' tail : List ℕ) (kept done : ℕ)
    → IsInStep before before' tail tail kept done
    → line_texts (before' ++ tail) ≡ take done (line_texts (before' ++ tail))
    ++ drop kept (line_texts (before ++ tail))
