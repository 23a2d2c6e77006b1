-- A pending pattern. A buffer keeps it beside its own pattern, and searches its text for it in
-- slices. Once all lines are done, it takes the place of the buffer's pattern.
use Rattle.std.specs.Prelude.{◌≡◌, ℕ, ◌+◌, ◌-◌, ◌^◌, ◌<◌, ◌≤◌, List, [], ◌∷◌, ◌++◌, take, drop, min, Bool, true, false, if◌then◌else◌, Option, None, Some, is_some, option_map, MatchOption, IfSome}
use Rattle.rope_search_reports.specs.Position.{line_at}
use Rattle.rope_search_reports.specs.Report.{line_texts, AreRows, IsReport, match_count}
use Rattle.rope_search_reports.specs.Text.{line_count}
use Rattle.rope_search.specs.declared.text_changes.TextChange.{TextChange}
use Rattle.rope_search.specs.Session.{BufferState, LimitedBuffer, PendingPattern, State, chosen_buffer, current_text, with_chosen, with_pattern}
use Rattle.rope_search.specs.Stretches.{whole_stretch}

-- ---- the rows of the lines that are done

-- These are the rows of the first lines of a text, for a pattern: this many.
pub record AreFirstRows (text pattern : List ℕ) (done : ℕ) (rows : List (List (ℕ × ℕ)))
    : Type 0 where
  pub within : done ≤ line_count text
  pub are : AreRows pattern (take done (line_texts text)) rows

-- They are the first rows of the report of that text and that pattern.
abbrev pub FirstRowsAreOfReport : Type 0
FirstRowsAreOfReport = (text pattern : List ℕ) (done : ℕ) (rows report : List (List (ℕ × ℕ)))
    → AreFirstRows text pattern done rows → IsReport text pattern report → rows ≡ take done report

-- These are the pending rows of a buffer: those of the first lines of its current text, for its
-- pending pattern. There are none without one.
abbrev pub ArePendingRows : LimitedBuffer → List (List (ℕ × ℕ)) → Type 0
ArePendingRows buffer rows = MatchOption buffer.pending (rows ≡ []) (λ pending.
    AreFirstRows (current_text buffer.state) pending.pattern pending.done rows)

-- The rows of lines `from` up to `to` of the current text for the pending pattern are those of the
-- pending rows that there are of these lines, and then the ones made.
abbrev pub CompletesWindow : LimitedBuffer → ℕ → ℕ → List (List (ℕ × ℕ)) → Type 0
CompletesWindow buffer from to made = (pending : PendingPattern) (rows : List (List (ℕ × ℕ)))
    → buffer.pending ≡ Some pending → ArePendingRows buffer rows
    → AreRows pending.pattern (take (to - from) (drop from (line_texts (current_text buffer.state))))
    (take (to - from) (drop from rows) ++ made)

-- They have fewer matches than 2 ^ 64.
abbrev pub HasFewInWindow : LimitedBuffer → ℕ → ℕ → List (List (ℕ × ℕ)) → Type 0
HasFewInWindow buffer from to made = (rows : List (List (ℕ × ℕ))) → ArePendingRows buffer rows
    → match_count (take (to - from) (drop from rows) ++ made) < 2 ^ 64

-- ---- calls for the pending pattern

-- how many rows the report of a buffer has; none without a pattern
abbrev pub report_len : BufferState → ℕ
report_len buffer = if is_some buffer.pattern then line_count (current_text buffer) else 0

-- What `set_pattern` makes of a buffer: it has this pattern, says that all rows changed, and nothing
-- is pending.
abbrev pub patterned : LimitedBuffer → List ℕ → LimitedBuffer
patterned buffer pattern = record buffer {
  state = with_pattern buffer.state (Some pattern);
  changed = whole_stretch (report_len buffer.state) (line_count (current_text buffer.state));
  pending = None;
}

-- A pattern is pending, in place of any other, and no line is done.
abbrev pub Begins : List ℕ → LimitedBuffer → LimitedBuffer → Type 0
Begins pattern old new =
    new ≡ record old { pending = Some (record { pattern = pattern; done = 0 }) }

-- Nothing is pending, and all else is as before.
abbrev pub Cancels : LimitedBuffer → LimitedBuffer → Type 0
Cancels old new = new ≡ record old { pending = None }

-- how many lines of a text are not done; none without a pending pattern
abbrev pub left_in : List ℕ → Option PendingPattern → ℕ
left_in text None = 0
left_in text (Some pending) = line_count text - pending.done

abbrev pub lines_left : LimitedBuffer → ℕ
lines_left buffer = left_in (current_text buffer.state) buffer.pending

-- Up to this many further lines are done. If these are all that were left, the buffer is the one
-- that `set_pattern` makes; else the pattern stays pending, and all else is as before.
abbrev pub Advances : ℕ → Bool → LimitedBuffer → LimitedBuffer → Type 0
Advances lines true old new = (lines_left old ≤ lines)
    × IfSome old.pending (λ pending. new ≡ patterned old pending.pattern)
Advances lines false old new = (lines < lines_left old) × IfSome old.pending (λ pending.
    new ≡ record old { pending = Some (record pending { done = pending.done + lines }) })

-- the session after that: its chosen buffer has the pending pattern, or all are as before
abbrev pub StateAdvances : State → LimitedBuffer → Bool → State → Type 0
StateAdvances old buffer true new = IfSome buffer.pending (λ pending.
    new ≡ with_chosen old (with_pattern (chosen_buffer old) (Some pending.pattern)))
StateAdvances old buffer false new = new ≡ old

-- ---- calls that change the text

-- In these ranges of the text others were replaced. Of the lines that were done those before the
-- first range stay done.
abbrev pub done_before : List ℕ → List TextChange → ℕ → ℕ
done_before text [] done = done
done_before text (range ∷ ranges) done = min done (line_at text range.new_start)

-- The pattern stays pending, with the lines done that are before the first change of the text.
abbrev pub KeepsPending : LimitedBuffer → LimitedBuffer → Type 0
KeepsPending old new = new.pending ≡ option_map (λ (pending : PendingPattern). record pending {
  done = done_before (current_text new.state) new.text_changes pending.done;
}) old.pending
