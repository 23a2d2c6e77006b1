-- The report that an answer shows.
use Rattle.std.proofs.Common.{◌≡◌, ℕ, List, [], Option, None, Some, Result, Ok, Err, Bor, refl, sym, subst}
use Rattle.std.specs.Prelude.{IfSome, MatchOption, MatchResult, unwrap_or}
use Rattle.rope_search_io.specs.declared.faults.Broken.{Broken}
use Rattle.rope_search_io.specs.Sources.{SinkState}
use Rattle.rope_search_io.specs.WriteBuffer.{Writes, WritesUntil}
use Rattle.rope_search.specs.declared.commands.Reply.TheVariants.{List as Listing}
use Rattle.rope_search_reports.specs.Report.{IsReport}
use Rattle.rope_search.specs.Session.{State, BufferState, current_text, chosen_buffer, IsReportIn}
use Rattle.rope_search.specs.Shows.{IsShown, shown_report}

-- the rows that a buffer returns, or none
pub listed_or : (buffer : BufferState) (told : Option (Bor (List (List (ℕ × ℕ))))) (other : Bor (List (List (ℕ × ℕ)))) → IfSome told (λ rows. IsReportIn buffer rows.now)
    → (told ≡ None → buffer.pattern ≡ None) → other.now ≡ [] → IsReportIn buffer (unwrap_or told other).now
listed_or buffer (Some rows) other report none empty = report
listed_or buffer None other report none empty =
    subst (λ (p : Option (List ℕ)). MatchOption p (other.now ≡ []) (λ pattern. IsReport (current_text buffer) pattern other.now)) (sym (none refl)) empty

-- if they were written, the answer was
pub IsShown-list : (s : State) (rows : List (List (ℕ × ℕ))) (r : Result Unit Broken) (a b : SinkState) → IsReportIn (chosen_buffer s) rows
    → MatchResult r (λ _. Writes a b (shown_report rows)) (λ broken. WritesUntil broken a b (shown_report rows))
    → MatchResult r (λ _. IsShown s (Ok Listing) (Writes a b)) (λ broken. IsShown s (Ok Listing) (WritesUntil broken a b))
IsShown-list s rows (Ok done) a b report written = record { bytes = shown_report rows; shows = record { rows = rows; listed = report; shown = refl }; written = written }
IsShown-list s rows (Err broken) a b report written = record { bytes = shown_report rows; shows = record { rows = rows; listed = report; shown = refl }; written = written }
