-- What is written for an answer, and at the end.
use Rattle.std.specs.Prelude.{◌≡◌, ℕ, ◌+◌, List, [], ◌∷◌, ◌++◌, flat_map, length, codes, decimal, Ok, Err}
use Rattle.rope_search_io.specs.Faults.{word_of}
use Rattle.rope_search.specs.declared.commands.Reply.TheVariants.{Done, Number, Found, NoMatch, List as Listing, Print}
use Rattle.rope_search.specs.declared.endings.Ended.{Ended}
use Rattle.rope_search.specs.declared.endings.Ended.TheVariants.{Input, Command, Cut}
use Rattle.rope_search_reports.specs.declared.positions.Position.{Position}
use Rattle.rope_search_reports.specs.Text.{bytes_of}
use Rattle.rope_search.specs.Session.{State, current_text, chosen_buffer, IsReportIn}
use Rattle.rope_search_reports.specs.Report.{match_count}
use Rattle.rope_search.specs.Step.{Answer}

-- a text as it is shown: its number of bytes in a line, then its bytes in another
abbrev pub shown_text : List ℕ → List ℕ
shown_text bytes = codes "text " ++ decimal (length bytes) ++ codes "\n" ++ bytes ++ codes "\n"

-- a reply with a number as it is shown
abbrev pub shown_number : ℕ → List ℕ
shown_number n = codes "ok " ++ decimal n ++ codes "\n"

-- a match of a report as it is shown: the number of its line, then its two columns
abbrev pub shown_match : ℕ → ℕ × ℕ → List ℕ
shown_match line span =
    codes "m " ++ decimal line ++ codes " " ++ decimal span.0 ++ codes " " ++ decimal span.1
    ++ codes "\n"

-- a found match as it is shown: the line and the column where it starts, and those where it ends
abbrev pub shown_found : Position → Position → List ℕ
shown_found start end =
    codes "m " ++ decimal start.line ++ codes " " ++ decimal start.column ++ codes " "
    ++ decimal end.line ++ codes " " ++ decimal end.column ++ codes "\n"

-- the matches of all rows, the first of which is that of this line
abbrev pub shown_rows : ℕ → List (List (ℕ × ℕ)) → List ℕ
shown_rows line [] = []
shown_rows line (row ∷ rows) = flat_map (shown_match line) row ++ shown_rows (line + 1) rows

-- a report as it is shown: its matches, then their number
abbrev pub shown_report : List (List (ℕ × ℕ)) → List ℕ
shown_report rows = shown_rows 0 rows ++ shown_number (match_count rows)

-- the bytes of an answer; this is the session after it, and these are the rows of the report that
-- it shows
abbrev pub shows : State → List (List (ℕ × ℕ)) → Answer → List ℕ
shows session rows (Ok Done) = codes "ok\n"
shows session rows (Ok (Number k)) = shown_number k
shows session rows (Ok (Found start end)) = shown_found start end
shows session rows (Ok NoMatch) = codes "no match\n"
shows session rows (Ok Listing) = shown_report rows
shows session rows (Ok Print) = shown_text (bytes_of (current_text (chosen_buffer session)))
shows session rows (Err fault) = codes "error " ++ word_of fault ++ codes "\n"

-- the rows of the report that an answer shows: those of the chosen buffer, or none if it shows no
-- report
abbrev pub IsListed : State → Answer → List (List (ℕ × ℕ)) → Type 0
IsListed session (Ok Listing) rows = IsReportIn (chosen_buffer session) rows
IsListed session answer rows = rows ≡ []

-- the bytes of an answer; this is the session after it
pub record Shows (session : State) (answer : Answer) (bytes : List ℕ) : Type 0 where
  pub rows : List (List (ℕ × ℕ))
  pub listed : IsListed session answer rows
  pub shown : bytes ≡ shows session rows answer

-- of the bytes of an answer this was written
pub record IsShown (session : State) (answer : Answer) (Written : List ℕ → Type 0) : Type 0 where
  pub bytes : List ℕ
  pub shows : Shows session answer bytes
  pub written : Written bytes

-- the line that is written last
abbrev pub closing : Ended → List ℕ
closing Input = []
closing Command = codes "error command\n"
closing Cut = codes "error end\n"
