-- The edit that replaces one match of a report by the expansion of a template.
use Rattle.std.specs.Prelude.{◌≡◌, ℕ, ◌+◌, ◌≤◌, ◌↔◌, ◌⊎◌, max, if◌then◌else◌, List, ◌∷◌, map, None, Some, option_map, Result, Err, IfOk, IfErr, IsUtf8, chars, string_bytes}
use Rattle.str_indices.specs.Text.{byte_len}
use Rattle.rope_search_io.specs.declared.faults.Fault.{Fault}
use Rattle.rope_search_io.specs.declared.faults.Fault.TheVariants.{Nothing, Range, Size, Memory}
use Rattle.rope_search_reports.specs.Position.{line_start, line_text}
use Rattle.rope_search_reports.specs.Replacement.{Groups, expand, whole}
use Rattle.rope_search_reports.specs.Text.{IsText, bytes_of, line_count}
use Rattle.rope_search_reports.specs.Ticks.{Ticks}
use Rattle.rope_search_reports.specs.declared.positions.Position.{Position}
use Rattle.rope_search_templates.specs.Templates.{names_explicit_groups}
use Rattle.rope_search.specs.GroupsAt.{TellsGroupsAt, TellsGroupsIn}
use Rattle.rope_search.specs.LineColumns.{column_as, columns_as}
use Rattle.rope_search.specs.Places.{GetsTooLong, HasNoneBetween}
use Rattle.rope_search.specs.Session.{BufferState, current_text}
use Rattle.rope_search.specs.declared.encodings.Encoding.TheVariants.{Utf8}
use Rattle.rope_search.specs.declared.match_edits.MatchEdit.{MatchEdit}

-- groups given by columns of a line's text, as bytes of it
abbrev pub in_bytes : List ℕ → Groups → Groups
in_bytes line groups = map (option_map (columns_as Utf8 line)) groups

-- the expansion of a template for a match of a line, from the columns of its groups
abbrev pub expansion : List ℕ → Groups → List ℕ → List ℕ
expansion line groups template = expand (bytes_of line) (in_bytes line groups) template

-- The edit that replaces match `number`, from 0, among all matches in a line's text: it replaces
-- the text between the positions where the match starts and where it ends by the expansion of the
-- template, with the groups that the search of this line finds.
pub record ReplacesMatchIn (text pattern : List ℕ) (line number : ℕ) (template : List ℕ)
    (from to : Position) (inserted : List ℕ) : Type 0 where
  pub groups : Groups
  pub found : TellsGroupsIn text pattern line number (Some groups)
  pub starts : from ≡ record { line = line; column = (whole groups).0 }
  pub ends : to ≡ record { line = line; column = (whole groups).1 }
  pub expands : inserted ≡ expansion (line_text text line) groups template

-- the same for the buffer's pattern, in its current text: the match is one of its report
pub record ReplacesMatch (buffer : BufferState) (line number : ℕ) (template : List ℕ)
    (from to : Position) (inserted : List ℕ) : Type 0 where
  pub pattern : List ℕ
  pub is_pattern : buffer.pattern ≡ Some pattern
  pub edit : ReplacesMatchIn (current_text buffer) pattern line number template from to inserted

-- P holds of that edit
pub record ForMatch (buffer : BufferState) (line number : ℕ) (template : List ℕ)
    (P : Position → Position → List ℕ → Type 0) : Type 0 where
  pub from : Position
  pub to : Position
  pub inserted : List ℕ
  pub replaces : ReplacesMatch buffer line number template from to inserted
  pub holds : P from to inserted

-- the buffer has a report, which has no such line, or no match of this number there
abbrev pub ListsNoMatch : BufferState → ℕ → ℕ → Type 0
ListsNoMatch buffer line number = (buffer.pattern ≡ None → ⊥)
    × ((line_count (current_text buffer) ≤ line) ⊎ TellsGroupsAt buffer line number None)

-- how many rows are made for the groups that a template needs: none if it names no group except the
-- whole match, which the report has
abbrev pub rows_for_groups : List ℕ → ℕ
rows_for_groups template = if names_explicit_groups template then 1 else 0

-- ---- for the code

-- The answer to a request for the edit, whose text is UTF-8: why there is none, if there is none;
-- or that there was no memory for it.
pub record AnswersEdit (limit : ℕ) (buffer : BufferState) (line number : ℕ) (template : List ℕ)
    (answer : Result MatchEdit Fault) : Type 0 where
  pub edit : IfOk answer (λ edit. ReplacesMatch buffer line number template edit.from edit.to
      (chars (string_bytes edit.inserted)))
  pub utf8 : IfOk answer (λ edit. IsUtf8 (string_bytes edit.inserted))
  pub there : IfOk answer (λ edit. HasNoneBetween (current_text buffer) edit.from edit.to → ⊥)
  pub nothing : (answer ≡ Err Nothing) ↔ (buffer.pattern ≡ None)
  pub range : (answer ≡ Err Range) ↔ ListsNoMatch buffer line number
  pub size : answer ≡ Err Size → ForMatch buffer line number template (λ from to inserted.
      IsText inserted × GetsTooLong limit (current_text buffer) from to (byte_len inserted))
  pub fault : IfErr answer (λ fault. (fault ≡ Nothing)
      ⊎ ((fault ≡ Range) ⊎ ((fault ≡ Size) ⊎ (fault ≡ Memory))))

-- what is searched for it: at most the line, and nothing if there is no such match
pub record SearchesForGroups (buffer : BufferState) (line number : ℕ) (template : List ℕ)
    (old new : Ticks) : Type 0 where
  pub unsearched : (buffer.pattern ≡ None) ⊎ ListsNoMatch buffer line number → new ≡ old
  pub count : new.count ≤ old.count + rows_for_groups template
  pub grows : old.count ≤ new.count
  pub wholes : new.wholes ≡ old.wholes

-- ---- in a text, for a pattern

-- with the expansion in place of the match, the text would have more than the limit
pub record IsTooLongIn (limit : ℕ) (text pattern : List ℕ) (line number : ℕ)
    (template : List ℕ) : Type 0 where
  pub from : Position
  pub to : Position
  pub inserted : List ℕ
  pub replaces : ReplacesMatchIn text pattern line number template from to inserted
  pub scalars : IsText inserted
  pub long : GetsTooLong limit text from to (byte_len inserted)

-- these groups are sufficient instead of those of the match: the template's expansion is the same
pub record ServeFor (text pattern : List ℕ) (line number : ℕ) (template : List ℕ)
    (groups : Groups) : Type 0 where
  pub own : Groups
  pub found : TellsGroupsIn text pattern line number (Some own)
  pub alike : expansion (line_text text line) groups template
      ≡ expansion (line_text text line) own template
  pub same : whole groups ≡ whole own
  pub others : Groups
  pub some : groups ≡ Some (whole groups) ∷ others

-- the span of two columns of a line, in bytes of the text, in which the line starts at an offset;
-- it doesn't end before it starts
abbrev pub placed_behind : ℕ → List ℕ → ℕ × ℕ → ℕ × ℕ
placed_behind start line columns =
    let from = start + column_as Utf8 line columns.0 in
    (from, max from (start + column_as Utf8 line columns.1))

-- the same in a line of a text
abbrev pub placed : List ℕ → ℕ → ℕ × ℕ → ℕ × ℕ
placed text line columns = placed_behind (line_start text line) (line_text text line) columns
