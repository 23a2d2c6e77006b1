-- Replacing the matches that a report lists in some lines.
use Rattle.std.specs.Prelude.{◌≡◌, ℕ, ◌+◌, ◌-◌, ◌<◌, ◌≤◌, List, [], ◌∷◌, if◌then◌else◌, length, map, min, sum_by, All, None, Some, Result, Ok, Err, IsUtf8, chars, slice_set}
use Rattle.str_indices.specs.Text.{byte_len}
use Rattle.rope_search_io.specs.declared.faults.Fault.{Fault}
use Rattle.rope_search_io.specs.declared.faults.Fault.TheVariants.{Nothing, Utf8, Size, Memory}
use Rattle.rope_search_reports.specs.LineGroups.{AreGroupsOfLines, joined, moved_span}
use Rattle.rope_search_reports.specs.Position.{line_start, line_text}
use Rattle.rope_search_reports.specs.Replacement.{AreMatchesIn, Groups, HasSpansIn, changes_of, replaced, searched, whole}
use Rattle.rope_search_reports.specs.Text.{bytes_of, line_count}
use Rattle.rope_search_changes.specs.declared.Change.{Change}
use Rattle.rope_search_templates.specs.Laws.{ReplaceAlike}
use Rattle.rope_search_templates.specs.Templates.{names_explicit_groups}
use Rattle.rope_search.specs.declared.stretches.Stretch.{Stretch}
use Rattle.rope_search.specs.Changed.{Replaces}
use Rattle.rope_search.specs.Histories.{with_changes}
use Rattle.rope_search.specs.LineColumns.{columns_as}
use Rattle.rope_search.specs.declared.encodings.Encoding.TheVariants as encoding
use Rattle.rope_search.specs.Pending.{KeepsPending}
use Rattle.rope_search.specs.Replacing.{text_with}
use Rattle.rope_search.specs.Session.{BufferState, LimitedBuffer, State, chosen_buffer, current_text, with_chosen, with_edit}
use Rattle.rope_search.specs.Stretches.{lines_spanned}
use Rattle.rope_search.specs.TextChanges.{ranges_of}
use Rattle.rope_search.specs.TextsKept.{TellsText}

-- The matches of a pattern that the report of a text lists in the lines from one up to, not including,
-- another, as far as the text has these lines. There is a list for each line, with the groups of the
-- matches that the search of that line by itself finds, by offsets of the text.
pub record AreListedIn (text pattern : List ℕ) (from to : ℕ) (lists : List (List Groups))
    : Type 0 where
  pub are : AreGroupsOfLines text pattern from lists
  pub all : length lists ≡ min to (line_count text) - from

-- those of the buffer's pattern in its current text
pub record AreListed (buffer : BufferState) (from to : ℕ) (lists : List (List Groups)) : Type 0 where
  pub pattern : List ℕ
  pub is_pattern : buffer.pattern ≡ Some pattern
  pub are : AreListedIn (current_text buffer) pattern from to lists

-- The matches that are listed in these lines, and no others, are replaced by the template's expansions,
-- and this is their number. The buffer with the text that this leaves is the new one, also if there
-- is no match.
pub record IsListedReplacement (old : BufferState) (from to : ℕ) (template : List ℕ) (count : ℕ)
    (new : BufferState) : Type 0 where
  pub lists : List (List Groups)
  pub are : AreListed old from to lists
  pub counted : count ≡ length (joined lists)
  pub changed : new ≡ with_edit old (text_with old template (joined lists))

-- with them replaced, the text would have more bytes than the limit
pub record GetsTooLongListed (limit : ℕ) (buffer : BufferState) (from to : ℕ) (template : List ℕ)
    : Type 0 where
  pub lists : List (List Groups)
  pub are : AreListed buffer from to lists
  pub long : limit < byte_len (text_with buffer template (joined lists))

-- ---- what is kept and reported of it

-- a change for each match, and a range for each
pub record KeepsListed (old : LimitedBuffer) (from to : ℕ) (template : List ℕ)
    (new : LimitedBuffer) : Type 0 where
  pub lists : List (List Groups)
  pub are : AreListed old.state from to lists
  pub kept : new.changes ≡ with_changes old
      (changes_of (bytes_of (current_text old.state)) template 0 0 (joined lists))
  pub ranges : new.text_changes ≡ ranges_of
      (changes_of (bytes_of (current_text old.state)) template 0 0 (joined lists))

-- no more rows are added than there are lines from the start of the first match's replacement to the
-- end of the last one's
pub record SpansListed (old : BufferState) (from to : ℕ) (template : List ℕ) (new : BufferState)
    (stretch : Stretch) : Type 0 where
  pub lists : List (List Groups)
  pub are : AreListed old from to lists
  pub few : stretch.added ≤ lines_spanned (bytes_of (current_text new))
      (changes_of (bytes_of (current_text old)) template 0 0 (joined lists))

-- ---- what it may search

-- 1 for a line with a match
abbrev pub one_if_any : {A : Type 0} → List A → ℕ
one_if_any [] = 0
one_if_any (a ∷ others) = 1

-- the lines that are searched for groups: those with a match, if the template names a group except
-- the whole match
abbrev pub lines_for_groups : List ℕ → List (List Groups) → ℕ
lines_for_groups template lists =
    if names_explicit_groups template then sum_by one_if_any lists else 0

-- The number of rows that it may make: one for each line that is searched for groups, and for each
-- match the lines of its expansion, which are its breaks plus one.
pub record RowsOfListed (buffer : BufferState) (from to : ℕ) (template : List ℕ) (n : ℕ)
    : Type 0 where
  pub lists : List (List Groups)
  pub are : AreListed buffer from to lists
  pub rows : n ≡ lines_for_groups template lists
      + searched (bytes_of (current_text buffer)) template (joined lists)

-- ---- in a session

-- Under this limit the replacement in the chosen buffer may be answered so, and leave this session. It
-- is refused without a pattern, else if the template isn't UTF-8, else if the text would get too long;
-- and it may be refused for memory, but in place of the last of these only.
abbrev pub StepByListed : ℕ → State → ℕ → ℕ → List ℕ → Result ℕ Fault → State → Type 0
StepByListed limit old from to template (Ok count) new = IsUtf8 template
    × (GetsTooLongListed limit (chosen_buffer old) from to (chars template) → ⊥)
    × ((buffer : BufferState)
    × IsListedReplacement (chosen_buffer old) from to (chars template) count buffer
    × (new ≡ with_chosen old buffer))
StepByListed limit old from to template (Err Nothing) new =
    ((chosen_buffer old).pattern ≡ None) × (new ≡ old)
StepByListed limit old from to template (Err Utf8) new =
    ((chosen_buffer old).pattern ≡ None → ⊥) × ¬ (IsUtf8 template) × (new ≡ old)
StepByListed limit old from to template (Err Size) new = IsUtf8 template
    × GetsTooLongListed limit (chosen_buffer old) from to (chars template) × (new ≡ old)
StepByListed limit old from to template (Err Memory) new =
    ((chosen_buffer old).pattern ≡ None → ⊥) × IsUtf8 template × (new ≡ old)
StepByListed limit old from to template (Err fault) new = ⊥

-- the chosen buffer reports which rows of its report were replaced, and the others what they did
pub record TellsListed (old : State) (from to : ℕ) (template : List ℕ) (new : State)
    (told told' : List Stretch) : Type 0 where
  pub stretch : Stretch
  pub replaces : Replaces (chosen_buffer old) (chosen_buffer new) stretch
  pub few : SpansListed (chosen_buffer old) from to template (chosen_buffer new) stretch
  pub others : told' ≡ slice_set told old.chosen stretch

-- what the chosen buffer keeps of it
abbrev pub KeepsListedOf : ℕ → ℕ → List ℕ → LimitedBuffer → LimitedBuffer → Type 0
KeepsListedOf from to template old new =
    KeepsListed old from to template new × TellsText old new × KeepsPending old new

-- ---- for the code, in a text, for a pattern

-- the span of a match that the row of a line shows by its columns, by offsets of the text
abbrev pub listed_span : List ℕ → ℕ → ℕ × ℕ → ℕ × ℕ
listed_span text line columns =
    moved_span (line_start text line) (columns_as encoding.Utf8 (line_text text line) columns)

-- these are the spans of the listed matches
pub record AreListedSpans (text pattern : List ℕ) (from to : ℕ) (spans : List (ℕ × ℕ))
    : Type 0 where
  pub lists : List (List Groups)
  pub are : AreListedIn text pattern from to lists
  pub spans_are : spans ≡ map whole (joined lists)

-- these are their groups, which start and end at boundaries of the text
pub record AreListedGroups (text pattern : List ℕ) (from to : ℕ) (groups : List Groups)
    : Type 0 where
  pub lists : List (List Groups)
  pub are : AreListedIn text pattern from to lists
  pub groups_are : groups ≡ joined lists
  pub spans : All (HasSpansIn (bytes_of text)) groups

-- these matches will do for a template: with them it makes what it does with the listed matches
pub record AreEnoughListed (text pattern : List ℕ) (from to : ℕ) (template : List ℕ)
    (matches : List Groups) : Type 0 where
  pub lists : List (List Groups)
  pub are : AreListedIn text pattern from to lists
  pub counted : length matches ≡ length (joined lists)
  pub stand : AreMatchesIn (bytes_of text) matches
  pub alike : ReplaceAlike (bytes_of text) template matches (joined lists)

-- the listed matches are replaced, and this is their number, the text that is left, and the changes
pub record IsListedIn (text pattern : List ℕ) (from to : ℕ) (template : List ℕ) (count : ℕ)
    (new : List ℕ) (changes : List Change) : Type 0 where
  pub lists : List (List Groups)
  pub are : AreListedIn text pattern from to lists
  pub counted : count ≡ length (joined lists)
  pub text_is : new ≡ replaced (bytes_of text) template 0 (joined lists)
  pub changes_are : changes ≡ changes_of (bytes_of text) template 0 0 (joined lists)

pub record GetsTooLongListedIn (limit : ℕ) (text pattern : List ℕ) (from to : ℕ)
    (template : List ℕ) : Type 0 where
  pub lists : List (List Groups)
  pub are : AreListedIn text pattern from to lists
  pub long : limit < byte_len (replaced (bytes_of text) template 0 (joined lists))

pub record RowsOfListedIn (text pattern : List ℕ) (from to : ℕ) (template : List ℕ) (n : ℕ)
    : Type 0 where
  pub lists : List (List Groups)
  pub are : AreListedIn text pattern from to lists
  pub rows : n ≡ lines_for_groups template lists
      + searched (bytes_of text) template (joined lists)
