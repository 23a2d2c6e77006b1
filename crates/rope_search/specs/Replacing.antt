-- The result of replacing all matches in a buffer's whole text, and what it may search.
use Rattle.std.specs.Prelude.{◌≡◌, ℕ, ◌<◌, List, length, Some}
use Rattle.str_indices.specs.Text.{byte_len}
use Rattle.rope_search_reports.specs.Text.{bytes_of}
use Rattle.rope_search_reports.specs.Matches.{AreGroups}
use Rattle.rope_search_reports.specs.Replacement.{Groups, AreMatchesIn, replaced, searched}
use Rattle.rope_search_templates.specs.Laws.{ReplaceAlike}
use Rattle.rope_search.specs.Session.{BufferState, current_text, with_edit}

-- these are all matches of the buffer's pattern in its current text as a whole, with their groups
pub record AreMatchesOfBuffer (buffer : BufferState) (matches : List Groups) : Type 0 where
  pub pattern : List ℕ
  pub is_pattern : buffer.pattern ≡ Some pattern
  pub are : AreGroups pattern (bytes_of (current_text buffer)) matches

-- the buffer's current text, with each match replaced by the expansion of a template
abbrev pub text_with : BufferState → List ℕ → List Groups → List ℕ
text_with buffer template matches =
    replaced (bytes_of (current_text buffer)) template 0 matches

-- all matches are replaced, and this is their number; the buffer with this text is the new one,
-- also if there is no match
pub record IsReplacement (old : BufferState) (template : List ℕ) (count : ℕ)
    (new : BufferState) : Type 0 where
  pub matches : List Groups
  pub are : AreMatchesOfBuffer old matches
  pub counted : count ≡ length matches
  pub changed : new ≡ with_edit old (text_with old template matches)

-- with all matches replaced, the text would have more bytes than the limit
pub record GetsTooLongWith (limit : ℕ) (buffer : BufferState) (template : List ℕ) : Type 0 where
  pub matches : List Groups
  pub are : AreMatchesOfBuffer buffer matches
  pub long : limit < byte_len (text_with buffer template matches)

-- the number of rows that may be made: for each match the number of lines of its expansion, which
-- is its breaks plus one
pub record RowsOfReplacement (buffer : BufferState) (template : List ℕ) (n : ℕ) : Type 0 where
  pub matches : List Groups
  pub are : AreMatchesOfBuffer buffer matches
  pub rows : n ≡ searched (bytes_of (current_text buffer)) template matches

-- ---- in a text, for a pattern

-- all matches are replaced, and this is their number; this is the resulting text
pub record IsReplacementIn (text pattern template : List ℕ) (count : ℕ)
    (new : List ℕ) : Type 0 where
  pub matches : List Groups
  pub are : AreGroups pattern (bytes_of text) matches
  pub counted : count ≡ length matches
  pub changed : new ≡ replaced (bytes_of text) template 0 matches

pub record GetsTooLongIn (limit : ℕ) (text pattern template : List ℕ) : Type 0 where
  pub matches : List Groups
  pub are : AreGroups pattern (bytes_of text) matches
  pub long : limit < byte_len (replaced (bytes_of text) template 0 matches)

pub record RowsOfReplacementIn (text pattern template : List ℕ) (n : ℕ) : Type 0 where
  pub matches : List Groups
  pub are : AreGroups pattern (bytes_of text) matches
  pub rows : n ≡ searched (bytes_of text) template matches

-- these matches are sufficient for a template: its result with them is that with all matches and
-- their groups
pub record AreEnough (text pattern template : List ℕ) (matches : List Groups) : Type 0 where
  pub groups : List Groups
  pub are : AreGroups pattern (bytes_of text) groups
  pub counted : length matches ≡ length groups
  pub stand : AreMatchesIn (bytes_of text) matches
  pub alike : ReplaceAlike (bytes_of text) template matches groups
