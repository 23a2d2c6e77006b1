-- What a session is: a list of buffers, of which one is chosen.
use Rattle.std.specs.Prelude.{◌≡◌, MatchOption, ℕ, ◌+◌, ◌-◌, List, [], ◌∷◌, ◌++◌, take, Option, None, slice_index_or, slice_set}
use Rattle.rope_search_reports.specs.Report.{IsReport}
use Rattle.rope_search_changes.specs.declared.Change.{Change}
use Rattle.rope_search.specs.declared.stretches.Stretch.{Stretch}
use Rattle.rope_search.specs.declared.text_changes.TextChange.{TextChange}
use Rattle.rope_search.specs.Stretches.{none}

-- a history of texts with a current one, and perhaps a pattern. Texts and patterns are lists of
-- scalar values
pub record BufferState : Type 0 where
  pub texts : List (List ℕ)
  pub current : ℕ
  pub pattern : Option (List ℕ)

-- the buffers, and the number of the chosen one
pub record State : Type 0 where
  pub buffers : List BufferState
  pub chosen : ℕ

-- a buffer with one text and no pattern
abbrev pub fresh : List ℕ → BufferState
fresh text = record { texts = text ∷ []; current = 0; pattern = None }

-- the first session has one buffer, chosen, with the empty text
abbrev pub first_state : State
first_state = record { buffers = fresh [] ∷ []; chosen = 0 }

abbrev pub current_text : BufferState → List ℕ
current_text buffer = slice_index_or buffer.texts buffer.current []

abbrev pub chosen_buffer : State → BufferState
chosen_buffer session = slice_index_or session.buffers session.chosen (fresh [])

-- the buffer with a new history that begins at this text
abbrev pub with_text : BufferState → List ℕ → BufferState
with_text buffer text = record buffer { texts = text ∷ []; current = 0 }

-- the buffer with a further text, which becomes the current one; the texts after the current one
-- are dropped
abbrev pub with_edit : BufferState → List ℕ → BufferState
with_edit buffer text = record buffer {
  texts = take (buffer.current + 1) buffer.texts ++ text ∷ [];
  current = buffer.current + 1;
}

-- the buffer one text back, and one text forward
abbrev pub undone : BufferState → BufferState
undone buffer = record buffer { current = buffer.current - 1 }

abbrev pub redone : BufferState → BufferState
redone buffer = record buffer { current = buffer.current + 1 }

-- the buffer with another pattern, or with none
abbrev pub with_pattern : BufferState → Option (List ℕ) → BufferState
with_pattern buffer pattern = record buffer { pattern = pattern }

-- these rows are the report of the buffer's current text; there are none without a pattern
abbrev pub IsReportIn : BufferState → List (List (ℕ × ℕ)) → Type 0
IsReportIn buffer rows =
    MatchOption buffer.pattern (rows ≡ []) (λ pattern. IsReport (current_text buffer) pattern rows)

-- the session with another buffer in the chosen one's place
abbrev pub with_chosen : State → BufferState → State
with_chosen session buffer =
    record session { buffers = slice_set session.buffers session.chosen buffer }

-- a pattern that is to take the place of a buffer's, and how many lines of the current text, from
-- the first, are searched for it
pub record PendingPattern : Type 0 where
  pub pattern : List ℕ
  pub done : ℕ

-- a buffer, the most bytes that a text of it has, what it keeps of its history: the changes that led
-- to each of its texts from the one before, none to the first; which rows of its report, and which
-- ranges of its text, were replaced last; and perhaps a pending pattern
pub record LimitedBuffer : Type 0 where
  pub limit : ℕ
  pub state : BufferState
  pub changes : List (List Change)
  pub changed : Stretch
  pub text_changes : List TextChange
  pub pending : Option PendingPattern

-- a buffer that there is not
abbrev pub no_buffer : LimitedBuffer
no_buffer = record {
  limit = 0;
  state = fresh [];
  changes = [];
  changed = none;
  text_changes = [];
  pending = None;
}

-- a buffer with one text and no pattern, under a limit, on which nothing was called
abbrev pub fresh_buffer : ℕ → List ℕ → LimitedBuffer
fresh_buffer limit text = record {
  limit = limit;
  state = fresh text;
  changes = [] ∷ [];
  changed = none;
  text_changes = [];
  pending = None;
}

-- a session, the most bytes that a text in it has, of each buffer which rows of its report were
-- replaced last, and the buffers with all that they keep
pub record LimitedSession : Type 0 where
  pub limit : ℕ
  pub state : State
  pub changed : List Stretch
  pub buffers : List LimitedBuffer

-- the first session, under a limit
abbrev pub opened_session : ℕ → LimitedSession
opened_session limit = record {
  limit = limit;
  state = first_state;
  changed = none ∷ [];
  buffers = fresh_buffer limit [] ∷ [];
}

-- the chosen one of a session's buffers, with all that it keeps
abbrev pub chosen_in : LimitedSession → LimitedBuffer
chosen_in session = slice_index_or session.buffers session.state.chosen no_buffer

-- the limit of the chosen one of these buffers
abbrev pub limit_in : List LimitedBuffer → ℕ → ℕ
limit_in buffers chosen = (slice_index_or buffers chosen no_buffer).limit
