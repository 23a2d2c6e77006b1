-- The undo steps of a buffer: how many stay when others are dropped.
use Rattle.std.specs.Prelude.{ℕ, ◌+◌, ◌-◌, List, [], ◌∷◌, length, take, drop}
use Rattle.rope_search_changes.specs.declared.Change.{Change}
use Rattle.rope_search.specs.Session.{BufferState}

-- the number of texts that can be undone to, and that of texts that can be redone
abbrev pub undo_count : BufferState → ℕ
undo_count buffer = buffer.current

abbrev pub redo_count : BufferState → ℕ
redo_count buffer = length buffer.texts - (buffer.current + 1)

-- the number of the first text that stays, with this number of undo steps
abbrev pub first_kept : ℕ → ℕ → ℕ
first_kept current steps = current - steps

-- the buffer with the current text and this number of texts before it, or as many as there are, and
-- none after it
abbrev pub with_steps : BufferState → ℕ → BufferState
with_steps buffer steps = record buffer {
  texts = drop (first_kept buffer.current steps) (take (buffer.current + 1) buffer.texts);
  current = buffer.current - first_kept buffer.current steps;
}

-- the changes that led to these texts, none to the first
abbrev pub changes_with_steps : List (List Change) → ℕ → ℕ → List (List Change)
changes_with_steps changes current steps =
    [] ∷ drop (first_kept current steps + 1) (take (current + 1) changes)
