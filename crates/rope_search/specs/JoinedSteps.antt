-- Several undo steps made one: which texts leave, and what stays through all steps.
use Rattle.std.specs.Prelude.{◌≡◌, ℕ, ◌+◌, ◌-◌, ◌<◌, ◌≤◌, ◌⊎◌, List, [], ◌∷◌, ◌++◌, length, take, drop, sum_by}
use Rattle.rope_search_changes.specs.declared.Change.{Change}
use Rattle.rope_search.specs.Session.{BufferState, LimitedBuffer}

-- ---- the changes of several steps

-- From two places on, a byte stays: that of the old text at the first place is that of the new one
-- at the second. It lies before the changes, between two of them or after them.
abbrev pub StaysFrom : ℕ → ℕ → List Change → ℕ → ℕ → Type 0
StaysFrom at at_new [] x y = (at ≤ x) × (y ≡ at_new + (x - at))
StaysFrom at at_new (change ∷ changes) x y =
    ((at ≤ x) × (y ≡ at_new + (x - at)) × (y < change.new_start))
    ⊎ StaysFrom change.old_end change.new_end changes x y

-- The byte of the old text at the first place stays, and is that of the new one at the second.
abbrev pub Stays : List Change → ℕ → ℕ → Type 0
Stays changes x y = StaysFrom 0 0 changes x y

-- It stays through several steps, one after the other.
abbrev pub StaysThrough : List (List Change) → ℕ → ℕ → Type 0
StaysThrough [] x y = x ≡ y
StaysThrough (changes ∷ steps) x y = (z : ℕ) × Stays changes x z × StaysThrough steps z y

-- Behind a place of the new text, and between the changes, something stays.
abbrev pub AreApartFrom : ℕ → List Change → Type 0
AreApartFrom at [] = Unit {0}
AreApartFrom at (change ∷ changes) = (at < change.new_start) × AreApartFrom change.new_end changes

-- Between the changes something stays.
abbrev pub AreApart : List Change → Type 0
AreApart [] = Unit {0}
AreApart (change ∷ changes) = AreApartFrom change.new_end changes

-- The changes are those of several steps, put together: what stays through all steps stays, changes
-- that touch are one, and no more come than the steps have.
pub record AreComposed (steps : List (List Change)) (changes : List Change) : Type 0 where
  pub stays : (x y : ℕ) → StaysThrough steps x y → Stays changes x y
  pub apart : AreApart changes
  pub few : length changes ≤ sum_by length steps

-- ---- the steps of a buffer

-- the number of the current text once the texts between the last steps have left
abbrev pub number_joined : ℕ → ℕ → ℕ
number_joined current steps = current - (steps - 1)

-- the buffer without the texts between its last steps: those directly before the current one, one
-- less than the steps
abbrev pub with_joined : BufferState → ℕ → BufferState
with_joined buffer steps = record buffer {
  texts = take (number_joined buffer.current steps) buffer.texts
      ++ drop buffer.current buffer.texts;
  current = number_joined buffer.current steps;
}

-- the changes of the last steps to the current text
abbrev pub last_steps : List (List Change) → ℕ → ℕ → List (List Change)
last_steps changes current steps = take steps (drop (current + 1 - steps) changes)

-- those of the last steps put together, and all others as they are
pub record HasComposed (changes : List (List Change)) (current steps : ℕ)
    (changes' : List (List Change)) : Type 0 where
  pub composed : List Change
  pub are : AreComposed (last_steps changes current steps) composed
  pub is : changes' ≡ take (number_joined current steps) changes
      ++ composed ∷ drop (current + 1) changes

-- two steps or more are made one; fewer stay
abbrev pub JoinsChanges : List (List Change) → ℕ → ℕ → List (List Change) → Type 0
JoinsChanges changes current steps changes' =
    (steps ≤ 1 → changes' ≡ changes)
    × (2 ≤ steps → HasComposed changes current steps changes')

-- what a buffer keeps and returns of its last steps, joined into one
abbrev pub KeepsJoined : ℕ → LimitedBuffer → LimitedBuffer → Type 0
KeepsJoined steps old new =
    JoinsChanges old.changes old.state.current steps new.changes
    × (new.text_changes ≡ old.text_changes) × (new.pending ≡ old.pending)
