-- One step of a session: the answers that a command may have, and the session after it.
use Rattle.std.specs.Prelude.{◌≡◌, ℕ, ◌<◌, ◌≤◌, ◌⊎◌, List, [], ◌∷◌, ◌++◌, length, None, Some, ◌+◌, Result, Ok, Err, IsUtf8, chars}
use Rattle.rope_search_io.specs.declared.faults.Fault.{Fault}
use Rattle.rope_search_io.specs.declared.faults.Fault.TheVariants.{Nothing, Range, Utf8, Pattern, Limit, Size, Memory}
use Rattle.rope_search_io.specs.Faults.{rank_of}
use Rattle.rope_search.specs.declared.commands.Reply.{Reply}
use Rattle.rope_search.specs.declared.commands.Reply.TheVariants.{Done, Number, Found, NoMatch, List as Listing, Print}
use Rattle.rope_search_reports.specs.Text.{Encodes}
use Rattle.rope_search.specs.Places.{HasNoneBetween, GetsTooLong, IsEdit}
use Rattle.rope_search.specs.Order.{Order, SetText, EditText, UndoEdit, RedoEdit, PrintText, ForkBuffer, SetPattern, DropPattern, ListMatches, FindNext, ReplaceAll, UseBuffer}
use Rattle.rope_search.specs.Session.{BufferState, State, fresh, current_text, chosen_buffer, with_text, undone, redone, with_pattern, with_chosen}
use Rattle.rope_search_reports.specs.Pattern.{IsTooHeavy, SpellsNone, pattern_limit}
use Rattle.rope_search_reports.specs.Position.{IsNowhere}
use Rattle.rope_search.specs.Finding.{TellsPositions}
use Rattle.rope_search.specs.Replacing.{IsReplacement, GetsTooLongWith}

-- the answer to a command: a reply, or why it is refused
abbrev pub Answer : Type 0
Answer = Result Reply Fault

-- why a command is refused, under a limit on the bytes of a text. Out of memory refuses none
abbrev pub Refuses : ℕ → State → Order → Fault → Type 0
-- the payload isn't UTF-8, or the new text would have too many bytes
Refuses limit session (SetText payload) Utf8 = ¬ (IsUtf8 payload)
Refuses limit session (SetText payload) Size = limit < length payload
Refuses limit session (SetText payload) fault = ⊥
-- a position is nowhere in the text, or the second one is before the first; the payload isn't
-- UTF-8; or the new text would have too many bytes
Refuses limit session (EditText from to payload) Range =
    HasNoneBetween (current_text (chosen_buffer session)) from to
Refuses limit session (EditText from to payload) Utf8 = ¬ (IsUtf8 payload)
Refuses limit session (EditText from to payload) Size =
    GetsTooLong limit (current_text (chosen_buffer session)) from to (length payload)
Refuses limit session (EditText from to payload) fault = ⊥
-- there is no text before the current one, or none after it
Refuses limit session UndoEdit Nothing = (chosen_buffer session).current ≡ 0
Refuses limit session UndoEdit fault = ⊥
Refuses limit session RedoEdit Nothing =
    length (chosen_buffer session).texts ≤ (chosen_buffer session).current + 1
Refuses limit session RedoEdit fault = ⊥
Refuses limit session PrintText fault = ⊥
Refuses limit session ForkBuffer fault = ⊥
-- the payload isn't UTF-8, spells no pattern, or is too long or too heavy; the grammar isn't
-- checked for one that is too long
Refuses limit session (SetPattern payload) Utf8 = ¬ (IsUtf8 payload)
Refuses limit session (SetPattern payload) Pattern =
    (length payload ≤ pattern_limit) × SpellsNone (chars payload)
Refuses limit session (SetPattern payload) Limit =
    (pattern_limit < length payload) ⊎ IsTooHeavy (chars payload)
Refuses limit session (SetPattern payload) fault = ⊥
Refuses limit session DropPattern fault = ⊥
-- there is no pattern
Refuses limit session ListMatches Nothing = (chosen_buffer session).pattern ≡ None
Refuses limit session ListMatches fault = ⊥
-- there is no pattern, or the position is nowhere in the text
Refuses limit session (FindNext from) Nothing = (chosen_buffer session).pattern ≡ None
Refuses limit session (FindNext from) Range =
    IsNowhere (current_text (chosen_buffer session)) (from.line, from.column)
Refuses limit session (FindNext from) fault = ⊥
-- there is no pattern; the payload isn't UTF-8; or it has too many bytes, or the new text would
Refuses limit session (ReplaceAll payload) Nothing = (chosen_buffer session).pattern ≡ None
Refuses limit session (ReplaceAll payload) Utf8 = ¬ (IsUtf8 payload)
Refuses limit session (ReplaceAll payload) Size =
    (limit < length payload) ⊎ GetsTooLongWith limit (chosen_buffer session) (chars payload)
Refuses limit session (ReplaceAll payload) fault = ⊥
-- there is no such buffer
Refuses limit session (UseBuffer k) Nothing = length session.buffers ≤ k
Refuses limit session (UseBuffer k) fault = ⊥

-- the first of all reasons to refuse the command
pub record IsFirstRefusal (limit : ℕ) (session : State) (order : Order)
    (fault : Fault) : Type 0 where
  pub refuses : Refuses limit session order fault
  pub none_before : (other : Fault) → rank_of other < rank_of fault
      → Refuses limit session order other → ⊥

-- there is no reason to refuse the command
abbrev pub Accepts : ℕ → State → Order → Type 0
Accepts limit session order = (fault : Fault) → Refuses limit session order fault → ⊥

-- whether a command takes memory in this session, so that the answer may be that there is none
abbrev pub TakesMemory : State → Order → Type 0
TakesMemory session (SetText payload) = Unit {0}
TakesMemory session (EditText from to payload) = Unit {0}
-- only if there is a report, of which rows are computed again
TakesMemory session UndoEdit = (chosen_buffer session).pattern ≡ None → ⊥
TakesMemory session RedoEdit = (chosen_buffer session).pattern ≡ None → ⊥
TakesMemory session PrintText = ⊥
TakesMemory session ForkBuffer = Unit {0}
TakesMemory session (SetPattern payload) = Unit {0}
TakesMemory session DropPattern = ⊥
TakesMemory session ListMatches = ⊥
TakesMemory session (FindNext from) = Unit {0}
TakesMemory session (ReplaceAll payload) = Unit {0}
TakesMemory session (UseBuffer k) = ⊥

-- what an accepted command does: its reply, and the session after it
abbrev pub Does : State → Order → Reply → State → Type 0
-- the text is that of the payload; the pattern stays
Does old (SetText payload) Done new =
    (text : List ℕ) × Encodes text payload
    × (new ≡ with_chosen old (with_text (chosen_buffer old) text))
-- the payload's text replaces the text between the positions; the texts that could be redone are
-- dropped
Does old (EditText from to payload) Done new =
    (inserted : List ℕ) × (edited : BufferState) × Encodes inserted payload
    × IsEdit (chosen_buffer old) from to inserted edited × (new ≡ with_chosen old edited)
Does old UndoEdit Done new = new ≡ with_chosen old (undone (chosen_buffer old))
Does old RedoEdit Done new = new ≡ with_chosen old (redone (chosen_buffer old))
Does old PrintText Print new = new ≡ old
-- the new buffer has only the current text, and is the last one; the chosen one stays
Does old ForkBuffer (Number k) new =
    (k ≡ length old.buffers)
    × (new ≡ record old { buffers = old.buffers ++ fresh (current_text (chosen_buffer old)) ∷ [] })
-- the pattern is that of the payload; the texts stay
Does old (SetPattern payload) Done new =
    (pattern : List ℕ) × Encodes pattern payload
    × (new ≡ with_chosen old (with_pattern (chosen_buffer old) (Some pattern)))
Does old DropPattern Done new = new ≡ with_chosen old (with_pattern (chosen_buffer old) None)
Does old ListMatches Listing new = new ≡ old
-- the match found at the position or after it, or that there is none
Does old (FindNext from) (Found start end) new =
    TellsPositions (chosen_buffer old) from (Some (start, end)) × (new ≡ old)
Does old (FindNext from) NoMatch new = TellsPositions (chosen_buffer old) from None × (new ≡ old)
-- each match is replaced by the expansion of the payload's text, and the reply is their number; the
-- texts that could be redone are dropped
Does old (ReplaceAll payload) (Number k) new =
    (template : List ℕ) × (edited : BufferState) × Encodes template payload
    × IsReplacement (chosen_buffer old) template k edited × (new ≡ with_chosen old edited)
Does old (UseBuffer k) Done new = new ≡ record old { chosen = k }
-- no other reply is given
Does old order reply new = ⊥

-- under this limit the command may have this answer, and leave this session
abbrev pub Step : ℕ → State → Order → Answer → State → Type 0
Step limit old order (Ok reply) new = Accepts limit old order × Does old order reply new
Step limit old order (Err Memory) new = TakesMemory old order × (new ≡ old)
Step limit old order (Err fault) new = IsFirstRefusal limit old order fault × (new ≡ old)
