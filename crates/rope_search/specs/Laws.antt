-- Laws of the definitions themselves: each input has one reading, and each command one step and one
-- cost.
use Rattle.std.specs.Prelude.{◌≡◌, ◌≢◌, ℕ, ◌<◌, ◌≤◌, ◌↔◌, ◌⊎◌, List, [], ◌++◌, length, All, slice_index_or, Some, IfSome, Ok, Err, chars}
use Rattle.rope_search_io.specs.declared.faults.Fault.TheVariants.{Memory}
use Rattle.rope_search.specs.declared.endings.Ended.{Ended}
use Rattle.rope_search.specs.declared.endings.Ended.TheVariants.{Command}
use Rattle.rope_search.specs.declared.commands.CommandOf.{CommandOf}
use Rattle.rope_search.specs.declared.commands.Payload.{Payload}
use Rattle.rope_search.specs.declared.commands.Reply.{Reply}
use Rattle.rope_search.specs.declared.commands.Reply.TheVariants.{Number, Found}
use Rattle.rope_search_reports.specs.declared.positions.Position.{Position}
use Rattle.rope_search_reports.specs.Text.{IsText, Encodes, bytes_of}
use Rattle.rope_search_reports.specs.Pattern.{IsPattern}
use Rattle.rope_search_reports.specs.Laws.{IsInText, HasOnePlace, IsPatternOrNot, IsOneOfThree, FindsOne, HasFind, HasOneListOfGroups, HasGroups, ReplacedIsText}
use Rattle.rope_search_reports.specs.Position.{IsAt, IsNowhere, StandsAtBoundaries}
use Rattle.rope_search_reports.specs.Changes.{AreChanges}
use Rattle.rope_search_reports.specs.Replacement.{Groups, FollowEachOther, changes_of, searched}
use Rattle.rope_search.specs.Order.{Order, EditText, UndoEdit, RedoEdit, SetPattern, FindNext, ReplaceAll}
use Rattle.rope_search.specs.Session.{BufferState, State, first_state, fresh, current_text, chosen_buffer, IsReportIn}
use Rattle.rope_search.specs.Finding.{ArePositionsOf}
use Rattle.rope_search.specs.Places.{HasNoneBetween}
use Rattle.rope_search.specs.Replacing.{AreMatchesOfBuffer}
use Rattle.rope_search.specs.Shows.{Shows}
use Rattle.rope_search.specs.Stands.{Stands}
use Rattle.rope_search.specs.Step.{Answer, Accepts, Step}
use Rattle.rope_search.specs.Reads.{Reads}
use Rattle.rope_search.specs.Cost.{Costs}
use Rattle.rope_search.specs.Answers.{Run, Answers}

-- these bytes are read as some commands and an ending, and only as these
abbrev pub HasOneReading : List ℕ → Type 0
HasOneReading input =
    ((orders : List Order) × (ending : Ended) × Reads input orders ending)
    × ((orders others : List Order) (ending other : Ended) → Reads input orders ending
    → Reads input others other → (orders ≡ others) × (ending ≡ other))

-- except out of memory, this command has one answer with a session after it, and no other
abbrev pub HasOneStep : ℕ → State → Order → Type 0
HasOneStep limit old order =
    ((answer : Answer) × (new : State) × (answer ≢ Err Memory) × Step limit old order answer new)
    × ((answer other : Answer) (new new' : State) → Step limit old order answer new
    → Step limit old order other new'
    → answer ≢ Err Memory → other ≢ Err Memory → (answer ≡ other) × (new ≡ new'))

-- this command has some cost, and no other
abbrev pub HasOneCost : ℕ → State → Order → Type 0
HasOneCost limit old order =
    ((n : ℕ) × Costs limit old order n)
    × ((m n : ℕ) → Costs limit old order m → Costs limit old order n → m ≡ n)

-- what follows a bad line changes nothing: the same answers are possible with it and without it
abbrev pub EndsAtBadLine : ℕ → List ℕ → Type 0
EndsAtBadLine limit input =
    (orders : List Order) → Reads input orders Command → (more output : List ℕ) (cost : ℕ)
    → Answers limit input Command output cost
    ↔ Answers limit (input ++ more) Command output cost

-- these bytes have some ending and some answer
abbrev pub HasAnswer : ℕ → List ℕ → Type 0
HasAnswer limit input =
    (ending : Ended) × (output : List ℕ) × (cost : ℕ) × Answers limit input ending output cost

-- an answer is shown in one way, and in no other
abbrev pub HasOneShow : State → Answer → Type 0
HasOneShow session answer =
    ((bytes : List ℕ) × Shows session answer bytes)
    × ((bytes other : List ℕ) → Shows session answer bytes → Shows session answer other
    → bytes ≡ other)

-- this command, with what was kept of its payload, represents some command of the definition
abbrev pub StandsForSome : ℕ → CommandOf Payload → Type 0
StandsForSome limit command = (order : Order) × Stands limit command order

-- the chosen buffer exists, and so does its current text
pub record HasCurrent (session : State) : Type 0 where
  pub chosen : session.chosen < length session.buffers
  pub current : (chosen_buffer session).current < length (chosen_buffer session).texts

-- the texts of a buffer are lists of scalar values, and so is its pattern, which is one
pub record HoldsTexts (buffer : BufferState) : Type 0 where
  pub texts : All IsText buffer.texts
  pub pattern : IfSome buffer.pattern (λ p. IsText p × IsPattern p)

-- this holds of each buffer
abbrev pub AllHoldTexts : State → Type 0
AllHoldTexts session = All HoldsTexts session.buffers

-- it holds at first, and after each command
pub record StepsHoldTexts : Type 0 where
  pub first : AllHoldTexts first_state
  pub step : (limit : ℕ) (old new : State) (order : Order) (answer : Answer)
      → AllHoldTexts old → Step limit old order answer new → AllHoldTexts new

-- the chosen buffers have one text and one pattern, and so one report
pub record AreChosenAlike (session other : State) : Type 0 where
  pub text : current_text (chosen_buffer session) ≡ current_text (chosen_buffer other)
  pub pattern : (chosen_buffer session).pattern ≡ (chosen_buffer other).pattern

-- an edit, and directly after it an undo, give back text and pattern
abbrev pub UndoUndoesEdit : Type 0
UndoUndoesEdit = (limit : ℕ) (old edited new : State) (from to : Position) (payload : List ℕ)
    (reply undone : Reply) → HasCurrent old
    → Step limit old (EditText from to payload) (Ok reply) edited
    → Step limit edited UndoEdit (Ok undone) new → AreChosenAlike new old

-- so do a replacement, and directly after it an undo
abbrev pub UndoUndoesReplace : Type 0
UndoUndoesReplace = (limit : ℕ) (old edited new : State) (payload : List ℕ) (reply undone : Reply)
    → HasCurrent old → Step limit old (ReplaceAll payload) (Ok reply) edited
    → Step limit edited UndoEdit (Ok undone) new → AreChosenAlike new old

-- so do an undo, and directly after it a redo
abbrev pub RedoRedoesUndo : Type 0
RedoRedoesUndo = (limit : ℕ) (old undone new : State) (reply redone : Reply) → HasCurrent old
    → Step limit old UndoEdit (Ok reply) undone → Step limit undone RedoEdit (Ok redone) new
    → AreChosenAlike new old

-- two sessions with the same text and pattern reply alike to this command
abbrev pub RepliesAlike : Order → Type 0
RepliesAlike order = (limit limit' : ℕ) (session other new new' : State) (answer answer' : Answer)
    (bytes bytes' : List ℕ) → AreChosenAlike session other → Step limit session order answer new
    → Step limit' other order answer' new' → Shows new answer bytes → Shows new' answer' bytes'
    → bytes ≡ bytes'

-- they also do to `next` from a position, except out of memory
abbrev pub FindsAlike : Type 0
FindsAlike = (limit limit' : ℕ) (session other new new' : State) (from : Position)
    (answer answer' : Answer) (bytes bytes' : List ℕ) → AllHoldTexts session
    → AreChosenAlike session other → Step limit session (FindNext from) answer new
    → Step limit' other (FindNext from) answer' new' → answer ≢ Err Memory → answer' ≢ Err Memory
    → Shows new answer bytes → Shows new' answer' bytes' → bytes ≡ bytes'

-- a match, given by its positions, starts at the offset of the position from which it was searched
-- or after it, and starts and ends at boundaries
pub record IsFoundFrom (text : List ℕ) (from start end : Position) : Type 0 where
  pub place : ℕ
  pub span : ℕ × ℕ
  pub searched : IsAt text (from.line, from.column) place
  pub lies : IsInText text place span
  pub told : ArePositionsOf text start end span

-- each match that `next` reports is such a one
abbrev pub FindsBoundaries : Type 0
FindsBoundaries = (limit : ℕ) (old new : State) (from start end : Position) → AllHoldTexts old
    → Step limit old (FindNext from) (Ok (Found start end)) new
    → IsFoundFrom (current_text (chosen_buffer old)) from start end

-- two positions are at offsets of a text, the second not before the first, and are the positions of
-- these offsets
pub record HavePlaces (text : List ℕ) (from to : Position) : Type 0 where
  pub start : ℕ
  pub end : ℕ
  pub starts : IsAt text (from.line, from.column) start
  pub ends : IsAt text (to.line, to.column) end
  pub ordered : start ≤ end
  pub told : ArePositionsOf text from to (start, end)

-- those of an edit that is accepted are such
abbrev pub EditsHavePlaces : Type 0
EditsHavePlaces = (limit : ℕ) (old new : State) (from to : Position) (payload : List ℕ)
    (reply : Reply) → Step limit old (EditText from to payload) (Ok reply) new
    → HavePlaces (current_text (chosen_buffer old)) from to

-- the report of a session is the one that its pattern would give if it were set again
abbrev pub KeptIsAnew : Type 0
KeptIsAnew = (limit : ℕ) (old new : State) (pattern payload : List ℕ) (reply : Reply)
    (rows anew : List (List (ℕ × ℕ)))
    → (chosen_buffer old).pattern ≡ Some pattern → Encodes pattern payload
    → Step limit old (SetPattern payload) (Ok reply) new
    → IsReportIn (chosen_buffer old) rows → IsReportIn (chosen_buffer new) anew → rows ≡ anew

-- the pattern of a buffer would be accepted again, except out of memory
abbrev pub PatternsAreTaken : Type 0
PatternsAreTaken = (limit : ℕ) (session : State) (pattern payload : List ℕ) → AllHoldTexts session
    → (chosen_buffer session).pattern ≡ Some pattern → Encodes pattern payload
    → Accepts limit session (SetPattern payload)

-- no command changes a buffer that isn't chosen
abbrev pub OthersStay : Type 0
OthersStay = (limit : ℕ) (old new : State) (order : Order) (answer : Answer) (k : ℕ)
    → Step limit old order answer new → k < length old.buffers → k ≢ old.chosen
    → slice_index_or new.buffers k (fresh []) ≡ slice_index_or old.buffers k (fresh [])

-- after commands from the first session, each match of the report starts and ends at a boundary of
-- the current text
abbrev pub ListsBoundaries : Type 0
ListsBoundaries = (limit : ℕ) (orders : List Order) (out : List ℕ) (cost : ℕ) (session : State)
    (rows : List (List (ℕ × ℕ))) (line : ℕ) → Run limit first_state orders out cost session
    → IsReportIn (chosen_buffer session) rows
    → All (StandsAtBoundaries (current_text (chosen_buffer session)) line)
    (slice_index_or rows line [])

-- all matches of a buffer's pattern in its current text were replaced, and this is their number:
-- they follow each other, and each starts and ends at a boundary; all text outside them stays, in
-- order
pub record KeepsTheRest (old : BufferState) (template new : List ℕ) (count : ℕ) : Type 0 where
  pub matches : List Groups
  pub are : AreMatchesOfBuffer old matches
  pub counted : count ≡ length matches
  pub follow : FollowEachOther (bytes_of (current_text old)) 0 matches
  pub stays : AreChanges (changes_of (bytes_of (current_text old)) template 0 0 matches) 0 0
      (current_text old) new (searched (bytes_of (current_text old)) template matches)

-- `replace` replies with the number
abbrev pub ReplaceKeepsTheRest : Type 0
ReplaceKeepsTheRest = (limit : ℕ) (old new : State) (payload : List ℕ) (count : ℕ)
    → AllHoldTexts old → HasCurrent old
    → Step limit old (ReplaceAll payload) (Ok (Number count)) new
    → KeepsTheRest (chosen_buffer old) (chars payload) (current_text (chosen_buffer new)) count

-- of two positions the second is before the first
pub record AreTurned (text : List ℕ) (from to : Position) : Type 0 where
  pub start : ℕ
  pub end : ℕ
  pub starts : IsAt text (from.line, from.column) start
  pub ends : IsAt text (to.line, to.column) end
  pub turned : end < start

-- two positions have no text between them exactly if one is nowhere or the second is before the
-- first
abbrev pub NoneIsNowhereOrTurned : Type 0
NoneIsNowhereOrTurned = (text : List ℕ) (from to : Position) → IsText text
    → HasNoneBetween text from to
    ↔ (IsNowhere text (from.line, from.column)
    ⊎ (IsNowhere text (to.line, to.column) ⊎ AreTurned text from to))

-- the laws of offsets, of patterns, of matches, and of replacements
pub record Known : Type 0 where
  pub placed : HasOnePlace
  pub told : IsPatternOrNot
  pub apart : IsOneOfThree
  pub one : FindsOne
  pub some : HasFind
  pub one_list : HasOneListOfGroups
  pub groups : HasGroups
  pub replaced : ReplacedIsText
