-- Each command has one reply, one next session and one cost, except out of memory.
use Rattle.std.proofs.Common.{◌≡◌, ◌≢◌, ℕ, ◌+◌, ◌<◌, ◌≤◌, ◌⊎◌, List, [], ◌∷◌, ◌++◌, length, refl, sym, ap, ◌∙◌, subst, inl, inr, IsUtf8, arith}
use Rattle.std.specs.Prelude.{Option, None, Some, MatchOption, IfSome, Ok, Err, chars}
use Rattle.std.proofs.lemmas.Bool.{cases_lt, cases_eq, cases_order}
use Rattle.std.proofs.lemmas.Str.{chars_from_encodes}
use Rattle.rope_search_io.specs.declared.faults.Fault.{Fault}
use Rattle.rope_search_io.specs.declared.faults.Fault.TheVariants.{Nothing, Range, Utf8, Pattern, Limit, Size, Memory}
use Rattle.rope_search.specs.declared.commands.Reply.{Reply}
use Rattle.rope_search.specs.declared.commands.Reply.TheVariants.{Done, Number, Found, NoMatch, List as Listing, Print}
use Rattle.rope_search_reports.specs.Text.{IsText, Encodes, bytes_of}
use Rattle.rope_search.specs.Order.{Order, SetText, EditText, UndoEdit, RedoEdit, PrintText, ForkBuffer, SetPattern, DropPattern, ListMatches, FindNext, ReplaceAll, UseBuffer}
use Rattle.rope_search.specs.Session.{BufferState, State, fresh, current_text, chosen_buffer, with_text, with_edit, undone, redone, with_pattern, with_chosen}
use Rattle.rope_search_reports.specs.declared.positions.Position.{Position}
use Rattle.rope_search.specs.Places.{IsBetween, HasNoneBetween, GetsTooLong}
use Rattle.rope_search.proofs.PartLaws.{edited_by, IsEdit-known, IsEdit-by, between_choice, long_choice}
use Rattle.rope_search_reports.specs.Pattern.{IsPattern, IsTooHeavy, SpellsNone, FindsSpan, pattern_limit}
use Rattle.rope_search_reports.specs.Position.{IsAt, IsNowhere, position}
use Rattle.rope_search.specs.Finding.{FindsFromPosition, TellsPositions}
use Rattle.rope_search.specs.Replacing.{AreMatchesOfBuffer, IsReplacement, GetsTooLongWith, text_with}
use Rattle.rope_search_reports.specs.Matches.{AreGroups}
use Rattle.rope_search_reports.specs.Replacement.{Groups, searched}
use Rattle.rope_search.specs.Laws.{AllHoldTexts, HoldsTexts, Known}
use Rattle.rope_search.proofs.HoldLaws.{chosen_holds, text_holds, pattern_holds}
use Rattle.rope_search.proofs.LineLaws.{positions_same}
use Rattle.rope_search.proofs.NoneLaws.{none_between}
use Rattle.str_indices.specs.Text.{byte_len}
use Rattle.rope_search_io.specs.Faults.{rank_of}
use Rattle.rope_search.specs.Step.{Answer, Refuses, IsFirstRefusal, Accepts, Does, Step}
use Rattle.rope_search.specs.Shows.{IsListed, Shows, shows}
use Rattle.rope_search_reports.specs.Report.{IsReport}
use Rattle.rope_search_reports.specs.Laws.{HasOnePlace, HasOneReport, HasReport}
use Rattle.rope_search.specs.Cost.{Costs, CostsAccepted, RowsOf}
use Rattle.rope_search.proofs.RefusalLaws.{rank_some, utf8_choice, Refuses-memory, refused_utf8, refused_size, refused_nothing, refused_list, refused_pattern_utf8, refused_pattern, refused_limit, accepted_text, accepted_print, accepted_fork, accepted_use, accepted_pattern, accepted_off, accepted_list}

-- ---- the next match

-- without a pattern nothing is searched for
pub refused_next : (limit : ℕ) (s : State) (from : Position) → (chosen_buffer s).pattern ≡ None → IsFirstRefusal limit s (FindNext from) Nothing
refused_next limit s from none = record { refuses = none; none_before = before }
  where
    before : (other : Fault) → rank_of other < 1 → Refuses limit s (FindNext from) other → ⊥
    before other lower h = rank_some other lower

-- with one, a position that is nowhere is refused
pub refused_astray : (limit : ℕ) (s : State) (from : Position) → (chosen_buffer s).pattern ≢ None → IsNowhere (current_text (chosen_buffer s)) (from.line, from.column)
    → IsFirstRefusal limit s (FindNext from) Range
refused_astray limit s from some nowhere = record { refuses = nowhere; none_before = before }
  where
    before : (other : Fault) → rank_of other < 2 → Refuses limit s (FindNext from) other → ⊥
    before Nothing lower h = some h
    before other lower h = omega arith

pub accepted_next : (limit : ℕ) (s : State) (from : Position) (place : ℕ) → (chosen_buffer s).pattern ≢ None → IsAt (current_text (chosen_buffer s)) (from.line, from.column) place
    → Accepts limit s (FindNext from)
accepted_next limit s from place some at Nothing h = some h
accepted_next limit s from place some at Range h = h place at
accepted_next limit s from place some at Utf8 h = h
accepted_next limit s from place some at Pattern h = h
accepted_next limit s from place some at Limit h = h
accepted_next limit s from place some at Size h = h
accepted_next limit s from place some at Memory h = h

-- a position has an offset in a text, or is nowhere in it
pub spot_choice : HasOnePlace → (text : List ℕ) (from : Position) → IsText text → ((place : ℕ) × IsAt text (from.line, from.column) place) ⊎ IsNowhere text (from.line, from.column)
spot_choice placed text from scalars = elim (between_choice placed text from from) [
  | inl some ↦ inl (byte_len some.0, some.3.starts)
  | inr none ↦ elim ((none_between placed text from from scalars).0 none) [
    | inl nowhere ↦ inr nowhere
    | inr (inl nowhere) ↦ inr nowhere
    | inr (inr turned) ↦ absurd (omega (arith, turned.turned, placed text (from.line, from.column) turned.start turned.end scalars turned.starts turned.ends))
  ]
]

-- ---- what is replaced

-- without a pattern nothing is replaced
pub refused_replace : (limit : ℕ) (s : State) (payload : List ℕ) → (chosen_buffer s).pattern ≡ None → IsFirstRefusal limit s (ReplaceAll payload) Nothing
refused_replace limit s payload none = record { refuses = none; none_before = before }
  where
    before : (other : Fault) → rank_of other < 1 → Refuses limit s (ReplaceAll payload) other → ⊥
    before other lower h = rank_some other lower

-- with one, a template that isn't UTF-8 is refused for that
pub refused_replace_utf8 : (limit : ℕ) (s : State) (payload : List ℕ) → (chosen_buffer s).pattern ≢ None → ¬ (IsUtf8 payload) → IsFirstRefusal limit s (ReplaceAll payload) Utf8
refused_replace_utf8 limit s payload some broken = record { refuses = broken; none_before = before }
  where
    before : (other : Fault) → rank_of other < 3 → Refuses limit s (ReplaceAll payload) other → ⊥
    before Nothing lower h = some h
    before Range lower h = h
    before other lower h = omega arith

-- and one that is too long itself, or makes the text too long, for that
pub refused_replace_size : (limit : ℕ) (s : State) (payload : List ℕ) → (chosen_buffer s).pattern ≢ None → IsUtf8 payload
    → (limit < length payload) ⊎ GetsTooLongWith limit (chosen_buffer s) (chars payload) → IsFirstRefusal limit s (ReplaceAll payload) Size
refused_replace_size limit s payload some text long = record { refuses = long; none_before = before }
  where
    before : (other : Fault) → rank_of other < 6 → Refuses limit s (ReplaceAll payload) other → ⊥
    before Nothing lower h = some h
    before Range lower h = h
    before Utf8 lower h = h text
    before Pattern lower h = h
    before Limit lower h = h
    before other lower h = omega arith

pub accepted_replace : (limit : ℕ) (s : State) (payload : List ℕ) → (chosen_buffer s).pattern ≢ None → IsUtf8 payload → length payload ≤ limit
    → (GetsTooLongWith limit (chosen_buffer s) (chars payload) → ⊥) → Accepts limit s (ReplaceAll payload)
accepted_replace limit s payload some text short fits Nothing h = some h
accepted_replace limit s payload some text short fits Range h = h
accepted_replace limit s payload some text short fits Utf8 h = h text
accepted_replace limit s payload some text short fits Pattern h = h
accepted_replace limit s payload some text short fits Limit h = h
accepted_replace limit s payload some text short fits Size (inl long) = omega arith
accepted_replace limit s payload some text short fits Size (inr long) = fits long
accepted_replace limit s payload some text short fits Memory h = h

-- ---- all matches of a buffer's pattern

-- the pattern, if there is one
pub pattern_of : (pattern : Option (List ℕ)) → pattern ≢ None → (p : List ℕ) × (pattern ≡ Some p)
pattern_of None some = absurd (some refl)
pattern_of (Some p) some = (p, refl)

-- those of a text that is a pattern
abbrev matches_by : Known → (p content : List ℕ) → IsPattern p ⊎ (IsTooHeavy p ⊎ SpellsNone p) → List Groups
matches_by known p content (inl is) = (known.groups p content is).0
matches_by known p content (inr other) = []

matches_by-are : (known : Known) (p content : List ℕ) (choice : IsPattern p ⊎ (IsTooHeavy p ⊎ SpellsNone p)) → IsPattern p → AreGroups p content (matches_by known p content choice)
matches_by-are known p content (inl is) it = (known.groups p content is).1
matches_by-are known p content (inr (inl heavy)) it = absurd (known.apart.not_heavy p it heavy)
matches_by-are known p content (inr (inr none)) it = absurd (known.apart.some p it none)

abbrev matches_in : Known → Option (List ℕ) → List ℕ → List Groups
matches_in known None content = []
matches_in known (Some p) content = matches_by known p content (known.told p)

-- those of a buffer
abbrev pub matches_of : Known → BufferState → List Groups
matches_of known buffer = matches_in known buffer.pattern (bytes_of (current_text buffer))

matches_of-are : (known : Known) (b : BufferState) (p : List ℕ) → HoldsTexts b → b.pattern ≡ Some p → AreMatchesOfBuffer b (matches_of known b)
matches_of-are known b p h is =
    let content = bytes_of (current_text b) in
    let it = pattern_holds b p h is in
    record {
      pattern = p;
      is_pattern = is;
      are = subst (λ o. AreGroups p content (matches_in known o content)) (sym is) (matches_by-are known p content (known.told p) it);
    }

-- they are these and no others
matches_known : (known : Known) (b : BufferState) (matches : List Groups) → HoldsTexts b → AreMatchesOfBuffer b matches → matches ≡ matches_of known b
matches_known known b matches h all =
    let content = bytes_of (current_text b) in
    let own = matches_by-are known all.pattern content (known.told all.pattern) (pattern_holds b all.pattern h all.is_pattern) in
    known.one_list all.pattern content matches (matches_in known (Some all.pattern) content) all.are own
    ∙ ap (λ o. matches_in known o content) (sym all.is_pattern)

-- the text with all of them replaced
abbrev replaced_text : Known → BufferState → List ℕ → List ℕ
replaced_text known b template = text_with b template (matches_of known b)

-- all matches are replaced in one way
IsReplacement-known : (known : Known) (b : BufferState) (template : List ℕ) (count : ℕ) (new : BufferState) → HoldsTexts b → IsReplacement b template count new
    → (count ≡ length (matches_of known b)) × (new ≡ with_edit b (replaced_text known b template))
IsReplacement-known known b template count new h is =
    let same = matches_known known b is.matches h is.are in
    (is.counted ∙ ap length same, is.changed ∙ ap (λ ms. with_edit b (text_with b template ms)) same)

-- that makes a text too long or not
long_with_choice : (known : Known) (limit : ℕ) (b : BufferState) (template p : List ℕ) → HoldsTexts b → b.pattern ≡ Some p
    → GetsTooLongWith limit b template ⊎ (GetsTooLongWith limit b template → ⊥)
long_with_choice known limit b template p h is = elim (cases_lt limit (byte_len (replaced_text known b template))) [
  | inl long ↦ inl (record { matches = matches_of known b; are = matches_of-are known b p h is; long = long })
  | inr short ↦ inr (λ gets.
      let long = gets.long in
      let same = ap (λ ms. byte_len (text_with b template ms)) (matches_known known b gets.matches h gets.are) in
      omega (arith, long, same, short))
]

-- ---- edits

-- if no part is between the positions, an edit is first refused for that
pub refused_range : (limit : ℕ) (s : State) (from to : Position) (payload : List ℕ) → HasNoneBetween (current_text (chosen_buffer s)) from to
    → IsFirstRefusal limit s (EditText from to payload) Range
refused_range limit s from to payload none = record { refuses = none; none_before = before }
  where
    before : (other : Fault) → rank_of other < 2 → Refuses limit s (EditText from to payload) other → ⊥
    before Nothing lower h = h
    before other lower h = omega arith

-- a payload that isn't UTF-8 is refused for that, if there is a part
pub refused_edit_utf8 : (limit : ℕ) (s : State) (from to : Position) (payload before part behind : List ℕ) → IsBetween (current_text (chosen_buffer s)) from to before part behind
    → ¬ (IsUtf8 payload) → IsFirstRefusal limit s (EditText from to payload) Utf8
refused_edit_utf8 limit s from to payload before part behind between broken = record { refuses = broken; none_before = earlier }
  where
    earlier : (other : Fault) → rank_of other < 3 → Refuses limit s (EditText from to payload) other → ⊥
    earlier Nothing lower h = h
    earlier Range lower h = h before part behind between
    earlier other lower h = omega arith

-- an edit that makes the text too long is refused for that
pub refused_edit_size : (limit : ℕ) (s : State) (from to : Position) (payload : List ℕ) → IsUtf8 payload → GetsTooLong limit (current_text (chosen_buffer s)) from to (length payload)
    → IsFirstRefusal limit s (EditText from to payload) Size
refused_edit_size limit s from to payload text long = record { refuses = long; none_before = earlier }
  where
    earlier : (other : Fault) → rank_of other < 6 → Refuses limit s (EditText from to payload) other → ⊥
    earlier Nothing lower h = h
    earlier Range lower h = h long.before long.part long.behind long.between
    earlier Utf8 lower h = h text
    earlier Pattern lower h = h
    earlier Limit lower h = h
    earlier other lower h = omega arith

pub accepted_edit : (limit : ℕ) (s : State) (from to : Position) (payload before part behind : List ℕ) → IsBetween (current_text (chosen_buffer s)) from to before part behind
    → IsUtf8 payload → (GetsTooLong limit (current_text (chosen_buffer s)) from to (length payload) → ⊥) → Accepts limit s (EditText from to payload)
accepted_edit limit s from to payload before part behind between text short Nothing h = h
accepted_edit limit s from to payload before part behind between text short Range h = h before part behind between
accepted_edit limit s from to payload before part behind between text short Utf8 h = h text
accepted_edit limit s from to payload before part behind between text short Pattern h = h
accepted_edit limit s from to payload before part behind between text short Limit h = h
accepted_edit limit s from to payload before part behind between text short Size h = short h
accepted_edit limit s from to payload before part behind between text short Memory h = h

-- what can't be undone, or redone
pub refused_undo : (limit : ℕ) (s : State) → (chosen_buffer s).current ≡ 0 → IsFirstRefusal limit s UndoEdit Nothing
refused_undo limit s none = record { refuses = none; none_before = before }
  where
    before : (other : Fault) → rank_of other < 1 → Refuses limit s UndoEdit other → ⊥
    before other lower h = rank_some other lower

pub refused_redo : (limit : ℕ) (s : State) → length (chosen_buffer s).texts ≤ (chosen_buffer s).current + 1 → IsFirstRefusal limit s RedoEdit Nothing
refused_redo limit s none = record { refuses = none; none_before = before }
  where
    before : (other : Fault) → rank_of other < 1 → Refuses limit s RedoEdit other → ⊥
    before other lower h = rank_some other lower

pub accepted_undo : (limit : ℕ) (s : State) → (chosen_buffer s).current ≢ 0 → Accepts limit s UndoEdit
accepted_undo limit s some Nothing h = some h
accepted_undo limit s some Range h = h
accepted_undo limit s some Utf8 h = h
accepted_undo limit s some Pattern h = h
accepted_undo limit s some Limit h = h
accepted_undo limit s some Size h = h
accepted_undo limit s some Memory h = h

pub accepted_redo : (limit : ℕ) (s : State) → (chosen_buffer s).current + 1 < length (chosen_buffer s).texts → Accepts limit s RedoEdit
accepted_redo limit s some Nothing h = omega arith
accepted_redo limit s some Range h = h
accepted_redo limit s some Utf8 h = h
accepted_redo limit s some Pattern h = h
accepted_redo limit s some Limit h = h
accepted_redo limit s some Size h = h
accepted_redo limit s some Memory h = h

-- there is a pattern or none
pub has_pattern : (pattern : Option (List ℕ)) → (pattern ≡ None) ⊎ (pattern ≢ None)
has_pattern None = inl refl
has_pattern (Some p) = inr (λ e. cc)

-- an edit is refused for some first reason, or accepted
edit_choice : (placed : HasOnePlace) (limit : ℕ) (s : State) (from to : Position) (payload : List ℕ)
    → ((f : Fault) × IsFirstRefusal limit s (EditText from to payload) f) ⊎ Accepts limit s (EditText from to payload)
edit_choice placed limit s from to payload = elim (between_choice placed (current_text (chosen_buffer s)) from to) [
  | inr none ↦ inl (Range, refused_range limit s from to payload none)
  | inl some ↦ elim (utf8_choice payload) [
    | inr broken ↦ inl (Utf8, refused_edit_utf8 limit s from to payload some.0 some.1 some.2 some.3 broken)
    | inl text ↦ elim (long_choice placed limit (current_text (chosen_buffer s)) from to (length payload) some.0 some.1 some.2 some.3) [
      | inl long ↦ inl (Size, refused_edit_size limit s from to payload text long)
      | inr short ↦ inr (accepted_edit limit s from to payload some.0 some.1 some.2 some.3 text short)
    ]
  ]
]

-- so is a replacement
replace_choice : Known → (limit : ℕ) (s : State) (payload : List ℕ) → AllHoldTexts s
    → ((f : Fault) × IsFirstRefusal limit s (ReplaceAll payload) f) ⊎ Accepts limit s (ReplaceAll payload)
replace_choice known limit s payload all = elim (has_pattern (chosen_buffer s).pattern) [
  | inl none ↦ inl (Nothing, refused_replace limit s payload none)
  | inr some ↦ elim (utf8_choice payload) [
    | inr broken ↦ inl (Utf8, refused_replace_utf8 limit s payload some broken)
    | inl text ↦ elim (cases_lt limit (length payload)) [
      | inl long ↦ inl (Size, refused_replace_size limit s payload some text (inl long))
      | inr short ↦
          let pattern = pattern_of (chosen_buffer s).pattern some in
          elim (long_with_choice known limit (chosen_buffer s) (chars payload) pattern.0 (chosen_holds s all) pattern.1) [
            | inl long ↦ inl (Size, refused_replace_size limit s payload some text (inr long))
            | inr fits ↦ inr (accepted_replace limit s payload some text (omega (arith, short)) fits)
          ]
    ]
  ]
]

-- a command is refused for some first reason, or accepted
pub refusal_choice : Known → (limit : ℕ) (s : State) (o : Order) → AllHoldTexts s → ((f : Fault) × IsFirstRefusal limit s o f) ⊎ Accepts limit s o
refusal_choice known limit s (SetText payload) all = elim (utf8_choice payload) [
  | inl text ↦ elim (cases_lt limit (length payload)) [
    | inl long ↦ inl (Size, refused_size limit s payload text long)
    | inr short ↦ inr (accepted_text limit s payload text short)
  ]
  | inr broken ↦ inl (Utf8, refused_utf8 limit s payload broken)
]
refusal_choice known limit s (EditText from to payload) all = edit_choice known.placed limit s from to payload
refusal_choice known limit s UndoEdit all = elim (cases_eq (chosen_buffer s).current 0) [
  | inl none ↦ inl (Nothing, refused_undo limit s none)
  | inr some ↦ inr (accepted_undo limit s some)
]
refusal_choice known limit s RedoEdit all = elim (cases_lt ((chosen_buffer s).current + 1) (length (chosen_buffer s).texts)) [
  | inl some ↦ inr (accepted_redo limit s some)
  | inr none ↦ inl (Nothing, refused_redo limit s none)
]
refusal_choice known limit s PrintText all = inr (accepted_print limit s)
refusal_choice known limit s ForkBuffer all = inr (accepted_fork limit s)
refusal_choice known limit s (SetPattern payload) all = elim (utf8_choice payload) [
  | inl text ↦ elim (cases_lt pattern_limit (length payload)) [
    | inl long ↦ inl (Limit, refused_limit known.apart limit s payload text (inl long))
    | inr short ↦ elim (known.told (chars payload)) [
      | inl is ↦ inr (accepted_pattern known.apart limit s payload text (omega (arith, short)) is)
      | inr (inl heavy) ↦ inl (Limit, refused_limit known.apart limit s payload text (inr heavy))
      | inr (inr none) ↦ inl (Pattern, refused_pattern limit s payload text (omega (arith, short)) none)
    ]
  ]
  | inr broken ↦ inl (Utf8, refused_pattern_utf8 limit s payload broken)
]
refusal_choice known limit s DropPattern all = inr (accepted_off limit s)
refusal_choice known limit s ListMatches all = elim (has_pattern (chosen_buffer s).pattern) [
  | inl none ↦ inl (Nothing, refused_list limit s none)
  | inr some ↦ inr (accepted_list limit s some)
]
refusal_choice known limit s (FindNext from) all = elim (has_pattern (chosen_buffer s).pattern) [
  | inl none ↦ inl (Nothing, refused_next limit s from none)
  | inr some ↦ elim (spot_choice known.placed (current_text (chosen_buffer s)) from (text_holds (chosen_buffer s) (chosen_holds s all))) [
    | inl spot ↦ inr (accepted_next limit s from spot.0 some spot.1)
    | inr nowhere ↦ inl (Range, refused_astray limit s from some nowhere)
  ]
]
refusal_choice known limit s (ReplaceAll payload) all = replace_choice known limit s payload all
refusal_choice known limit s (UseBuffer k) all = elim (cases_lt k (length s.buffers)) [
  | inl inside ↦ inr (accepted_use limit s k inside)
  | inr past ↦ inl (Nothing, refused_nothing limit s k past)
]

-- faults of one rank are the same
pub rank_one : (f g : Fault) → rank_of f ≡ rank_of g → f ≡ g
rank_one Nothing Nothing e = refl
rank_one Range Range e = refl
rank_one Utf8 Utf8 e = refl
rank_one Pattern Pattern e = refl
rank_one Limit Limit e = refl
rank_one Size Size e = refl
rank_one Memory Memory e = refl
rank_one f g e = absurd (omega arith)

-- a command has at most one first refusal
pub IsFirstRefusal-one : (limit : ℕ) (s : State) (o : Order) (f g : Fault) → IsFirstRefusal limit s o f → IsFirstRefusal limit s o g → f ≡ g
IsFirstRefusal-one limit s o f g one other = elim (cases_order (rank_of f) (rank_of g)) [
  | inl same ↦ rank_one f g same
  | inr (inl below) ↦ absurd (other.none_before f below one.refuses)
  | inr (inr above) ↦ absurd (one.none_before g above other.refuses)
]

-- ---- what a command does

-- the reply to an accepted command; `next` is the reply to a search for a match
abbrev pub reply_to : Known → Reply → State → Order → Reply
reply_to known next old (SetText payload) = Done
reply_to known next old (EditText from to payload) = Done
reply_to known next old UndoEdit = Done
reply_to known next old RedoEdit = Done
reply_to known next old PrintText = Print
reply_to known next old ForkBuffer = Number (length old.buffers)
reply_to known next old (SetPattern payload) = Done
reply_to known next old DropPattern = Done
reply_to known next old ListMatches = Listing
reply_to known next old (FindNext from) = next
reply_to known next old (ReplaceAll payload) = Number (length (matches_of known (chosen_buffer old)))
reply_to known next old (UseBuffer k) = Done

-- the session after an accepted command
abbrev pub after : Known → State → Order → State
after known old (EditText from to payload) =
    with_chosen old (edited_by (chosen_buffer old) from to (chars payload) (between_choice known.placed (current_text (chosen_buffer old)) from to))
after known old UndoEdit = with_chosen old (undone (chosen_buffer old))
after known old RedoEdit = with_chosen old (redone (chosen_buffer old))
after known old (SetText payload) = with_chosen old (with_text (chosen_buffer old) (chars payload))
after known old PrintText = old
after known old ForkBuffer = record old { buffers = old.buffers ++ fresh (current_text (chosen_buffer old)) ∷ [] }
after known old (SetPattern payload) = with_chosen old (with_pattern (chosen_buffer old) (Some (chars payload)))
after known old DropPattern = with_chosen old (with_pattern (chosen_buffer old) None)
after known old ListMatches = old
after known old (FindNext from) = old
after known old (ReplaceAll payload) =
    with_chosen old (with_edit (chosen_buffer old) (replaced_text known (chosen_buffer old) (chars payload)))
after known old (UseBuffer k) = record old { chosen = k }

-- the text that bytes encode is the list of their characters
pub Encodes-chars : (text bytes : List ℕ) → Encodes text bytes → text ≡ chars bytes
Encodes-chars text bytes h = chars_from_encodes text bytes (text, (h.scalars, h.spelled)) h.spelled

-- an accepted command does one thing
pub Does-known : (known : Known) (old : State) (o : Order) (r : Reply) (new : State) → AllHoldTexts old → Does old o r new → (r ≡ reply_to known r old o) × (new ≡ after known old o)
Does-known known old (EditText from to payload) Done new all h =
    let buffer = chosen_buffer old in
    let edited = IsEdit-known known.placed buffer from to h.0 h.1 (between_choice known.placed (current_text buffer) from to) h.3 in
    let text : h.0 ≡ chars payload = Encodes-chars h.0 payload h.2 in
    (refl, h.4 ∙ ap (with_chosen old) edited ∙ ap (λ t. with_chosen old (edited_by buffer from to t (between_choice known.placed (current_text buffer) from to))) text)
Does-known known old UndoEdit Done new all h = (refl, h)
Does-known known old RedoEdit Done new all h = (refl, h)
Does-known known old (SetText payload) Done new all h = (refl, h.2 ∙ ap (λ t. with_chosen old (with_text (chosen_buffer old) t)) (Encodes-chars h.0 payload h.1))
Does-known known old PrintText Print new all h = (refl, h)
Does-known known old ForkBuffer (Number k) new all h = (ap Number h.0, h.1)
Does-known known old (SetPattern payload) Done new all h = (refl, h.2 ∙ ap (λ p. with_chosen old (with_pattern (chosen_buffer old) (Some p))) (Encodes-chars h.0 payload h.1))
Does-known known old DropPattern Done new all h = (refl, h)
Does-known known old ListMatches Listing new all h = (refl, h)
Does-known known old (FindNext from) (Found start end) new all h = (refl, h.1)
Does-known known old (FindNext from) NoMatch new all h = (refl, h.1)
Does-known known old (ReplaceAll payload) (Number k) new all h =
    let buffer = chosen_buffer old in
    let edited = IsReplacement-known known buffer h.0 k h.1 (chosen_holds old all) h.3 in
    let text : h.0 ≡ chars payload = Encodes-chars h.0 payload h.2 in
    (ap Number edited.0, h.4 ∙ ap (with_chosen old) edited.1 ∙ ap (λ t. with_chosen old (with_edit buffer (replaced_text known buffer t))) text)
Does-known known old (UseBuffer k) Done new all h = (refl, h)
Does-known known old o r new all h = absurd h

-- the position of an offset
abbrev pub spot_of : List ℕ → ℕ → Position
spot_of text place = record { line = (position text place).0; column = (position text place).1 }

-- the result of a search is reported
next_by : (old : State) (from : Position) (found : Option (ℕ × ℕ)) → FindsFromPosition (chosen_buffer old) from found → (r : Reply) × Does old (FindNext from) r old
next_by old from None finds = (NoMatch, (finds, refl))
next_by old from (Some span) finds =
    let text = current_text (chosen_buffer old) in
    (Found (spot_of text span.0) (spot_of text span.1), ((span, finds, (refl, refl)), refl))

next_does : Known → (limit : ℕ) (old : State) (from : Position) → AllHoldTexts old → Accepts limit old (FindNext from) → (r : Reply) × Does old (FindNext from) r old
next_does known limit old from all accepts =
    let buffer = chosen_buffer old in
    let h = chosen_holds old all in
    let pattern = pattern_of buffer.pattern (accepts Nothing) in
    elim (spot_choice known.placed (current_text buffer) from (text_holds buffer h)) [
      | inl spot ↦
          let found = known.some pattern.0 (bytes_of (current_text buffer)) spot.0 (pattern_holds buffer pattern.0 h pattern.1) in
          next_by old from found.0 (record { pattern = pattern.0; place = spot.0; is_pattern = pattern.1; starts = spot.1; finds = found.1 })
      | inr nowhere ↦ absurd (accepts Range nowhere)
    ]

-- so are all matches replaced
replace_does : (known : Known) (limit : ℕ) (old : State) (payload : List ℕ) → AllHoldTexts old → Accepts limit old (ReplaceAll payload)
    → (r : Reply) × Does old (ReplaceAll payload) r (after known old (ReplaceAll payload))
replace_does known limit old payload all accepts =
    let buffer = chosen_buffer old in
    let pattern = pattern_of buffer.pattern (accepts Nothing) in
    elim (utf8_choice payload) [
      | inl text ↦
          let encodes : Encodes text.0 payload = record { scalars = text.1.0; spelled = text.1.1 } in
          let template : Encodes (chars payload) payload = subst (λ t. Encodes t payload) (Encodes-chars text.0 payload encodes) encodes in
          let changed : IsReplacement buffer (chars payload) (length (matches_of known buffer)) (with_edit buffer (replaced_text known buffer (chars payload))) =
          record { matches = matches_of known buffer; are = matches_of-are known buffer pattern.0 (chosen_holds old all) pattern.1; counted = refl; changed = refl } in
          (Number (length (matches_of known buffer)), (chars payload, with_edit buffer (replaced_text known buffer (chars payload)), template, changed, refl))
      | inr broken ↦ absurd (accepts Utf8 broken)
    ]

-- and each accepted command does it
pub Does-after : (known : Known) (limit : ℕ) (old : State) (o : Order) → AllHoldTexts old → Accepts limit old o → (r : Reply) × Does old o r (after known old o)
Does-after known limit old (EditText from to payload) all accepts =
    let buffer = chosen_buffer old in
    let choice = between_choice known.placed (current_text buffer) from to in
    elim (utf8_choice payload) [
      | inl text ↦
          let encodes : Encodes text.0 payload = record { scalars = text.1.0; spelled = text.1.1 } in
          let inserted : Encodes (chars payload) payload = subst (λ t. Encodes t payload) (Encodes-chars text.0 payload encodes) encodes in
          (Done, (chars payload, edited_by buffer from to (chars payload) choice, inserted, IsEdit-by buffer from to (chars payload) choice (λ none. accepts Range none), refl))
      | inr broken ↦ absurd (accepts Utf8 broken)
    ]
Does-after known limit old UndoEdit all accepts = (Done, refl)
Does-after known limit old RedoEdit all accepts = (Done, refl)
Does-after known limit old (SetText payload) all accepts = elim (utf8_choice payload) [
  | inl text ↦
      let encodes : Encodes text.0 payload = record { scalars = text.1.0; spelled = text.1.1 } in
      (Done, (text.0, encodes, ap (λ t. with_chosen old (with_text (chosen_buffer old) t)) (sym (Encodes-chars text.0 payload encodes))))
  | inr broken ↦ absurd (accepts Utf8 broken)
]
Does-after known limit old PrintText all accepts = (Print, refl)
Does-after known limit old ForkBuffer all accepts = (Number (length old.buffers), (refl, refl))
Does-after known limit old (SetPattern payload) all accepts = elim (utf8_choice payload) [
  | inl text ↦
      let encodes : Encodes text.0 payload = record { scalars = text.1.0; spelled = text.1.1 } in
      (Done, (text.0, encodes, ap (λ p. with_chosen old (with_pattern (chosen_buffer old) (Some p))) (sym (Encodes-chars text.0 payload encodes))))
  | inr broken ↦ absurd (accepts Utf8 broken)
]
Does-after known limit old DropPattern all accepts = (Done, refl)
Does-after known limit old ListMatches all accepts = (Listing, refl)
Does-after known limit old (FindNext from) all accepts = next_does known limit old from all accepts
Does-after known limit old (ReplaceAll payload) all accepts = replace_does known limit old payload all accepts
Does-after known limit old (UseBuffer k) all accepts = (Done, refl)

-- ---- one reply

same_some : {A : Type 0} (a b : A) → Some a ≡ Some b → a ≡ b
same_some a b e = cc

-- the match found from a position is unique
found_one : Known → (b : BufferState) (from : Position) (x y : Option (ℕ × ℕ)) → HoldsTexts b → FindsFromPosition b from x → FindsFromPosition b from y → x ≡ y
found_one known b from x y h one other =
    let text = current_text b in
    let pattern : one.pattern ≡ other.pattern = same_some one.pattern other.pattern (sym one.is_pattern ∙ other.is_pattern) in
    let place : one.place ≡ other.place = known.placed text (from.line, from.column) one.place other.place (text_holds b h) one.starts other.starts in
    known.one other.pattern (bytes_of text) other.place x y
    (subst (λ p. FindsSpan other.pattern (bytes_of text) p x) place (subst (λ q. FindsSpan q (bytes_of text) one.place x) pattern one.finds)) other.finds

spot_one : (text : List ℕ) (p q : Position) (place place' : ℕ) → (p.line, p.column) ≡ position text place → (q.line, q.column) ≡ position text place' → place ≡ place' → p ≡ q
spot_one text p q place place' one other same =
    let e : ◌≡◌ {A = ℕ × ℕ} (p.line, p.column) (q.line, q.column) = one ∙ ap (position text) same ∙ sym other in
    positions_same p q (ap (λ (x : ℕ × ℕ). x.0) e) (ap (λ (x : ℕ × ℕ). x.1) e)

-- so it is reported in one way
found_told : Known → (b : BufferState) (from a z c y : Position) → HoldsTexts b → TellsPositions b from (Some (a, z)) → TellsPositions b from (Some (c, y)) → Found a z ≡ Found c y
found_told known b from a z c y h one other =
    let text = current_text b in
    let span : one.0 ≡ other.0 = same_some one.0 other.0 (found_one known b from (Some one.0) (Some other.0) h one.1 other.1) in
    let starts : a ≡ c = spot_one text a c one.0.0 other.0.0 one.2.0 other.2.0 (ap (λ (x : ℕ × ℕ). x.0) span) in
    let ends : z ≡ y = spot_one text z y one.0.1 other.0.1 one.2.1 other.2.1 (ap (λ (x : ℕ × ℕ). x.1) span) in
    ap (λ p. Found p z) starts ∙ ap (λ p. Found c p) ends

not_both : Known → (b : BufferState) (from a z : Position) → HoldsTexts b → TellsPositions b from (Some (a, z)) → TellsPositions b from None → ⊥
not_both known b from a z h one other = let e : Some one.0 ≡ None = found_one known b from (Some one.0) None h one.1 other in cc

found_with : Known → (old : State) (from a z : Position) (q : Reply) (y : State) → AllHoldTexts old → TellsPositions (chosen_buffer old) from (Some (a, z)) → Does old (FindNext from) q y → Found a z ≡ q
found_with known old from a z (Found c d) y all one other = found_told known (chosen_buffer old) from a z c d (chosen_holds old all) one other.0
found_with known old from a z NoMatch y all one other = absurd (not_both known (chosen_buffer old) from a z (chosen_holds old all) one other.0)
found_with known old from a z q y all one other = absurd other

none_with : Known → (old : State) (from : Position) (q : Reply) (y : State) → AllHoldTexts old → TellsPositions (chosen_buffer old) from None → Does old (FindNext from) q y → NoMatch ≡ q
none_with known old from (Found c d) y all one other = absurd (not_both known (chosen_buffer old) from c d (chosen_holds old all) other.0 one)
none_with known old from NoMatch y all one other = refl
none_with known old from q y all one other = absurd other

pub next_one : Known → (old : State) (from : Position) (r q : Reply) (x y : State) → AllHoldTexts old → Does old (FindNext from) r x → Does old (FindNext from) q y → r ≡ q
next_one known old from (Found a z) q x y all one other = found_with known old from a z q y all one.0 other
next_one known old from NoMatch q x y all one other = none_with known old from q y all one.0 other
next_one known old from r q x y all one other = absurd one

-- an accepted command has one reply
pub reply_one : Known → (old : State) (o : Order) (r q : Reply) (x y : State) → AllHoldTexts old → Does old o r x → Does old o q y → r ≡ q
reply_one known old (FindNext from) r q x y all one other = next_one known old from r q x y all one other
reply_one known old o r q x y all one other = (Does-known known old o r x all one).0 ∙ sym (Does-known known old o q y all other).0

-- ---- steps

-- a command first refused for this has this answer, and the session is unchanged
pub Step-refused : (limit : ℕ) (s : State) (o : Order) (f : Fault) → IsFirstRefusal limit s o f → Step limit s o (Err f) s
Step-refused limit s o Nothing first = (first, refl)
Step-refused limit s o Range first = (first, refl)
Step-refused limit s o Utf8 first = (first, refl)
Step-refused limit s o Pattern first = (first, refl)
Step-refused limit s o Limit first = (first, refl)
Step-refused limit s o Size first = (first, refl)
Step-refused limit s o Memory first = absurd (Refuses-memory limit s o first.refuses)

-- an answer other than out of memory is the first refusal
pub Step-told : (limit : ℕ) (s : State) (o : Order) (f : Fault) (new : State) → f ≢ Memory → Step limit s o (Err f) new → IsFirstRefusal limit s o f × (new ≡ s)
Step-told limit s o Nothing new other step = step
Step-told limit s o Range new other step = step
Step-told limit s o Utf8 new other step = step
Step-told limit s o Pattern new other step = step
Step-told limit s o Limit new other step = step
Step-told limit s o Size new other step = step
Step-told limit s o Memory new other step = absurd (other refl)

-- each command has a step, except out of memory
pub step_exists : Known → (limit : ℕ) (s : State) (o : Order) → AllHoldTexts s → (answer : Answer) × (new : State) × (answer ≢ Err Memory) × Step limit s o answer new
step_exists known limit s o all = elim (refusal_choice known limit s o all) [
  | inl refused ↦ (Err refused.0, s, memory refused.0 (Err refused.0) refl refused.1, Step-refused limit s o refused.0 refused.1)
  | inr accepts ↦ let does = Does-after known limit s o all accepts in (Ok does.0, after known s o, (λ e. cc), (accepts, does.1))
]
  where
    memory : (f : Fault) (told : Answer) → told ≡ Err f → IsFirstRefusal limit s o f → told ≡ Err Memory → ⊥
    memory f told is first e = let same : f ≡ Memory = cc in Refuses-memory limit s o (subst (λ g. Refuses limit s o g) same first.refuses)

-- and no other
pub step_one : Known → (limit : ℕ) (s : State) (o : Order) → AllHoldTexts s → (a b : Answer) (x y : State) → Step limit s o a x → Step limit s o b y → a ≢ Err Memory → b ≢ Err Memory → (a ≡ b) × (x ≡ y)
step_one known limit s o all (Ok p) (Ok q) x y one other memory memory' =
    (ap Ok (reply_one known s o p q x y all one.1 other.1), (Does-known known s o p x all one.1).1 ∙ sym (Does-known known s o q y all other.1).1)
step_one known limit s o all (Ok p) (Err g) x y one other memory memory' =
    absurd (one.0 g (Step-told limit s o g y (λ e. memory' (ap Err e)) other).0.refuses)
step_one known limit s o all (Err f) (Ok q) x y one other memory memory' =
    absurd (other.0 f (Step-told limit s o f x (λ e. memory (ap Err e)) one).0.refuses)
step_one known limit s o all (Err f) (Err g) x y one other memory memory' =
    let told = Step-told limit s o f x (λ e. memory (ap Err e)) one in
    let told' = Step-told limit s o g y (λ e. memory' (ap Err e)) other in
    (ap Err (IsFirstRefusal-one limit s o f g told.0 told'.0), told.1 ∙ sym told'.1)

-- ---- costs

-- an accepted command may make some number of rows
rows_after : (known : Known) (limit : ℕ) (old : State) (o : Order) → AllHoldTexts old → Accepts limit old o → (n : ℕ) × RowsOf old o (after known old o) n
rows_after known limit old (ReplaceAll payload) all accepts =
    let buffer = chosen_buffer old in
    let pattern = pattern_of buffer.pattern (accepts Nothing) in (
      searched (bytes_of (current_text buffer)) (chars payload) (matches_of known buffer),
      record { matches = matches_of known buffer; are = matches_of-are known buffer pattern.0 (chosen_holds old all) pattern.1; rows = refl },
    )
rows_after known limit old (SetText payload) all accepts = (_, refl)
rows_after known limit old (EditText from to payload) all accepts = (_, refl)
rows_after known limit old UndoEdit all accepts = (_, refl)
rows_after known limit old RedoEdit all accepts = (_, refl)
rows_after known limit old PrintText all accepts = (_, refl)
rows_after known limit old ForkBuffer all accepts = (_, refl)
rows_after known limit old (SetPattern payload) all accepts = (_, refl)
rows_after known limit old DropPattern all accepts = (_, refl)
rows_after known limit old ListMatches all accepts = (_, refl)
rows_after known limit old (FindNext from) all accepts = (_, refl)
rows_after known limit old (UseBuffer k) all accepts = (_, refl)

-- and no other number
RowsOf-one : (known : Known) (old new : State) (o : Order) (m n : ℕ) → AllHoldTexts old → RowsOf old o new m → RowsOf old o new n → m ≡ n
RowsOf-one known old new (ReplaceAll payload) m n all one other =
    let buffer = chosen_buffer old in
    let same = matches_known known buffer one.matches (chosen_holds old all) one.are ∙ sym (matches_known known buffer other.matches (chosen_holds old all) other.are) in
    one.rows ∙ ap (searched (bytes_of (current_text buffer)) (chars payload)) same ∙ sym other.rows
RowsOf-one known old new (SetText payload) m n all one other = one ∙ sym other
RowsOf-one known old new (EditText from to payload) m n all one other = one ∙ sym other
RowsOf-one known old new UndoEdit m n all one other = one ∙ sym other
RowsOf-one known old new RedoEdit m n all one other = one ∙ sym other
RowsOf-one known old new PrintText m n all one other = one ∙ sym other
RowsOf-one known old new ForkBuffer m n all one other = one ∙ sym other
RowsOf-one known old new (SetPattern payload) m n all one other = one ∙ sym other
RowsOf-one known old new DropPattern m n all one other = one ∙ sym other
RowsOf-one known old new ListMatches m n all one other = one ∙ sym other
RowsOf-one known old new (FindNext from) m n all one other = one ∙ sym other
RowsOf-one known old new (UseBuffer k) m n all one other = one ∙ sym other

-- a command that is accepted has this cost
accepted_cost : (known : Known) (limit : ℕ) (s : State) (o : Order) → AllHoldTexts s → Accepts limit s o → (n : ℕ) × CostsAccepted limit s o n
accepted_cost known limit s o all accepts =
    let does = Does-after known limit s o all accepts in
    let rows = rows_after known limit s o all accepts in
    (rows.0, record { reply = does.0; new = after known s o; step = (accepts, does.1); rows = rows.1 })

-- and no other
accepted_one : (known : Known) (limit : ℕ) (s : State) (o : Order) (m n : ℕ) → AllHoldTexts s → CostsAccepted limit s o m → CostsAccepted limit s o n → m ≡ n
accepted_one known limit s o m n all one other =
    let here = (Does-known known s o one.reply one.new all one.step.1).1 in
    let there = (Does-known known s o other.reply other.new all other.step.1).1 in
    RowsOf-one known s (after known s o) o m n all (subst (λ t. RowsOf s o t m) here one.rows) (subst (λ t. RowsOf s o t n) there other.rows)

-- each command has a cost
pub costs_exist : Known → (limit : ℕ) (s : State) (o : Order) → AllHoldTexts s → (n : ℕ) × Costs limit s o n
costs_exist known limit s o all = elim (refusal_choice known limit s o all) [
  | inl refused ↦ (0, inl (refused.0, refused.1.refuses, refl))
  | inr accepts ↦ let cost = accepted_cost known limit s o all accepts in (cost.0, inr cost.1)
]

-- and no other
pub costs_one : Known → (limit : ℕ) (s : State) (o : Order) → AllHoldTexts s → (m n : ℕ) → Costs limit s o m → Costs limit s o n → m ≡ n
costs_one known limit s o all m n (inl one) (inl other) = one.2 ∙ sym other.2
costs_one known limit s o all m n (inl one) (inr other) = absurd (other.step.0 one.0 one.1)
costs_one known limit s o all m n (inr one) (inl other) = absurd (one.step.0 other.0 other.1)
costs_one known limit s o all m n (inr one) (inr other) = accepted_one known limit s o m n all one other

-- ---- what is shown

-- without a pattern there are no rows, and with one there is a report
report_exists : HasReport → (text : List ℕ) (pattern : Option (List ℕ)) → IfSome pattern (λ p. IsText p × IsPattern p)
    → (rows : List (List (ℕ × ℕ))) × MatchOption pattern (rows ≡ []) (λ p. IsReport text p rows)
report_exists reported text None is = ([], refl)
report_exists reported text (Some p) is = reported text p is.1

rows_exist : HasReport → (s : State) (answer : Answer) → AllHoldTexts s → (rows : List (List (ℕ × ℕ))) × IsListed s answer rows
rows_exist reported s (Ok Listing) all = report_exists reported (current_text (chosen_buffer s)) (chosen_buffer s).pattern (chosen_holds s all).pattern
rows_exist reported s answer all = ([], refl)

-- each answer can be shown
pub shows_exist : HasReport → (s : State) (answer : Answer) → AllHoldTexts s → (reply : List ℕ) × Shows s answer reply
shows_exist reported s answer all = let rows = rows_exist reported s answer all in (shows s rows.0 answer, record { rows = rows.0; listed = rows.1; shown = refl })

-- and in one way
report_one : HasOneReport → (text : List ℕ) (pattern : Option (List ℕ)) (rows rows' : List (List (ℕ × ℕ))) → MatchOption pattern (rows ≡ []) (λ p. IsReport text p rows)
    → MatchOption pattern (rows' ≡ []) (λ p. IsReport text p rows') → rows ≡ rows'
report_one single text None rows rows' one other = one ∙ sym other
report_one single text (Some p) rows rows' one other = single text p rows rows' one other

rows_one : HasOneReport → (s : State) (answer : Answer) (rows rows' : List (List (ℕ × ℕ))) → IsListed s answer rows → IsListed s answer rows' → rows ≡ rows'
rows_one single s (Ok Listing) rows rows' one other = report_one single (current_text (chosen_buffer s)) (chosen_buffer s).pattern rows rows' one other
rows_one single s answer rows rows' one other = one ∙ sym other

pub shows_one : HasOneReport → (s : State) (answer : Answer) (x y : List ℕ) → Shows s answer x → Shows s answer y → x ≡ y
shows_one single s answer x y one other =
    one.shown ∙ ap (λ rows. shows s rows answer) (rows_one single s answer one.rows other.rows one.listed other.listed) ∙ sym other.shown
