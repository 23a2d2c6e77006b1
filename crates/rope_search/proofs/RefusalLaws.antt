-- The first reason to refuse a command, and when it is accepted.
use Rattle.std.proofs.Common.{◌≡◌, ◌≢◌, ℕ, ◌<◌, ◌≤◌, ◌⊎◌, List, true, false, length, sym, ◌∙◌, inl, inr, IsUtf8, arith}
use Rattle.std.specs.Prelude.{None, chars}
use Rattle.std.specs.Str.{is_utf8}
use Rattle.std.proofs.lemmas.Bool.{cases_Bool}
use Rattle.std.proofs.lemmas.Str.{IsUtf8-from_is_utf8, is_utf8-from_IsUtf8}
use Rattle.rope_search_io.specs.declared.faults.Fault.{Fault}
use Rattle.rope_search_io.specs.declared.faults.Fault.TheVariants.{Nothing, Range, Utf8, Pattern, Limit, Size, Memory}
use Rattle.rope_search.specs.Order.{Order, SetText, EditText, UndoEdit, RedoEdit, PrintText, ForkBuffer, SetPattern, DropPattern, ListMatches, FindNext, ReplaceAll, UseBuffer}
use Rattle.rope_search.specs.Session.{State, chosen_buffer}
use Rattle.rope_search_reports.specs.Pattern.{IsPattern, IsTooHeavy, SpellsNone, pattern_limit}
use Rattle.rope_search_io.specs.Faults.{rank_of}
use Rattle.rope_search.specs.Step.{Refuses, IsFirstRefusal, Accepts}
use Rattle.rope_search_reports.specs.Laws.{IsOneOfThree}

-- bytes are UTF-8 or not
pub utf8_choice : (bytes : List ℕ) → IsUtf8 bytes ⊎ (¬ (IsUtf8 bytes))
utf8_choice bytes = elim (cases_Bool (is_utf8 bytes)) [
  | inl yes_it_is ↦ inl (IsUtf8-from_is_utf8 bytes yes_it_is)
  | inr not_so ↦ inr (λ text. let e : true ≡ false = sym (is_utf8-from_IsUtf8 bytes text) ∙ not_so in absurd (cc))
]

-- ---- refusals

-- out of memory is no refusal
pub Refuses-memory : (limit : ℕ) (s : State) (o : Order) → Refuses limit s o Memory → ⊥
Refuses-memory limit s (SetText payload) h = h
Refuses-memory limit s (EditText from to payload) h = h
Refuses-memory limit s UndoEdit h = h
Refuses-memory limit s RedoEdit h = h
Refuses-memory limit s PrintText h = h
Refuses-memory limit s ForkBuffer h = h
Refuses-memory limit s (SetPattern payload) h = h
Refuses-memory limit s DropPattern h = h
Refuses-memory limit s ListMatches h = h
Refuses-memory limit s (FindNext from) h = h
Refuses-memory limit s (ReplaceAll payload) h = h
Refuses-memory limit s (UseBuffer k) h = h

-- a payload that isn't UTF-8 is first refused for that
pub refused_utf8 : (limit : ℕ) (s : State) (payload : List ℕ) → ¬ (IsUtf8 payload) → IsFirstRefusal limit s (SetText payload) Utf8
refused_utf8 limit s payload broken = record { refuses = broken; none_before = before }
  where
    before : (other : Fault) → rank_of other < 3 → Refuses limit s (SetText payload) other → ⊥
    before Nothing lower h = h
    before Range lower h = h
    before other lower h = omega arith

-- a text that is too long is first refused for that
pub refused_size : (limit : ℕ) (s : State) (payload : List ℕ) → IsUtf8 payload → limit < length payload → IsFirstRefusal limit s (SetText payload) Size
refused_size limit s payload text long = record { refuses = long; none_before = before }
  where
    before : (other : Fault) → rank_of other < 6 → Refuses limit s (SetText payload) other → ⊥
    before Nothing lower h = h
    before Range lower h = h
    before Utf8 lower h = h text
    before Pattern lower h = h
    before Limit lower h = h
    before other lower h = omega arith

-- no refusal is reported before `Nothing`
pub rank_some : (fault : Fault) → rank_of fault < 1 → ⊥
rank_some Nothing lower = omega arith
rank_some Range lower = omega arith
rank_some Utf8 lower = omega arith
rank_some Pattern lower = omega arith
rank_some Limit lower = omega arith
rank_some Size lower = omega arith
rank_some Memory lower = omega arith

-- a buffer that doesn't exist can't be chosen
pub refused_nothing : (limit : ℕ) (s : State) (k : ℕ) → length s.buffers ≤ k → IsFirstRefusal limit s (UseBuffer k) Nothing
refused_nothing limit s k past = record { refuses = past; none_before = before }
  where
    before : (other : Fault) → rank_of other < 1 → Refuses limit s (UseBuffer k) other → ⊥
    before other lower h = rank_some other lower

-- without a pattern there is nothing to list
pub refused_list : (limit : ℕ) (s : State) → (chosen_buffer s).pattern ≡ None → IsFirstRefusal limit s ListMatches Nothing
refused_list limit s none = record { refuses = none; none_before = before }
  where
    before : (other : Fault) → rank_of other < 1 → Refuses limit s ListMatches other → ⊥
    before other lower h = rank_some other lower

-- a pattern's payload that isn't UTF-8 is first refused for that
pub refused_pattern_utf8 : (limit : ℕ) (s : State) (payload : List ℕ) → ¬ (IsUtf8 payload) → IsFirstRefusal limit s (SetPattern payload) Utf8
refused_pattern_utf8 limit s payload broken = record { refuses = broken; none_before = before }
  where
    before : (other : Fault) → rank_of other < 3 → Refuses limit s (SetPattern payload) other → ⊥
    before Nothing lower h = h
    before Range lower h = h
    before other lower h = omega arith

-- a text that is no pattern is first refused for that
pub refused_pattern : (limit : ℕ) (s : State) (payload : List ℕ) → IsUtf8 payload → length payload ≤ pattern_limit → SpellsNone (chars payload)
    → IsFirstRefusal limit s (SetPattern payload) Pattern
refused_pattern limit s payload text short none = record { refuses = (short, none); none_before = before }
  where
    before : (other : Fault) → rank_of other < 4 → Refuses limit s (SetPattern payload) other → ⊥
    before Nothing lower h = h
    before Range lower h = h
    before Utf8 lower h = h text
    before other lower h = omega arith

-- a pattern that is too long or too heavy is first refused for that
pub refused_limit : IsOneOfThree → (limit : ℕ) (s : State) (payload : List ℕ) → IsUtf8 payload → (pattern_limit < length payload) ⊎ IsTooHeavy (chars payload)
    → IsFirstRefusal limit s (SetPattern payload) Limit
refused_limit apart limit s payload text much = record { refuses = much; none_before = before }
  where
    spelled : (pattern_limit < length payload) ⊎ IsTooHeavy (chars payload) → length payload ≤ pattern_limit → SpellsNone (chars payload) → ⊥
    spelled (inl long) short none = omega (arith, long, short)
    spelled (inr heavy) short none = apart.heavy_some (chars payload) heavy none

    before : (other : Fault) → rank_of other < 5 → Refuses limit s (SetPattern payload) other → ⊥
    before Nothing lower h = h
    before Range lower h = h
    before Utf8 lower h = h text
    before Pattern lower h = spelled much h.0 h.1
    before other lower h = omega arith

-- a text within the limit is accepted
pub accepted_text : (limit : ℕ) (s : State) (payload : List ℕ) → IsUtf8 payload → length payload ≤ limit → Accepts limit s (SetText payload)
accepted_text limit s payload text short Nothing h = h
accepted_text limit s payload text short Range h = h
accepted_text limit s payload text short Utf8 h = h text
accepted_text limit s payload text short Pattern h = h
accepted_text limit s payload text short Limit h = h
accepted_text limit s payload text short Size h = omega arith
accepted_text limit s payload text short Memory h = h

pub accepted_print : (limit : ℕ) (s : State) → Accepts limit s PrintText
accepted_print limit s fault h = h

pub accepted_fork : (limit : ℕ) (s : State) → Accepts limit s ForkBuffer
accepted_fork limit s fault h = h

-- a buffer that exists can be chosen
pub accepted_use : (limit : ℕ) (s : State) (k : ℕ) → k < length s.buffers → Accepts limit s (UseBuffer k)
accepted_use limit s k inside Nothing h = omega arith
accepted_use limit s k inside Range h = h
accepted_use limit s k inside Utf8 h = h
accepted_use limit s k inside Pattern h = h
accepted_use limit s k inside Limit h = h
accepted_use limit s k inside Size h = h
accepted_use limit s k inside Memory h = h

-- a pattern within the limit is accepted
pub accepted_pattern : IsOneOfThree → (limit : ℕ) (s : State) (payload : List ℕ) → IsUtf8 payload → length payload ≤ pattern_limit → IsPattern (chars payload)
    → Accepts limit s (SetPattern payload)
accepted_pattern apart limit s payload text short is Nothing h = h
accepted_pattern apart limit s payload text short is Range h = h
accepted_pattern apart limit s payload text short is Utf8 h = h text
accepted_pattern apart limit s payload text short is Pattern h = apart.some (chars payload) is h.1
accepted_pattern apart limit s payload text short is Limit (inl long) = omega arith
accepted_pattern apart limit s payload text short is Limit (inr heavy) = apart.not_heavy (chars payload) is heavy
accepted_pattern apart limit s payload text short is Size h = h
accepted_pattern apart limit s payload text short is Memory h = h

pub accepted_off : (limit : ℕ) (s : State) → Accepts limit s DropPattern
accepted_off limit s fault h = h

-- if there is a pattern its report can be listed
pub accepted_list : (limit : ℕ) (s : State) → (chosen_buffer s).pattern ≢ None → Accepts limit s ListMatches
accepted_list limit s some Nothing h = some h
accepted_list limit s some Range h = h
accepted_list limit s some Utf8 h = h
accepted_list limit s some Pattern h = h
accepted_list limit s some Limit h = h
accepted_list limit s some Size h = h
accepted_list limit s some Memory h = h
