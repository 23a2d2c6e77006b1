-- A text that arrived whole is set, or refused.
use Rattle.std.proofs.Common.{◌≡◌, ℕ, ◌+◌, ◌<◌, ◌≤◌, List, length, ap, refl, sym, subst, arith, IsUtf8, Err}
use Rattle.std.specs.Str.{chars}
use Rattle.rope_search_io.specs.declared.faults.Fault.{Fault}
use Rattle.rope_search_io.specs.declared.faults.Fault.TheVariants.{Nothing, Range, Utf8, Pattern, Limit, Size, Memory}
use Rattle.rope_search_io.specs.Faults.{rank_of}
use Rattle.rope_search_texts.specs.declared.arriving.ArrivingText.{ArrivingText}
use Rattle.rope_search_texts.specs.Arriving.{ArrivesWithin, FinishesWithin}
use Rattle.rope_search_texts.proofs.GrowingLemmas.{Arrives-within}
use Rattle.rope_search_reports.specs.Ticks.{Ticks, MakesAtMost}
use Rattle.rope_search.specs.Cost.{SearchesFor, rows_anew}
use Rattle.rope_search.specs.Order.{Order, SetText}
use Rattle.rope_search.specs.Requests.{IsTextOf}
use Rattle.rope_search.specs.Session.{State, LimitedBuffer, LimitedSession}
use Rattle.rope_search.specs.Step.{Answer, Refuses, Step}
use Rattle.rope_search.proofs.SessionLemmas.{Chosen, Chosen-limit, rows_taken}

-- no reason comes before that the bytes aren't UTF-8
none_before_utf8 : (limit : ℕ) (s : State) (bytes : List ℕ) (other : Fault) → rank_of other < 3 → Refuses limit s (SetText bytes) other → ⊥
none_before_utf8 limit s bytes Nothing below r = r
none_before_utf8 limit s bytes Range below r = r
none_before_utf8 limit s bytes Utf8 below r = omega (arith, below)
none_before_utf8 limit s bytes Pattern below r = r
none_before_utf8 limit s bytes Limit below r = r
none_before_utf8 limit s bytes Size below r = omega (arith, below)
none_before_utf8 limit s bytes Memory below r = r

-- and only that one before that they are too many
none_before_size : (limit : ℕ) (s : State) (bytes : List ℕ) → IsUtf8 bytes → (other : Fault) → rank_of other < 6 → Refuses limit s (SetText bytes) other → ⊥
none_before_size limit s bytes utf8 Nothing below r = r
none_before_size limit s bytes utf8 Range below r = r
none_before_size limit s bytes utf8 Utf8 below r = r utf8
none_before_size limit s bytes utf8 Pattern below r = r
none_before_size limit s bytes utf8 Limit below r = r
none_before_size limit s bytes utf8 Size below r = omega (arith, below)
none_before_size limit s bytes utf8 Memory below r = r

-- what arrived is no text
pub Step-no_text : (limit : ℕ) (s : State) (bytes : List ℕ) (fault : Fault) → FinishesWithin limit bytes (Err fault) → Step limit s (SetText bytes) (Err fault) s
Step-no_text limit s bytes Utf8 h = (record { refuses = h; none_before = none_before_utf8 limit s bytes }, refl)
Step-no_text limit s bytes Size h = (record { refuses = h.0; none_before = none_before_size limit s bytes h.1 }, refl)
Step-no_text limit s bytes Memory h = (tt, refl)
Step-no_text limit s bytes Nothing h = absurd h
Step-no_text limit s bytes Range h = absurd h
Step-no_text limit s bytes Pattern h = absurd h
Step-no_text limit s bytes Limit h = absurd h

-- and nothing is searched for it
pub SearchesFor-nothing : (limit : ℕ) (s : State) (bytes : List ℕ) (t : Ticks) → SearchesFor limit s (SetText bytes) t t
SearchesFor-nothing limit s bytes t = record {
  rows = λ cost costs. omega arith;
  wholes = omega arith;
  never_fall = record { rows = omega arith; wholes = omega arith };
}

-- a text that is set is searched for its report
pub searches_for_text : (items : List LimitedBuffer) (k limit : ℕ) (old : LimitedBuffer) (bytes : List ℕ) (s : LimitedSession) (text : List ℕ) (t u : Ticks) → Chosen items k limit old s
    → (length bytes ≤ s.limit) × IsUtf8 bytes × (text ≡ chars bytes) → MakesAtMost (rows_anew old.state text) t u → SearchesFor s.limit s.state (SetText bytes) t u
searches_for_text items k limit old bytes s text t u c is made = record {
  rows = rows_taken items k limit old bytes s u.count t.count c is.1 (λ over. absurd (omega (arith, over, is.0, Chosen-limit items k limit old s c))) (omega (arith, made.made, ap (λ l. rows_anew old.state l) is.2));
  wholes = omega (arith, made.no_whole);
  never_fall = record { rows = made.grows; wholes = omega (arith, made.no_whole) };
}

-- ---- the command that a text belongs to
pub text_step : (limit : ℕ) (text : ArrivingText) (s s' : State) (answer : Answer) (order : Order) → IsTextOf limit text order
    → ((bytes : List ℕ) → ArrivesWithin limit text bytes → Step limit s (SetText bytes) answer s') → Step limit s order answer s'
text_step limit text s s' answer order is step =
    subst (λ (o : Order). Step limit s o answer s') (sym is.sets) (step is.payload (Arrives-within limit text is.payload is.arrived))

pub text_searches : (limit : ℕ) (text : ArrivingText) (s : State) (t u : Ticks) (order : Order) → IsTextOf limit text order
    → ((bytes : List ℕ) → ArrivesWithin limit text bytes → SearchesFor limit s (SetText bytes) t u) → SearchesFor limit s order t u
text_searches limit text s t u order is searches =
    subst (λ (o : Order). SearchesFor limit s o t u) (sym is.sets) (searches is.payload (Arrives-within limit text is.payload is.arrived))
