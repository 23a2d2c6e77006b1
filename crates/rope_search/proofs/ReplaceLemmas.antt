-- Replacements in the chosen buffer: steps of the session, and the rows that they may make.
use Rattle.std.proofs.Common.{◌≡◌, ◌≢◌, ℕ, ◌+◌, ◌<◌, ◌≤◌, ◌⊎◌, List, length, refl, sym, ap, ◌∙◌, subst, inl, inr, IsUtf8, Ok, Err, arith}
use Rattle.std.specs.Prelude.{None, Some, Option, MatchOption}
use Rattle.std.specs.Str.{chars}
use Rattle.rope_search_io.specs.declared.faults.Fault.{Fault}
use Rattle.rope_search_io.specs.declared.faults.Fault.TheVariants.{Nothing, Utf8, Size, Memory}
use Rattle.rope_search.specs.declared.commands.CommandOf.TheVariants.{Replace}
use Rattle.rope_search.specs.declared.commands.Payload.{Payload}
use Rattle.rope_search.specs.declared.commands.Reply.TheVariants.{Number}
use Rattle.rope_search.specs.Order.{Order, ReplaceAll}
use Rattle.rope_search.specs.Session.{BufferState, State, LimitedBuffer, LimitedSession, chosen_buffer}
use Rattle.rope_search.specs.Stands.{Stands, StandsFor}
use Rattle.rope_search.specs.Replacing.{IsReplacement, GetsTooLongWith, RowsOfReplacement}
use Rattle.rope_search.specs.Step.{Refuses, Step}
use Rattle.rope_search.specs.Cost.{Costs, whole_searches}
use Rattle.rope_search.proofs.SessionLemmas.{Chosen, Chosen-state, Chosen-limit, Chosen-set, Chosen-kept, state_with}
use Rattle.rope_search.proofs.StepLaws.{accepted_replace, refused_replace, refused_replace_utf8, refused_replace_size}
use Rattle.rope_search.proofs.TextLemmas.{Encodes-chars}

-- what holds of each payload holds of each command
pub rows_for_replace : (limit : ℕ) (s : State) (payload : Payload) (count before : ℕ)
    → ((bytes : List ℕ) (cost : ℕ) → StandsFor limit payload bytes → Costs limit s (ReplaceAll bytes) cost → count ≤ before + cost)
    → (order : Order) (cost : ℕ) → Stands limit (Replace payload) order → Costs limit s order cost → count ≤ before + cost
rows_for_replace limit s payload count before each (ReplaceAll bytes) cost stands costs = each bytes cost stands costs
rows_for_replace limit s payload count before each order cost stands costs = absurd stands

pub wholes_for_replace : (limit : ℕ) (payload : Payload) (wholes before : ℕ) → wholes ≤ before + 1
    → (order : Order) → Stands limit (Replace payload) order → wholes ≤ before + whole_searches order
wholes_for_replace limit payload wholes before one (ReplaceAll bytes) stands = one
wholes_for_replace limit payload wholes before one order stands = absurd stands

-- a text is too long for the session if it is for the chosen buffer
long_here : (items : List LimitedBuffer) (k limit : ℕ) (old : LimitedBuffer) (s : LimitedSession) (template : List ℕ) → Chosen items k limit old s
    → GetsTooLongWith s.limit (chosen_buffer s.state) template → GetsTooLongWith old.limit old.state template
long_here items k limit old s template c long =
    subst (λ n. GetsTooLongWith n old.state template) (sym (Chosen-limit items k limit old s c))
    (subst (λ b. GetsTooLongWith s.limit b template) (Chosen-state items k limit old s c) long)

long_there : (items : List LimitedBuffer) (k limit : ℕ) (old : LimitedBuffer) (s : LimitedSession) (template : List ℕ) → Chosen items k limit old s
    → GetsTooLongWith old.limit old.state template → GetsTooLongWith s.limit (chosen_buffer s.state) template
long_there items k limit old s template c long =
    subst (λ n. GetsTooLongWith n (chosen_buffer s.state) template) (Chosen-limit items k limit old s c)
    (subst (λ b. GetsTooLongWith old.limit b template) (sym (Chosen-state items k limit old s c)) long)

-- the chosen buffer has a pattern if the session's has one
some_there : (items : List LimitedBuffer) (k limit : ℕ) (old : LimitedBuffer) (s : LimitedSession) → Chosen items k limit old s
    → old.state.pattern ≢ None → (chosen_buffer s.state).pattern ≢ None
some_there items k limit old s c some none = some (sym (ap (λ (b : BufferState). b.pattern) (Chosen-state items k limit old s c)) ∙ none)

-- the chosen buffer has all matches replaced: a step of the session
pub Step-replaced : (items : List LimitedBuffer) (k limit : ℕ) (old new : LimitedBuffer) (bytes : List ℕ) (count : ℕ) (s : LimitedSession) → Chosen items k limit old s
    → old.state.pattern ≢ None → IsUtf8 bytes → length bytes ≤ old.limit → (GetsTooLongWith old.limit old.state (chars bytes) → ⊥)
    → IsReplacement old.state (chars bytes) count new.state
    → Step s.limit s.state (ReplaceAll bytes) (Ok (Number count)) (state_with items k new)
Step-replaced items k limit old new bytes count s c some utf8 short fits is =
    let here : IsReplacement (chosen_buffer s.state) (chars bytes) count new.state =
    subst (λ b. IsReplacement b (chars bytes) count new.state) (sym (Chosen-state items k limit old s c)) is in (
      accepted_replace s.limit s.state bytes (some_there items k limit old s c some) utf8 (omega (arith, short, Chosen-limit items k limit old s c))
          (λ long. fits (long_here items k limit old s (chars bytes) c long)),
      (chars bytes, new.state, Encodes-chars bytes utf8, here, Chosen-set items k limit old new s (λ b. new.state) c refl),
    )

-- and why none is replaced
pub Step-replace_err : (items : List LimitedBuffer) (k limit : ℕ) (old new : LimitedBuffer) (bytes : List ℕ) (s : LimitedSession) (fault : Fault) → Chosen items k limit old s
    → new ≡ old → IsUtf8 bytes → (fault ≡ Nothing) ⊎ ((fault ≡ Size) ⊎ (fault ≡ Memory)) → (fault ≡ Nothing → old.state.pattern ≡ None)
    → (fault ≡ Size → old.state.pattern ≢ None) → (fault ≡ Size → (old.limit < length bytes) ⊎ GetsTooLongWith old.limit old.state (chars bytes))
    → Step s.limit s.state (ReplaceAll bytes) (Err fault) (state_with items k new)
Step-replace_err items k limit old new bytes s fault c same utf8 which none some long =
    subst (Step s.limit s.state (ReplaceAll bytes) (Err fault)) (sym (Chosen-kept items k limit old new s c same)) (told which)
  where
    there : (old.limit < length bytes) ⊎ GetsTooLongWith old.limit old.state (chars bytes) → (s.limit < length bytes) ⊎ GetsTooLongWith s.limit (chosen_buffer s.state) (chars bytes)
    there (inl over) = inl (omega (arith, over, Chosen-limit items k limit old s c))
    there (inr over) = inr (long_there items k limit old s (chars bytes) c over)

    told : (fault ≡ Nothing) ⊎ ((fault ≡ Size) ⊎ (fault ≡ Memory)) → Step s.limit s.state (ReplaceAll bytes) (Err fault) s.state
    told (inl e) =
        let no_pattern = ap (λ (b : BufferState). b.pattern) (Chosen-state items k limit old s c) ∙ none e in
        subst (λ f. Step s.limit s.state (ReplaceAll bytes) (Err f) s.state) (sym e) (refused_replace s.limit s.state bytes no_pattern, refl)
    told (inr (inl e)) =
        subst (λ f. Step s.limit s.state (ReplaceAll bytes) (Err f) s.state) (sym e)
        (refused_replace_size s.limit s.state bytes (some_there items k limit old s c (some e)) utf8 (there (long e)), refl)
    told (inr (inr e)) = subst (λ f. Step s.limit s.state (ReplaceAll bytes) (Err f) s.state) (sym e) (tt, refl)

-- a template that isn't UTF-8, or is longer than the limit, is refused for that, unless there is no
-- pattern
pub Step-replace_utf8 : (old : LimitedBuffer) (bytes : List ℕ) (s : LimitedSession) (told : Fault) → old.state ≡ chosen_buffer s.state
    → MatchOption old.state.pattern (told ≡ Nothing) (λ pattern. told ≡ Utf8) → ¬ (IsUtf8 bytes) → Step s.limit s.state (ReplaceAll bytes) (Err told) s.state
Step-replace_utf8 old bytes s told same which broken =
    judged (chosen_buffer s.state).pattern refl (subst (λ (b : BufferState). MatchOption b.pattern (told ≡ Nothing) (λ pattern. told ≡ Utf8)) same which)
  where
    judged : (pattern : Option (List ℕ)) → (chosen_buffer s.state).pattern ≡ pattern → MatchOption pattern (told ≡ Nothing) (λ p. told ≡ Utf8)
        → Step s.limit s.state (ReplaceAll bytes) (Err told) s.state
    judged None is e = subst (λ f. Step s.limit s.state (ReplaceAll bytes) (Err f) s.state) (sym e) (refused_replace s.limit s.state bytes is, refl)
    judged (Some p) is e =
        let some : (chosen_buffer s.state).pattern ≢ None = λ none. let e : Some p ≡ None = sym is ∙ none in cc in
        subst (λ f. Step s.limit s.state (ReplaceAll bytes) (Err f) s.state) (sym e) (refused_replace_utf8 s.limit s.state bytes some broken, refl)

pub Step-replace_long : (old : LimitedBuffer) (bytes : List ℕ) (s : LimitedSession) (told : Fault) → old.state ≡ chosen_buffer s.state
    → MatchOption old.state.pattern (told ≡ Nothing) (λ pattern. told ≡ Size) → IsUtf8 bytes → s.limit < length bytes → Step s.limit s.state (ReplaceAll bytes) (Err told) s.state
Step-replace_long old bytes s told same which utf8 long =
    judged (chosen_buffer s.state).pattern refl (subst (λ (b : BufferState). MatchOption b.pattern (told ≡ Nothing) (λ pattern. told ≡ Size)) same which)
  where
    judged : (pattern : Option (List ℕ)) → (chosen_buffer s.state).pattern ≡ pattern → MatchOption pattern (told ≡ Nothing) (λ p. told ≡ Size)
        → Step s.limit s.state (ReplaceAll bytes) (Err told) s.state
    judged None is e = subst (λ f. Step s.limit s.state (ReplaceAll bytes) (Err f) s.state) (sym e) (refused_replace s.limit s.state bytes is, refl)
    judged (Some p) is e =
        let some : (chosen_buffer s.state).pattern ≢ None = λ none. let e : Some p ≡ None = sym is ∙ none in cc in
        subst (λ f. Step s.limit s.state (ReplaceAll bytes) (Err f) s.state) (sym e) (refused_replace_size s.limit s.state bytes some utf8 (inl long), refl)

-- the rows that a replacement may make are those of the command's cost
pub rows_replaced : (items : List LimitedBuffer) (k limit : ℕ) (old : LimitedBuffer) (bytes : List ℕ) (s : LimitedSession) (count before : ℕ) → Chosen items k limit old s
    → IsUtf8 bytes → (old.state.pattern ≡ None → count ≤ before) → (old.limit < length bytes → count ≤ before)
    → (GetsTooLongWith old.limit old.state (chars bytes) → count ≤ before) → ((n : ℕ) → RowsOfReplacement old.state (chars bytes) n → count ≤ before + n)
    → (cost : ℕ) → Costs s.limit s.state (ReplaceAll bytes) cost → count ≤ before + cost
rows_replaced items k limit old bytes s count before c utf8 none long over rows cost (inl refused) = omega (arith, told refused.0 refused.1)
  where
    told : (fault : Fault) → Refuses s.limit s.state (ReplaceAll bytes) fault → count ≤ before
    told Nothing h = none (sym (ap (λ (b : BufferState). b.pattern) (Chosen-state items k limit old s c)) ∙ h)
    told Utf8 h = absurd (h utf8)
    told Size (inl h) = long (omega (arith, h, Chosen-limit items k limit old s c))
    told Size (inr h) = over (long_here items k limit old s (chars bytes) c h)
    told fault h = absurd h
rows_replaced items k limit old bytes s count before c utf8 none long over rows cost (inr costs) =
    rows cost (subst (λ b. RowsOfReplacement b (chars bytes) cost) (Chosen-state items k limit old s c) costs.rows)
