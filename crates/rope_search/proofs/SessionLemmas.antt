-- Steps of a session on the list of its buffers.
use Rattle.std.proofs.Common.{◌≡◌, ℕ, ◌+◌, ◌<◌, ◌≤◌, ◌⊎◌, List, [], length, map, sym, ap, ◌∙◌, subst, inl, inr, refl, IsUtf8, Ok, Err, arith, slice_index_or, slice_set}
use Rattle.std.proofs.lemmas.List.{map-set, get_or-map, get_or-set_same, set-get_or, length-map}
use Rattle.rope_search.specs.declared.commands.Payload.{Payload}
use Rattle.rope_search.specs.declared.commands.CommandOf.TheVariants.{Text, Pattern as PatternCommand, Next}
use Rattle.rope_search.specs.Order.{Order, SetText, SetPattern, FindNext}
use Rattle.rope_search.specs.Session.{State, BufferState, LimitedBuffer, LimitedSession, fresh, current_text, chosen_buffer, with_text, with_pattern, with_chosen}
use Rattle.rope_search_reports.specs.Pattern.{IsPattern, IsTooHeavy, SpellsNone, pattern_limit}
use Rattle.rope_search_reports.specs.Text.{line_count}
use Rattle.rope_search_reports.specs.declared.positions.Position.{Position}
use Rattle.rope_search_io.specs.declared.faults.Fault.{Fault}
use Rattle.rope_search_io.specs.declared.faults.Fault.TheVariants.{Utf8, Pattern, Limit, Memory}
use Rattle.rope_search_reports.specs.Laws.{IsOneOfThree}
use Rattle.rope_search.specs.Stands.{Stands, StandsFor}
use Rattle.rope_search.specs.Step.{Refuses, Accepts, Does, Step}
use Rattle.rope_search.specs.Cost.{Costs, CostsAccepted, rows_anew, rows_of_report, whole_searches}
use Rattle.rope_search.proofs.RefusalLaws.{accepted_text, accepted_pattern, refused_limit, refused_pattern}
use Rattle.std.proofs.lemmas.Bool.{cases_lt}
use Rattle.std.specs.Prelude.{Some}
use Rattle.rope_search.proofs.TextLemmas.{Encodes-chars}
use Rattle.rope_search.proofs.StepLaws.{Encodes-chars as text_known}
use Rattle.rope_search.specs.declared.commands.Reply.{Reply}
use Rattle.rope_search.specs.declared.commands.Reply.TheVariants.{Done}
use Rattle.std.specs.Str.{chars}
use Rattle.std.specs.List.{All}

-- ---- what holds of each payload holds of each command

pub rows_for_text : (limit : ℕ) (s : State) (payload : Payload) (count before : ℕ)
    → ((bytes : List ℕ) (cost : ℕ) → StandsFor limit payload bytes → Costs limit s (SetText bytes) cost → count ≤ before + cost)
    → (order : Order) (cost : ℕ) → Stands limit (Text payload) order → Costs limit s order cost → count ≤ before + cost
rows_for_text limit s payload count before each (SetText bytes) cost stands costs = each bytes cost stands costs
rows_for_text limit s payload count before each order cost stands costs = absurd stands

pub rows_for_pattern : (limit : ℕ) (s : State) (payload : Payload) (count before : ℕ)
    → ((bytes : List ℕ) (cost : ℕ) → StandsFor pattern_limit payload bytes → Costs limit s (SetPattern bytes) cost → count ≤ before + cost)
    → (order : Order) (cost : ℕ) → Stands limit (PatternCommand payload) order → Costs limit s order cost → count ≤ before + cost
rows_for_pattern limit s payload count before each (SetPattern bytes) cost stands costs = each bytes cost stands costs
rows_for_pattern limit s payload count before each order cost stands costs = absurd stands

pub wholes_for_next : (limit : ℕ) (from : Position) (wholes before : ℕ) → wholes ≤ before + 1
    → (order : Order) → Stands limit (Next from) order → wholes ≤ before + whole_searches order
wholes_for_next limit from wholes before one (FindNext at) stands = one
wholes_for_next limit from wholes before one order stands = absurd stands

-- ---- the chosen buffer in the list of all

-- a session by the list of its buffers, whose chosen one is known
pub record Chosen (items : List LimitedBuffer) (k limit : ℕ) (old : LimitedBuffer) (s : LimitedSession) : Type 0 where
  pub inside : k < length items
  pub is : old ≡ slice_index_or items k old
  pub all : All (λ (b : LimitedBuffer). b.limit ≡ limit) items
  pub seen : record { limit = limit; state = record { buffers = map (λ (b : LimitedBuffer). b.state) items; chosen = k }; changed = map (λ (b : LimitedBuffer). b.changed) items; buffers = items } ≡ s

-- the state of the session's list, with another buffer in place of the chosen one
abbrev pub state_with : List LimitedBuffer → ℕ → LimitedBuffer → State
state_with items k new = record { buffers = map (λ (b : LimitedBuffer). b.state) (slice_set items k new); chosen = k }

-- the chosen buffer has the session's limit
pub Chosen-limit : (items : List LimitedBuffer) (k limit : ℕ) (old : LimitedBuffer) (s : LimitedSession) → Chosen items k limit old s → old.limit ≡ s.limit
Chosen-limit items k limit old s c =
    ap (λ (b : LimitedBuffer). b.limit) c.is ∙ c.all k old c.inside ∙ ap (λ (t : LimitedSession). t.limit) c.seen

found : (items : List LimitedBuffer) (k limit : ℕ) (old : LimitedBuffer) (s : LimitedSession) → Chosen items k limit old s
    → slice_index_or (map (λ (b : LimitedBuffer). b.state) items) k (fresh []) ≡ old.state
found items k limit old s c =
    let state : LimitedBuffer → BufferState = λ b. b.state in get_or-map state items k old (fresh []) c.inside ∙ ap state (sym c.is)

-- and is the one that the session chose
pub Chosen-state : (items : List LimitedBuffer) (k limit : ℕ) (old : LimitedBuffer) (s : LimitedSession) → Chosen items k limit old s → chosen_buffer s.state ≡ old.state
Chosen-state items k limit old s c = sym (ap (λ (t : LimitedSession). chosen_buffer t.state) c.seen) ∙ found items k limit old s c

-- another buffer in its place is then the chosen one
pub Chosen-with : (items : List LimitedBuffer) (k limit : ℕ) (old : LimitedBuffer) (s : LimitedSession) → Chosen items k limit old s
    → (new : BufferState) → chosen_buffer (with_chosen s.state new) ≡ new
Chosen-with items k limit old s c new =
    let state : LimitedBuffer → BufferState = λ b. b.state in
    subst (λ (t : LimitedSession). chosen_buffer (with_chosen t.state new) ≡ new) c.seen
    (get_or-set_same (map state items) k new (fresh []) (omega (arith, c.inside, length-map items state)))

-- a change of it is a change of the session
pub Chosen-set : (items : List LimitedBuffer) (k limit : ℕ) (old new : LimitedBuffer) (s : LimitedSession) (change : BufferState → BufferState)
    → Chosen items k limit old s → new.state ≡ change old.state → state_with items k new ≡ with_chosen s.state (change (chosen_buffer s.state))
Chosen-set items k limit old new s change c set =
    let state : LimitedBuffer → BufferState = λ b. b.state in
    let states = map state items in
    let written : new.state ≡ change (slice_index_or states k (fresh [])) = set ∙ ap change (sym (found items k limit old s c)) in
    let list : map state (slice_set items k new) ≡ slice_set states k (change (slice_index_or states k (fresh []))) =
    map-set state items k new ∙ ap (slice_set states k) written in
    subst (λ (t : LimitedSession). state_with items k new ≡ with_chosen t.state (change (chosen_buffer t.state))) c.seen
    (ap (λ (bs : List BufferState). record { buffers = bs; chosen = k }) list)

-- the same buffer in its place doesn't change the session
pub Chosen-kept : (items : List LimitedBuffer) (k limit : ℕ) (old new : LimitedBuffer) (s : LimitedSession) → Chosen items k limit old s → new ≡ old → state_with items k new ≡ s.state
Chosen-kept items k limit old new s c same =
    let whole : slice_set items k new ≡ items = ap (slice_set items k) (same ∙ c.is) ∙ set-get_or items k old in
    ap (λ (bs : List LimitedBuffer). record { buffers = map (λ (b : LimitedBuffer). b.state) bs; chosen = k }) whole ∙ ap (λ (t : LimitedSession). t.state) c.seen

-- ---- a text

-- the chosen buffer takes a text: a step of the session
pub Step-take_text : (items : List LimitedBuffer) (k limit : ℕ) (old new : LimitedBuffer) (bytes : List ℕ) (s : LimitedSession) → Chosen items k limit old s
    → IsUtf8 bytes → length bytes ≤ old.limit → new.state ≡ with_text old.state (chars bytes) → Step s.limit s.state (SetText bytes) (Ok Done) (state_with items k new)
Step-take_text items k limit old new bytes s c utf8 short set = (
  accepted_text s.limit s.state bytes utf8 (omega (arith, Chosen-limit items k limit old s c)),
  (chars bytes, Encodes-chars bytes utf8, Chosen-set items k limit old new s (λ b. with_text b (chars bytes)) c set),
)

-- a text that is accepted costs the rows of its report
cost_of_text : (limit : ℕ) (s : State) (bytes : List ℕ) (n : ℕ) → Accepts limit s (SetText bytes) → Costs limit s (SetText bytes) n
    → n ≡ rows_of_report (with_chosen s (with_text (chosen_buffer s) (chars bytes)))
cost_of_text limit s bytes n accepts (inl refused) = absurd (accepts refused.0 refused.1)
cost_of_text limit s bytes n accepts (inr costs) = costs.rows ∙ told costs.reply costs.new costs.step.1
  where
    told : (reply : Reply) (new : State) → Does s (SetText bytes) reply new → rows_of_report new ≡ rows_of_report (with_chosen s (with_text (chosen_buffer s) (chars bytes)))
    told Done new h = ap rows_of_report (h.2 ∙ ap (λ t. with_chosen s (with_text (chosen_buffer s) t)) (text_known h.0 bytes h.1))
    told reply new h = absurd h

-- the rows that a text may make are those of the command's cost
pub rows_taken : (items : List LimitedBuffer) (k limit : ℕ) (old : LimitedBuffer) (bytes : List ℕ) (s : LimitedSession) (count before : ℕ) → Chosen items k limit old s
    → IsUtf8 bytes → (old.limit < length bytes → count ≤ before) → count ≤ before + rows_anew old.state (chars bytes)
    → (cost : ℕ) → Costs s.limit s.state (SetText bytes) cost → count ≤ before + cost
rows_taken items k limit old bytes s count before c utf8 long rows cost costs =
    let same = Chosen-limit items k limit old s c in
    elim (cases_lt old.limit (length bytes)) [
      | inl over ↦ omega (arith, long over)
      | inr short ↦
          let accepts = accepted_text s.limit s.state bytes utf8 (omega (arith, same)) in
          let known : cost ≡ rows_anew old.state (chars bytes) =
          cost_of_text s.limit s.state bytes cost accepts costs
          ∙ ap (λ (b : BufferState). rows_anew b (current_text b)) (Chosen-with items k limit old s c (with_text (chosen_buffer s.state) (chars bytes)))
          ∙ ap (λ (b : BufferState). rows_anew b (chars bytes)) (Chosen-state items k limit old s c) in
          omega (arith, known, rows)
    ]

-- ---- a pattern

-- the chosen buffer takes a pattern: a step of the session
pub Step-take_pattern : IsOneOfThree → (items : List LimitedBuffer) (k limit : ℕ) (old new : LimitedBuffer) (bytes : List ℕ) (s : LimitedSession) → Chosen items k limit old s
    → IsUtf8 bytes → length bytes ≤ pattern_limit → IsPattern (chars bytes) → new.state ≡ with_pattern old.state (Some (chars bytes))
    → Step s.limit s.state (SetPattern bytes) (Ok Done) (state_with items k new)
Step-take_pattern apart items k limit old new bytes s c utf8 short is set = (
  accepted_pattern apart s.limit s.state bytes utf8 short is,
  (chars bytes, Encodes-chars bytes utf8, Chosen-set items k limit old new s (λ b. with_pattern b (Some (chars bytes))) c set),
)

-- and why it takes none
pub Step-pattern_err : IsOneOfThree → (bytes : List ℕ) (s : LimitedSession) (fault : Fault) → IsUtf8 bytes → (fault ≡ Limit) ⊎ ((fault ≡ Pattern) ⊎ (fault ≡ Memory))
    → (fault ≡ Limit → (pattern_limit < length bytes) ⊎ IsTooHeavy (chars bytes)) → (fault ≡ Pattern → (length bytes ≤ pattern_limit) × SpellsNone (chars bytes))
    → Step s.limit s.state (SetPattern bytes) (Err fault) s.state
Step-pattern_err apart bytes s fault utf8 (inl e) much none =
    subst (λ f. Step s.limit s.state (SetPattern bytes) (Err f) s.state) (sym e) (refused_limit apart s.limit s.state bytes utf8 (much e), refl)
Step-pattern_err apart bytes s fault utf8 (inr (inl e)) much none =
    let why = none e in
    subst (λ f. Step s.limit s.state (SetPattern bytes) (Err f) s.state) (sym e) (refused_pattern s.limit s.state bytes utf8 why.0 why.1, refl)
Step-pattern_err apart bytes s fault utf8 (inr (inr e)) much none = subst (λ f. Step s.limit s.state (SetPattern bytes) (Err f) s.state) (sym e) (tt, refl)

-- no row is made for what is refused
refused_rows : IsOneOfThree → (limit : ℕ) (s : State) (bytes : List ℕ) (count before : ℕ) → IsUtf8 bytes → ((IsPattern (chars bytes) → ⊥) → count ≤ before)
    → (pattern_limit < length bytes → count ≤ before) → (fault : Fault) → Refuses limit s (SetPattern bytes) fault → count ≤ before
refused_rows apart limit s bytes count before utf8 none long Utf8 h = absurd (h utf8)
refused_rows apart limit s bytes count before utf8 none long Pattern h = none (λ is. apart.some (chars bytes) is h.1)
refused_rows apart limit s bytes count before utf8 none long Limit (inl over) = long over
refused_rows apart limit s bytes count before utf8 none long Limit (inr heavy) = none (λ is. apart.not_heavy (chars bytes) is heavy)
refused_rows apart limit s bytes count before utf8 none long fault h = absurd h

-- a pattern that is accepted costs the rows of its report
cost_of_pattern : (items : List LimitedBuffer) (k limit : ℕ) (old : LimitedBuffer) (bytes : List ℕ) (s : LimitedSession) (n : ℕ) → Chosen items k limit old s
    → CostsAccepted s.limit s.state (SetPattern bytes) n → n ≡ line_count (current_text old.state)
cost_of_pattern items k limit old bytes s n c costs = costs.rows ∙ told costs.reply costs.new costs.step.1
  where
    told : (reply : Reply) (new : State) → Does s.state (SetPattern bytes) reply new → rows_of_report new ≡ line_count (current_text old.state)
    told Done new h =
        ap rows_of_report h.2
        ∙ ap (λ (b : BufferState). rows_anew b (current_text b)) (Chosen-with items k limit old s c (with_pattern (chosen_buffer s.state) (Some h.0)))
        ∙ ap (λ (b : BufferState). line_count (current_text b)) (Chosen-state items k limit old s c)
    told reply new h = absurd h

-- so the rows that a pattern may make are those of the command's cost
pub pattern_rows : IsOneOfThree → (items : List LimitedBuffer) (k limit : ℕ) (old : LimitedBuffer) (bytes : List ℕ) (s : LimitedSession) (count before : ℕ) → Chosen items k limit old s
    → IsUtf8 bytes → ((IsPattern (chars bytes) → ⊥) → count ≤ before) → (pattern_limit < length bytes → count ≤ before)
    → count ≤ before + line_count (current_text old.state) → (cost : ℕ) → Costs s.limit s.state (SetPattern bytes) cost → count ≤ before + cost
pattern_rows apart items k limit old bytes s count before c utf8 none long rows cost (inl refused) =
    omega (arith, refused_rows apart s.limit s.state bytes count before utf8 none long refused.0 refused.1)
pattern_rows apart items k limit old bytes s count before c utf8 none long rows cost (inr costs) =
    omega (arith, rows, cost_of_pattern items k limit old bytes s cost c costs)
