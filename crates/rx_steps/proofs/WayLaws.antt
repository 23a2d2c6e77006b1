-- One offset of a search: the number of slots stays, and no thread is left after the highest
-- offset.
use Rattle.std.proofs.Common.{inl, inr, ◌≡◌, ℕ, ◌+◌, ◌≤◌, ◌<◌, Bool, true, false, All, List, [], ◌∷◌, ◌++◌, length, map, take, drop, Option, Some, None, slice_get, refl, sym, ap, subst, ◌∙◌, arith}
use Rattle.std.proofs.lemmas.List.{length-set, length-take, length-replicate}
use Rattle.std.proofs.lemmas.List.Elements.{All-append, All-cons, All-nil}
use Rattle.std.proofs.Math.ListN.{drop_of_length-le}
use Rattle.rx_walks.specs.Looks as walks
use Rattle.rx_walks.specs.Machines.{Outcome, goes, reads}
use Rattle.rx_walks.specs.Programs.{Node, match, pass, note, look, set, Haystack, only_if, is_within, left_from, note_at}
use Rattle.rx_walks.specs.Bytes.{Automaton, by_byte, read_byte}
use Rattle.rx_walks.specs.Finds.{Search, IsInside}
use Rattle.rx_walks.specs.ProgramFinds.{highest}
use Rattle.rx_walks.specs.Steps.{Steps, done, passed, met, opened, read, either}
use Rattle.rx_program.specs.Programs.{ByteProgram, automata_of, character_program}
use Rattle.rx_steps.specs.Threads.{Slots, Thread, ThreadListView, IsThreadOf, no_slots, note_slot}
use Rattle.rx_steps.specs.Lists.{slot_machine, met_at}
use Rattle.rx_steps.specs.Searching.{haystack_in}
use Rattle.rx_steps.specs.Coming.{course_of, HasSlots, machine_in, HasCome, HasStarted, IsUnderWay}
use Rattle.rx_steps.proofs.ComeLaws.{passed_with_start, passed_on, none_read}
use Rattle.rx_steps.proofs.StandLaws.{first_of, rest_of, pattern_after, reached_later, reached_on, started_reached}

-- ---- the number of slots stays

note_len : {L S : Type 0} (i : ℕ) (o : Option (Node L S)) (n : Slots) → length (note_at note_slot i o n) ≡ length n
note_len i None n = refl
note_len i (Some (match k)) n = refl
note_len i (Some (pass rs)) n = refl
note_len i (Some (note slot r)) n = length-set n slot (Some i)
note_len i (Some (look l r)) n = refl
note_len i (Some (set x r)) n = refl

all_noted : (len : ℕ) (n : Slots) (rs : List (ℕ × ℕ)) → length n ≡ len → All (HasSlots len) (map (λ r. (n, r)) rs)
all_noted len n [] e = All-nil (HasSlots len)
all_noted len n (r ∷ rs) e = All-cons (HasSlots len) (n, r) (map (λ r. (n, r)) rs) e (all_noted len n rs e)

-- a match end has `len` slots
abbrev EndHas : ℕ → Option (Outcome Slots) → Type 0
EndHas len None = Unit {0}
EndHas len (Some t) = length t.notes ≡ len

slots_stay : (p : ByteProgram) (h : Haystack walks.Look) (i len : ℕ) {seen : List (ℕ × ℕ)} {threads next : List Thread} {ended : Option (Outcome Slots)} → Steps (slot_machine p h) i seen threads next ended
    → All (HasSlots len) threads → All (HasSlots len) next × EndHas len ended
slots_stay p h i len done all = (all, tt)
slots_stay p h i len (passed {n = n} {q = q} {others = others} c rest) all = slots_stay p h i len rest (rest_of (HasSlots len) (n, q) others all)
slots_stay p h i len (met {n = n} {q = q} {others = others} new is) all = (All-nil (HasSlots len), first_of (HasSlots len) (n, q) others all)
slots_stay p h i len (opened {n = n} {q = q} {others = others} rs new is rest) all =
    let noted = note_at note_slot i (slice_get (character_program p).nodes q.0) n in
    let long : length noted ≡ len = note_len i (slice_get (character_program p).nodes q.0) n ∙ first_of (HasSlots len) (n, q) others all in
    slots_stay p h i len rest (All-append (HasSlots len) (map (λ r. (noted, r)) rs) others (all_noted len noted rs long) (rest_of (HasSlots len) (n, q) others all))
slots_stay p h i len (read {n = n} {q = q} {others = others} {next = next} r new is rest) all =
    let on = slots_stay p h i len rest (rest_of (HasSlots len) (n, q) others all) in
    (All-cons (HasSlots len) (n, r) next (first_of (HasSlots len) (n, q) others all) on.0, on.1)

-- ---- no thread is left after the highest offset

only_goes : (b : Bool) (rs : List (ℕ × ℕ)) (r : ℕ × ℕ) (j : ℕ) → only_if b (goes rs) ≡ reads r j → ⊥
only_goes true rs r j e = absurd (cc e)
only_goes false rs r j e = absurd (cc e)

no_read : {L S : Type 0} (step : ℕ → Automaton) (h : Haystack L) (i j : ℕ) (q r : ℕ × ℕ) (o : Option (Node L S)) → left_from h i ≡ [] → by_byte step h i q.0 q.1 o ≡ reads r j → ⊥
no_read step h i j q r None none e = absurd (cc e)
no_read step h i j q r (Some (match k)) none e = absurd (cc e)
no_read step h i j q r (Some (pass rs)) none e = absurd (cc e)
no_read step h i j q r (Some (note slot r')) none e = absurd (cc e)
no_read step h i j q r (Some (look l r')) none e = only_goes (h.holds l i) ((r', 0) ∷ []) r j e
no_read step h i j q r (Some (set x r')) none e = nowhere (sym (ap (λ bytes. read_byte (step q.0) q.0 r' q.1 i bytes) none) ∙ e)
  where
    nowhere : goes [] ≡ reads r j → ⊥
    nowhere g = absurd (cc g)

pub none_within : {L S : Type 0} (b : Bool) (step : ℕ → Automaton) (h : Haystack L) (i j : ℕ) (q r : ℕ × ℕ) (o : Option (Node L S)) → left_from h i ≡ [] → only_if b (by_byte step h i q.0 q.1 o) ≡ reads r j → ⊥
none_within true step h i j q r o none e = no_read step h i j q r o none e
none_within false step h i j q r o none e = absurd (cc e)

pub nothing_left : (content : List ℕ) (high i : ℕ) → high ≤ i → drop i (take high content) ≡ []
nothing_left content high i le =
    let short : length (take high content) ≤ i = omega (arith, le, length-take high content) in
    drop_of_length-le (take high content) short

ends_there : (p : ByteProgram) (s : Search) (i : ℕ) {threads next : List Thread} {ended : Option (Outcome Slots)} → IsInside s i → Steps (machine_in p s) i [] threads next ended → highest s < i + 1 → next ≡ []
ends_there p s i inside steps past =
    let h = haystack_in p.line_terminator s in
    let le : highest s ≤ i = omega (arith, past) in
    none_read (λ q r. none_within (is_within h.low h.high i) (automata_of p) h i (i + 1) q r (slice_get (character_program p).nodes q.0) (nothing_left s.content (highest s) i le)) steps

-- ---- one offset

-- the slots of the last match end
abbrev pub slots_after : Option ℕ → Slots → Slots → Slots
slots_after None noted slots = slots
slots_after (Some k) noted slots = noted

no_end : (end : ℕ) (pattern : Option ℕ) (slots : Slots) → pattern ≡ None → met_at end pattern slots ≡ None
no_end end None slots e = refl
no_end end (Some k) slots e = absurd (cc e)

pub no_pattern : (end : ℕ) (pattern : Option ℕ) (slots : Slots) → met_at end pattern slots ≡ None → pattern ≡ None
no_pattern end None slots e = refl
no_pattern end (Some k) slots e = absurd (cc e)

alone : (a : Option (Outcome Slots)) → either a None ≡ a
alone None = refl
alone (Some t) = refl

-- the threads of a step have `len` slots
all_started : (s : Search) (q i len : ℕ) (pattern : Option ℕ) (live : ThreadListView) (threads : List Thread) → live.slot_len ≡ len → HasStarted s q i pattern live threads
    → All (HasSlots len) live.threads → All (HasSlots len) threads
all_started s q i len pattern live threads e (inl begun) all =
    let fresh : All (HasSlots len) ((no_slots live.slot_len, (q, 0)) ∷ []) =
    All-cons (HasSlots len) (no_slots live.slot_len, (q, 0)) [] (length-replicate live.slot_len None ∙ e) (All-nil (HasSlots len)) in
    subst (All (HasSlots len)) (sym begun.2) (All-append (HasSlots len) live.threads ((no_slots live.slot_len, (q, 0)) ∷ []) all fresh)
all_started s q i len pattern live threads e (inr waits) all = subst (All (HasSlots len)) (sym waits.1) all

come_on : (p : ByteProgram) (s : Search) (q i : ℕ) (live : ThreadListView) (threads next : List Thread) (pattern : Option ℕ) (end : ℕ) (slots : Slots) (ended : Option (Outcome Slots))
    → live.slot_len ≡ length slots → HasStarted s q i pattern live threads → Steps (machine_in p s) i [] threads next ended
    → HasCome (machine_in p s) s q (no_slots (length slots)) i live.threads (met_at end pattern slots)
    → HasCome (machine_in p s) s q (no_slots (length slots)) (i + 1) next (either ended (met_at end pattern slots))
come_on p s q i live threads next pattern end slots ended e (inl begun) steps come =
    let m = machine_in p s in
    let fresh = no_slots (length slots) in
    let none : met_at end pattern slots ≡ None = no_end end pattern slots begun.0 in
    let whole : threads ≡ live.threads ++ (fresh, (q, 0)) ∷ [] = begun.2 ∙ ap (λ n. live.threads ++ (no_slots n, (q, 0)) ∷ []) e in
    subst (λ x. HasCome m s q fresh (i + 1) next (either ended x)) (sym none)
    (subst (λ x. HasCome m s q fresh (i + 1) next x) (sym (alone ended))
    (passed_with_start m s q fresh i live.threads next ended begun.1 (subst (λ xs. Steps m i [] xs next ended) whole steps)
    (subst (λ x. HasCome m s q fresh i live.threads x) none come)))
come_on p s q i live threads next pattern end slots ended e (inr waits) steps come =
    let m = machine_in p s in
    passed_on m s q (no_slots (length slots)) i live.threads next (met_at end pattern slots) ended (λ none. waits.0 (no_pattern end pattern slots none))
    (subst (λ xs. Steps m i [] xs next ended) waits.1 steps) come

pub way_passed : (p : ByteProgram) (s : Search) (q i : ℕ) (live : ThreadListView) (threads next : List Thread) (pattern : Option ℕ) (slots : Slots) (k : Option ℕ) (noted : Slots)
    → IsInside s i → live.slot_len ≡ length slots → HasStarted s q i pattern live threads → Steps (machine_in p s) i [] threads next (met_at i k noted) → All (IsThreadOf p.states) next
    → IsUnderWay (course_of p s q) i live.threads pattern slots → IsUnderWay (course_of p s q) (i + 1) next (pattern_after k pattern) (slots_after k noted slots)
way_passed p s q i live threads next pattern slots None noted inside e started steps nodes way =
    let h = haystack_in p.line_terminator s in
    let stay = slots_stay p h i (length slots) steps (all_started s q i (length slots) pattern live threads e started way.slot_lens) in
    record {
      end = way.end;
      come = come_on p s q i live threads next pattern way.end slots None e started steps way.come;
      none_met = way.none_met;
      nodes = nodes;
      slot_lens = stay.0;
      past_end = ends_there p s i inside steps;
      reached = reached_later (machine_in p s) s q i (i + 1) (i + 1) next (omega arith) (reached_on (machine_in p s) s q i i steps (started_reached (machine_in p s) s q i pattern live threads started way.reached));
    }
way_passed p s q i live threads next pattern slots (Some k) noted inside e started steps nodes way =
    let h = haystack_in p.line_terminator s in
    let m = machine_in p s in
    let stay = slots_stay p h i (length slots) steps (all_started s q i (length slots) pattern live threads e started way.slot_lens) in
    let come = come_on p s q i live threads next pattern way.end slots (met_at i (Some k) noted) e started steps way.come in
    record {
      end = i;
      come = subst (λ n. HasCome m s q (no_slots n) (i + 1) next (met_at i (Some k) noted)) (sym stay.1) come;
      none_met = λ none. absurd (cc none);
      nodes = nodes;
      slot_lens = subst (λ n. All (HasSlots n) next) (sym stay.1) stay.0;
      past_end = ends_there p s i inside steps;
      reached = reached_later (machine_in p s) s q i (i + 1) (i + 1) next (omega arith) (reached_on (machine_in p s) s q i i steps (started_reached (machine_in p s) s q i pattern live threads started way.reached));
    }

-- the slots of a match end are as many
pub noted_len : (p : ByteProgram) (s : Search) (q i : ℕ) (live : ThreadListView) (threads next : List Thread) (pattern : Option ℕ) (slots : Slots) (k : ℕ) (noted : Slots)
    → live.slot_len ≡ length slots → HasStarted s q i pattern live threads → Steps (machine_in p s) i [] threads next (met_at i (Some k) noted) → All (HasSlots (length slots)) live.threads → length slots ≡ length noted
noted_len p s q i live threads next pattern slots k noted e started steps all =
    sym (slots_stay p (haystack_in p.line_terminator s) i (length slots) steps (all_started s q i (length slots) pattern live threads e started all)).1
