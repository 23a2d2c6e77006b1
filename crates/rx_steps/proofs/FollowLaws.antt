-- Following a node, whatever its move.
use Rattle.std.proofs.Common.{◌≡◌, ℕ, zero, suc, ◌+◌, ◌-◌, ◌*◌, ◌≤◌, ◌⊎◌, Bool, true, false, Result, Ok, Err, IfOk, OnOk, List, [], ◌∷◌, ◌++◌, length, map, max, Option, Some, None, Contains, slice_get, refl, sym, ap, ap₂, subst, ◌∙◌, arith, inl, inr}
use Rattle.std.proofs.lemmas.List.{append_assoc, append-nil, length-append, get_or_past}
use Rattle.std.proofs.lemmas.List.Elements.{Contains-append_left, Contains-push_cases, Contains-append_right}
use Rattle.rx_program.specs.declared.states.State.{State}
use Rattle.rx_program.specs.declared.states.State.TheVariants as state
use Rattle.rx_program.specs.Programs.{ByteProgram}
use Rattle.rx_program.specs.Code.{place_of}
use Rattle.rx_utf8.specs.Automata.{step_of}
use Rattle.rx_walks.specs.Machines.{Machine, Outcome, Move, ends, goes, reads}
use Rattle.rx_walks.specs.Walks.{IsNew}
use Rattle.rx_walks.specs.Programs.{only_if}
use Rattle.rx_walks.specs.Bytes.{read_on}
use Rattle.rx_walks.specs.Steps.{Steps, passed, met, opened, read}
use Rattle.rx_steps.specs.declared.place.Place.{Place}
use Rattle.rx_steps.specs.Nodes.{width_of, widths_of, index_from, MayStand, IsNodeIn, IsInserted}
use Rattle.rx_steps.specs.Threads.{Slots, Thread, Waiting, first_node}
use Rattle.rx_steps.specs.Lists.{move_at, noted_at, read_next, is_among, IsMade, MakesMoves, Tells, AreUnderWay, AreFollowed, fan_of, widest_fan}
use Rattle.rx_steps.proofs.IndexLaws.{one_index, behind, same_number}

abbrev SlotMachine : Type 0
SlotMachine = Machine (ℕ × ℕ) Slots

pub Contains-first : (xs : List (ℕ × ℕ)) (x : ℕ × ℕ) → Contains (x ∷ xs) x
Contains-first xs x = (0, omega arith, refl)

pub Contains-next : (xs : List (ℕ × ℕ)) (y x : ℕ × ℕ) → Contains xs x → Contains (y ∷ xs) x
Contains-next xs y x (k, within, is) = (suc k, omega (arith, within), is)

pub Contains-split : (xs : List (ℕ × ℕ)) (y x : ℕ × ℕ) → Contains (y ∷ xs) x → (y ≡ x) ⊎ Contains xs x
Contains-split xs y x (zero, within, is) = inl is
Contains-split xs y x (suc k, within, is) = inr (k, omega (arith, within), is)

pub none_yet : (x : ℕ × ℕ) → Contains [] x → ⊥
none_yet x (k, within, is) = absurd (omega (arith, within))

-- ---- whether a node was seen is known

same_node : (a b : ℕ × ℕ) → (a ≡ b) ⊎ (a ≡ b → ⊥)
same_node (a, s) (b, t) = elim (same_number a b) [
  | inl e ↦ elim (same_number s t) [ inl f ↦ inl (ap₂ (λ x y. (x, y)) e f) | inr n ↦ inr (λ g. n (ap (λ z. z.1) g)) ]
  | inr n ↦ inr (λ g. n (ap (λ z. z.0) g))
]

pub seen_or_new : (seen : List (ℕ × ℕ)) (q : ℕ × ℕ) → Contains seen q ⊎ IsNew seen q
seen_or_new [] q = inr (none_yet q)
seen_or_new (x ∷ seen) q = elim (same_node x q) [
  | inl e ↦ inl (subst (λ y. Contains (x ∷ seen) y) e (Contains-first seen x))
  | inr n ↦ elim (seen_or_new seen q) [
    | inl c ↦ inl (Contains-next seen x q c)
    | inr new ↦ inr (λ c. elim (Contains-split seen x q c) [ inl e ↦ n e | inr c' ↦ new c' ])
  ]
]

-- ---- the set of indices

same_index : {a b : ℕ} → Some a ≡ Some b → a ≡ b
same_index e = cc e

pub tells_more : (widths ids : List ℕ) (seen : List (ℕ × ℕ)) (q : ℕ × ℕ) (k : ℕ) → index_from 0 widths q.0 q.1 ≡ Some k → Tells widths ids seen → Tells widths (ids ++ k ∷ []) (q ∷ seen)
tells_more widths ids seen q k at tells q' k' at' = (
  (λ c. elim (Contains-split seen q q' c) [
    | inl e ↦ subst (λ x. Contains (ids ++ k ∷ []) x) (same_index (sym at ∙ ap (λ z. index_from 0 widths z.0 z.1) e ∙ at')) (Contains-append_right ids (k ∷ []) k (0, omega arith, refl))
    | inr c' ↦ Contains-append_left ids (k ∷ []) k' ((tells q' k' at').0 c')
  ]),
  (λ c. elim (Contains-push_cases ids k k' c) [
    | inl c' ↦ Contains-next seen q q' ((tells q' k' at').1 c')
    | inr e ↦ let h = one_index 0 widths q.0 q.1 q'.0 q'.1 k' (at ∙ ap (λ x. Some x) e) at' in
        subst (λ x. Contains (q ∷ seen) x) (ap₂ (λ x y. (x, y)) h.0 h.1) (Contains-first seen q)
  ]),
)

pub tells_outside : (widths ids : List ℕ) (seen : List (ℕ × ℕ)) (q : ℕ × ℕ) → index_from 0 widths q.0 q.1 ≡ None → Tells widths ids seen → Tells widths ids (q ∷ seen)
tells_outside widths ids seen q at tells q' k' at' = (
  (λ c. elim (Contains-split seen q q' c) [
    | inl e ↦ absurd (cc (sym at ∙ ap (λ z. index_from 0 widths z.0 z.1) e ∙ at'))
    | inr c' ↦ (tells q' k' at').0 c'
  ]),
  (λ c. Contains-next seen q q' ((tells q' k' at').1 c)),
)

-- ---- the moves

abbrev OnlyNext : ℕ → Move (ℕ × ℕ) → Type 0
OnlyNext i (reads r j) = j ≡ i + 1
OnlyNext i _ = Unit {0}

next_read : (q r i : ℕ) (o : Option (Option ℕ)) → OnlyNext i (read_on q r i o)
next_read q r i None = tt
next_read q r i (Some None) = refl
next_read q r i (Some (Some s)) = refl

next_byte : (step : ℕ → ℕ → Option (Option ℕ)) (q r s i : ℕ) (o : Option ℕ) → OnlyNext i (read_next step q r s i o)
next_byte step q r s i None = tt
next_byte step q r s i (Some b) = next_read q r i (step s b)

only_next : (place : Place) (i : ℕ) (q : ℕ × ℕ) (x : State) → OnlyNext i (move_at place i q x)
only_next place i q (state.Ranges automaton r) = next_byte (step_of automaton.value) q.0 r q.1 i place.byte
only_next place i q (state.Look asked r) = elim (is_among place.looks (place_of asked)) as (λ b. OnlyNext i (only_if b (goes (first_node r ∷ [])))) [ true ↦ tt | false ↦ tt ]
only_next place i q (state.Empty r) = tt
only_next place i q (state.BinaryUnion first second) = tt
only_next place i q (state.Union alternates) = tt
only_next place i q (state.Capture slot r) = tt
only_next place i q (state.Match k) = tt

pub behind_reads : (place : Place) (i : ℕ) (q : ℕ × ℕ) (x : State) → width_of x ≤ q.1 → MayStand (Some x) q.1 → move_at place i q x ≡ goes []
behind_reads place i q (state.Ranges automaton r) past may = no_byte place.byte
  where
    no_byte : (o : Option ℕ) → read_next (step_of automaton.value) q.0 r q.1 i o ≡ goes []
    no_byte None = refl
    no_byte (Some b) = rw (get_or_past automaton.value.rows q.1 [] past) refl
behind_reads place i q (state.Look asked r) past may = absurd (omega (arith, past, may))
behind_reads place i q (state.Empty r) past may = absurd (omega (arith, past, may))
behind_reads place i q (state.BinaryUnion first second) past may = absurd (omega (arith, past, may))
behind_reads place i q (state.Union alternates) past may = absurd (omega (arith, past, may))
behind_reads place i q (state.Capture slot r) past may = absurd (omega (arith, past, may))
behind_reads place i q (state.Match k) past may = absurd (omega (arith, past, may))

-- ---- following a thread, whatever walks note

pub thread_seen : {N : Type 0} (m : Machine (ℕ × ℕ) N) (i : ℕ) (threads : List (N × (ℕ × ℕ))) (widths ids : List ℕ) (n : N) (q : ℕ × ℕ) (k : ℕ) (left out : List (N × (ℕ × ℕ))) → index_from 0 widths q.0 q.1 ≡ Some k → Contains ids k
    → AreUnderWay m i threads widths ids ((n, q) ∷ left) out → AreUnderWay m i threads widths ids left out
thread_seen m i threads widths ids n q k left out at c way = record {
  seen = way.seen;
  tells = way.tells;
  so_far = λ next met' steps. way.so_far next met' (passed ((way.tells q k at).1 c) steps);
}

pub thread_nowhere : {N : Type 0} (m : Machine (ℕ × ℕ) N) (i : ℕ) (threads : List (N × (ℕ × ℕ))) (widths ids : List ℕ) (n : N) (q : ℕ × ℕ) (left out : List (N × (ℕ × ℕ))) → index_from 0 widths q.0 q.1 ≡ None → m.move i q ≡ goes []
    → AreUnderWay m i threads widths ids ((n, q) ∷ left) out → AreUnderWay m i threads widths ids left out
thread_nowhere m i threads widths ids n q left out at is way = elim (seen_or_new way.seen q) [
  | inl c ↦ record { seen = way.seen; tells = way.tells; so_far = λ next met' steps. way.so_far next met' (passed c steps) }
  | inr new ↦ record {
    seen = q ∷ way.seen;
    tells = tells_outside widths ids way.seen q at way.tells;
    so_far = λ next met' steps. way.so_far next met' (opened [] new is steps);
  }
]

-- at a node that wasn't seen a match ends, or epsilon transitions lead on, or a byte is read

pub thread_ends : {N : Type 0} (m : Machine (ℕ × ℕ) N) (i : ℕ) (threads : List (N × (ℕ × ℕ))) (widths ids : List ℕ) (n : N) (q : ℕ × ℕ) (k p : ℕ) (left out : List (N × (ℕ × ℕ))) → index_from 0 widths q.0 q.1 ≡ Some k → (Contains ids k → ⊥)
    → m.move i q ≡ ends p → AreUnderWay m i threads widths ids ((n, q) ∷ left) out → Steps m i [] threads out (Some (record { pattern = p; end = i; notes = n }))
thread_ends {N} m i threads widths ids n q k p left out at none is way =
    let new : IsNew way.seen q = λ c. none ((way.tells q k at).0 c) in
    let ending : Option (Outcome N) = Some (record { pattern = p; end = i; notes = n }) in
    subst (λ xs. Steps m i [] threads xs ending) (append-nil out) (way.so_far [] ending (met new is))

pub thread_goes : {N : Type 0} (m : Machine (ℕ × ℕ) N) (i : ℕ) (threads : List (N × (ℕ × ℕ))) (widths ids : List ℕ) (n : N) (q : ℕ × ℕ) (k : ℕ) (rs : List (ℕ × ℕ)) (left out : List (N × (ℕ × ℕ))) → index_from 0 widths q.0 q.1 ≡ Some k
    → (Contains ids k → ⊥) → m.move i q ≡ goes rs → AreUnderWay m i threads widths ids ((n, q) ∷ left) out → AreUnderWay m i threads widths (ids ++ k ∷ []) (map (λ r. (m.note i q n, r)) rs ++ left) out
thread_goes m i threads widths ids n q k rs left out at none is way =
    let new : IsNew way.seen q = λ c. none ((way.tells q k at).0 c) in
    record {
      seen = q ∷ way.seen;
      tells = tells_more widths ids way.seen q k at way.tells;
      so_far = λ on end steps. way.so_far on end (opened rs new is steps);
    }

pub thread_reads : {N : Type 0} (m : Machine (ℕ × ℕ) N) (i : ℕ) (threads : List (N × (ℕ × ℕ))) (widths ids : List ℕ) (n : N) (q r : ℕ × ℕ) (k : ℕ) (left out : List (N × (ℕ × ℕ))) → index_from 0 widths q.0 q.1 ≡ Some k → (Contains ids k → ⊥)
    → m.move i q ≡ reads r (i + 1) → AreUnderWay m i threads widths ids ((n, q) ∷ left) out → AreUnderWay m i threads widths (ids ++ k ∷ []) left (out ++ (n, r) ∷ [])
thread_reads m i threads widths ids n q r k left out at none is way =
    let new : IsNew way.seen q = λ c. none ((way.tells q k at).0 c) in
    record {
      seen = q ∷ way.seen;
      tells = tells_more widths ids way.seen q k at way.tells;
      so_far = λ on end steps. subst (λ xs. Steps m i [] threads xs end) (sym (append_assoc out ((n, r) ∷ []) on)) (way.so_far ((n, r) ∷ on) end (read r new is steps));
    }

-- ---- the cases of the code

follow_new : (m : SlotMachine) (i : ℕ) (threads : List Thread) (widths ids : List ℕ) (q : ℕ × ℕ) (k : ℕ) (move : Move (ℕ × ℕ)) (noted : Slots) (met' : Option ℕ) (w w' : Waiting) (others next next' : List Thread)
    → index_from 0 widths q.0 q.1 ≡ Some k → (Contains ids k → ⊥) → m.move i q ≡ move → m.note i q w.slots ≡ noted → OnlyNext i move → IsMade move noted met' w w' next next'
    → AreUnderWay m i threads widths ids ((w.slots, q) ∷ w.threads ++ others) next → AreFollowed m i threads widths (ids ++ k ∷ []) (w'.threads ++ others) next' w'.slots met'
follow_new m i threads widths ids q k (ends p) noted met' w w' others next next' at none is note only made way =
    rw made.0 (rw made.1 (rw made.2 (thread_ends m i threads widths ids w.slots q k p (w.threads ++ others) next at none is way)))
follow_new m i threads widths ids q k (goes rs) noted met' w w' others next next' at none is note only made way =
    let left : w'.threads ++ others ≡ map (λ r. (m.note i q w.slots, r)) rs ++ (w.threads ++ others) =
    ap (λ xs. xs ++ others) made.1 ∙ append_assoc (map (λ r. (noted, r)) rs) w.threads others ∙ ap (λ n. map (λ r. (n, r)) rs ++ (w.threads ++ others)) (sym note) in
    rw made.0 (rw made.2 (subst (λ xs. AreUnderWay m i threads widths (ids ++ k ∷ []) xs next) (sym left)
    (thread_goes m i threads widths ids w.slots q k rs (w.threads ++ others) next at none is way)))
follow_new m i threads widths ids q k (reads r j) noted met' w w' others next next' at none is note only made way =
    let is_next : m.move i q ≡ reads r (i + 1) = is ∙ ap (λ x. reads r x) only in
    rw made.0 (rw made.1 (rw made.2 (thread_reads m i threads widths ids w.slots q r k (w.threads ++ others) next at none is_next way)))

pub entered_new : (m : SlotMachine) (i : ℕ) (threads : List Thread) (p : ByteProgram) (place : Place) (ids : List ℕ) (q : ℕ × ℕ) (k : ℕ) (x : State) (met' : Option ℕ) (w w' : Waiting) (others next next' : List Thread)
    → MakesMoves m i p.states place → slice_get p.states q.0 ≡ Some x → index_from 0 (widths_of p) q.0 q.1 ≡ Some k → (Contains ids k → ⊥) → IsMade (move_at place i q x) (noted_at place x w.slots) met' w w' next next'
    → AreUnderWay m i threads (widths_of p) ids ((w.slots, q) ∷ w.threads ++ others) next → AreFollowed m i threads (widths_of p) (ids ++ k ∷ []) (w'.threads ++ others) next' w'.slots met'
entered_new m i threads p place ids q k x met' w w' others next next' moves here at none made way =
    follow_new m i threads (widths_of p) ids q k (move_at place i q x) (noted_at place x w.slots) met' w w' others next next' at none (moves.at_state q x here) (moves.notes q x here w.slots) (only_next place i q x) made way

pub no_width : (first : ℕ) (states : List State) (q s : ℕ) → slice_get states q ≡ None → index_from first (map width_of states) q s ≡ None
no_width first [] q s e = refl
no_width first (y ∷ states) zero s e = absurd (cc e)
no_width first (y ∷ states) (suc q) s e = no_width (first + width_of y) states q s e

pub entered_nowhere : (m : SlotMachine) (i : ℕ) (threads : List Thread) (p : ByteProgram) (place : Place) (ids : List ℕ) (n : Slots) (q : ℕ × ℕ) (left out : List Thread)
    → MakesMoves m i p.states place → slice_get p.states q.0 ≡ None → AreUnderWay m i threads (widths_of p) ids ((n, q) ∷ left) out → AreUnderWay m i threads (widths_of p) ids left out
entered_nowhere m i threads p place ids n q left out moves here way =
    thread_nowhere m i threads (widths_of p) ids n q left out (no_width 0 p.states q.0 q.1 here) (moves.elsewhere q here) way

pub entered_behind : (m : SlotMachine) (i : ℕ) (threads : List Thread) (p : ByteProgram) (place : Place) (ids : List ℕ) (n : Slots) (q : ℕ × ℕ) (x : State) (left out : List Thread)
    → MakesMoves m i p.states place → slice_get p.states q.0 ≡ Some x → IsNodeIn p.states q → index_from 0 (widths_of p) q.0 q.1 ≡ None
    → AreUnderWay m i threads (widths_of p) ids ((n, q) ∷ left) out → AreUnderWay m i threads (widths_of p) ids left out
entered_behind m i threads p place ids n q x left out moves here may at way =
    thread_nowhere m i threads (widths_of p) ids n q left out at
    (moves.at_state q x here ∙ behind_reads place i q x (behind 0 p.states q.0 q.1 x here at) (subst (λ o. MayStand o q.1) here may)) way

-- ---- what is left to do

fan_below : (states : List State) (q : ℕ) (x : State) → slice_get states q ≡ Some x → fan_of x ≤ widest_fan states
fan_below [] q x e = absurd (cc e)
fan_below (y ∷ states) zero x e = subst (λ z. fan_of z ≤ max (fan_of y) (widest_fan states)) (the_state e) (omega arith)
  where
    the_state : Some y ≡ Some x → y ≡ x
    the_state g = cc g
fan_below (y ∷ states) (suc q) x e = omega (arith, fan_below states q x e)

one_less : (a b w s s' : ℕ) → a ≡ suc b → s' ≤ s + w → b * (w + 1) + s' ≤ a * (w + 1) + s
one_less a b w s s' e f = rw e (omega (arith, f))

pub entered_less : (p : ByteProgram) (ids ids' : List ℕ) (size size' q k end : ℕ) (x : State) → slice_get p.states q ≡ Some x → ids' ≡ ids ++ k ∷ [] → length ids' ≤ end
    → size' ≤ size + fan_of x → (end - length ids') * (widest_fan p.states + 1) + size' ≤ (end - length ids) * (widest_fan p.states + 1) + size
entered_less p ids ids' size size' q k end x here more room fan =
    let longer : length ids' ≡ length ids + 1 = ap (λ xs. length xs) more ∙ length-append ids (k ∷ []) in
    one_less (end - length ids) (end - length ids') (widest_fan p.states) size size' (omega (arith, longer, room)) (omega (arith, fan, fan_below p.states q x here))

pub skipped : (m : SlotMachine) (i : ℕ) (threads : List Thread) (p : ByteProgram) (place : Place) (ids ids' : List ℕ) (n : Slots) (q : ℕ × ℕ) (x : State) (left out : List Thread) (o : Option ℕ) (is_new : Bool)
    → index_from 0 (widths_of p) q.0 q.1 ≡ o → is_new ≡ false → IsInserted o is_new ids ids' → MakesMoves m i p.states place → slice_get p.states q.0 ≡ Some x → IsNodeIn p.states q
    → AreUnderWay m i threads (widths_of p) ids ((n, q) ∷ left) out → AreUnderWay m i threads (widths_of p) ids' left out
skipped m i threads p place ids ids' n q x left out None is_new at old is moves here may way = rw is.1 (entered_behind m i threads p place ids n q x left out moves here may at way)
skipped m i threads p place ids ids' n q x left out (Some k) true at old is moves here may way = absurd (cc old)
skipped m i threads p place ids ids' n q x left out (Some k) false at old is moves here may way = rw is.1 (thread_seen m i threads (widths_of p) ids n q k left out at is.0 way)

pub if_ok : {A E : Type 0} {P Q : A → Type 0} (r : Result A E) → ((x : A) → P x → Q x) → IfOk r P → IfOk r Q
if_ok (Ok x) f h = f x h
if_ok (Err e) f h = h

pub on_ok : {A E P Q : Type 0} (r : Result A E) → (P → Q) → OnOk r P → OnOk r Q
on_ok (Ok x) f h = f h
on_ok (Err e) f h = h
