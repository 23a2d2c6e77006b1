-- From a thread at a state's first node a step is made at each offset: epsilon transitions are
-- followed until all nodes were seen.
use Rattle.std.proofs.Common.{inl, inr, ◌≡◌, ◌⊎◌, ℕ, zero, suc, ◌+◌, ◌<◌, ◌≤◌, Bool, true, false, Contains, List, [], ◌∷◌, ◌++◌, map, length, Option, Some, None, slice_get, refl, sym, ap, subst, ◌∙◌, arith}
use Rattle.std.proofs.lemmas.Option.{slice_get_within}
use Rattle.rx_program.specs.declared.states.State.{State}
use Rattle.rx_program.specs.declared.states.State.TheVariants as state
use Rattle.rx_program.specs.Programs.{ByteProgram}
use Rattle.rx_program.specs.Code.{place_of}
use Rattle.rx_utf8.specs.Automata.{step_of}
use Rattle.rx_walks.specs.Looks as walks
use Rattle.rx_walks.specs.Machines.{Machine, Outcome, Move, ends, goes, reads}
use Rattle.rx_walks.specs.Walks.{IsNew}
use Rattle.rx_walks.specs.Programs.{Haystack, only_if}
use Rattle.rx_walks.specs.Bytes.{read_on}
use Rattle.rx_walks.specs.Steps.{Steps, done, passed, met, opened, read}
use Rattle.rx_steps.specs.declared.place.Place.{Place}
use Rattle.rx_steps.specs.Threads.{Slots, Thread, first_node}
use Rattle.rx_steps.specs.Lists.{IsPlace, MakesMoves, is_among, move_at, read_next, slot_machine}
use Rattle.rx_steps.proofs.FollowLaws.{Contains-first, Contains-next, Contains-split, none_yet, seen_or_new}
use Rattle.rx_steps.proofs.PlaceLaws.{moves_at_place}

abbrev Node : Type 0
Node = ℕ × ℕ

abbrev SlotMachine : Type 0
SlotMachine = Machine Node Slots

-- ---- the number of nodes that weren't seen

abbrev count : {A B : Type 0} → A ⊎ B → ℕ → ℕ
count (inl a) n = n
count (inr b) n = suc n

abbrev unseen : List Node → List Node → ℕ
unseen [] seen = 0
unseen (a ∷ all) seen = count (seen_or_new seen a) (unseen all seen)

fewer_there : (seen : List Node) (q a : Node) (d : Contains (q ∷ seen) a ⊎ IsNew (q ∷ seen) a) (d' : Contains seen a ⊎ IsNew seen a) (n n' : ℕ) → n ≤ n' → count d n ≤ count d' n'
fewer_there seen q a (inl c) (inl c') n n' le = le
fewer_there seen q a (inl c) (inr new') n n' le = omega (arith, le)
fewer_there seen q a (inr new) (inl c') n n' le = absurd (new (Contains-next seen q a c'))
fewer_there seen q a (inr new) (inr new') n n' le = omega (arith, le)

fewer : (all seen : List Node) (q : Node) → unseen all (q ∷ seen) ≤ unseen all seen
fewer [] seen q = omega arith
fewer (a ∷ all) seen q = fewer_there seen q a (seen_or_new (q ∷ seen) a) (seen_or_new seen a) (unseen all (q ∷ seen)) (unseen all seen) (fewer all seen q)

found : (seen : List Node) (q a : Node) (d : Contains (q ∷ seen) a ⊎ IsNew (q ∷ seen) a) (d' : Contains seen a ⊎ IsNew seen a) (n n' : ℕ) → IsNew seen q → a ≡ q → n ≤ n' → count d n + 1 ≤ count d' n'
found seen q a (inl c) (inl c') n n' new e le = absurd (new (subst (λ x. Contains seen x) e c'))
found seen q a (inl c) (inr new') n n' new e le = omega (arith, le)
found seen q a (inr unknown) d' n n' new e le = absurd (unknown (subst (λ x. Contains (q ∷ seen) x) (sym e) (Contains-first seen q)))

later : (seen : List Node) (q a : Node) (d : Contains (q ∷ seen) a ⊎ IsNew (q ∷ seen) a) (d' : Contains seen a ⊎ IsNew seen a) (n n' : ℕ) → n + 1 ≤ n' → count d n + 1 ≤ count d' n'
later seen q a (inl c) (inl c') n n' le = le
later seen q a (inl c) (inr new') n n' le = omega (arith, le)
later seen q a (inr new) (inl c') n n' le = absurd (new (Contains-next seen q a c'))
later seen q a (inr new) (inr new') n n' le = omega (arith, le)

one_less : (all seen : List Node) (q : Node) → IsNew seen q → Contains all q → unseen all (q ∷ seen) + 1 ≤ unseen all seen
one_less [] seen q new c = absurd (none_yet q c)
one_less (a ∷ all) seen q new c = elim (Contains-split all a q c) [
  | inl e ↦ found seen q a (seen_or_new (q ∷ seen) a) (seen_or_new seen a) (unseen all (q ∷ seen)) (unseen all seen) new e (fewer all seen q)
  | inr behind ↦ later seen q a (seen_or_new (q ∷ seen) a) (seen_or_new seen a) (unseen all (q ∷ seen)) (unseen all seen) (one_less all seen q new behind)
]

-- ---- a step

-- threads at the first nodes of these states
abbrev at_first : List (Slots × ℕ) → List Thread
at_first threads = map (λ t. (t.0, first_node t.1)) threads

first_threads : (n : Slots) (rs : List ℕ) (threads : List (Slots × ℕ)) → map (λ q. (n, q)) (map first_node rs) ++ at_first threads ≡ at_first (map (λ r. (n, r)) rs ++ threads)
first_threads n [] threads = refl
first_threads n (r ∷ rs) threads = ap (λ xs. (n, first_node r) ∷ xs) (first_threads n rs threads)

-- a machine's moves at an offset stay among these nodes: epsilon transitions lead to first nodes,
-- and reads to the next offset
record MovesAmong (m : SlotMachine) (i : ℕ) (all : List Node) : Type 0 where
  among : (r : ℕ) → Contains all (first_node r) ⊎ (m.move i (first_node r) ≡ goes [])
  to_firsts : (r : ℕ) (rs : List Node) → m.move i (first_node r) ≡ goes rs → (numbers : List ℕ) × (rs ≡ map first_node numbers)
  reads_on : (r j : ℕ) (q : Node) → m.move i (first_node r) ≡ reads q j → j ≡ i + 1

-- a step is made of these threads
abbrev pub IsStep : SlotMachine → ℕ → List Node → List Thread → Type 0
IsStep m i seen threads = (next : List Thread) × (ended : Option (Outcome Slots)) × Steps m i seen threads next ended

by_move : (m : SlotMachine) (i : ℕ) (all seen : List Node) (x : Slots) (r : ℕ) (others : List Thread) (mv : Move Node) → MovesAmong m i all → IsNew seen (first_node r) → m.move i (first_node r) ≡ mv
    → ((rs : List Node) → m.move i (first_node r) ≡ goes rs → IsStep m i (first_node r ∷ seen) (map (λ q. (m.note i (first_node r) x, q)) rs ++ others))
    → ((q : Node) (j : ℕ) → m.move i (first_node r) ≡ reads q j → IsStep m i (first_node r ∷ seen) others)
    → IsStep m i seen ((x, first_node r) ∷ others)
by_move m i all seen x r others (ends p) c new is on rest = ([], Some (record { pattern = p; end = i; notes = x }), met new is)
by_move m i all seen x r others (goes rs) c new is on rest = let (next, ended, steps) = on rs is in (next, ended, opened rs new is steps)
by_move m i all seen x r others (reads q j) c new is on rest =
    let (next, ended, steps) = rest q j is in
    ((x, q) ∷ next, ended, read q new (is ∙ ap (λ k. reads q k) (c.reads_on r j q is)) steps)

no_edge : (rs : List Node) → goes rs ≡ goes [] → rs ≡ []
no_edge rs e = cc e

no_read : (q : Node) (j : ℕ) → reads q j ≡ goes [] → ⊥
no_read q j e = absurd (cc e)

without_edges : (m : SlotMachine) (i : ℕ) (seen : List Node) (n : Slots) (rs : List Node) (others : List Thread) → rs ≡ [] → IsStep m i seen others → IsStep m i seen (map (λ q. (n, q)) rs ++ others)
without_edges m i seen n rs others e step = subst (λ qs. IsStep m i seen (map (λ q. (n, q)) qs ++ others)) (sym e) step

with_edges : (m : SlotMachine) (i : ℕ) (seen : List Node) (n : Slots) (rs : List Node) (threads : List (Slots × ℕ)) → (numbers : List ℕ) × (rs ≡ map first_node numbers)
    → ((numbers : List ℕ) → IsStep m i seen (at_first (map (λ r. (n, r)) numbers ++ threads))) → IsStep m i seen (map (λ q. (n, q)) rs ++ at_first threads)
with_edges m i seen n rs threads (numbers, e) step =
    subst (λ qs. IsStep m i seen (map (λ q. (n, q)) qs ++ at_first threads)) (sym e) (subst (λ ts. IsStep m i seen ts) (sym (first_threads n numbers threads)) (step numbers))

made : (m : SlotMachine) (i : ℕ) (all : List Node) → MovesAmong m i all → (n : ℕ) (seen : List Node) → unseen all seen ≤ n → (threads : List (Slots × ℕ)) → IsStep m i seen (at_first threads)
made m i all c n seen le [] = ([], None, done)
made m i all c zero seen le ((x, r) ∷ threads) = elim (seen_or_new seen (first_node r)) [
  | inl known ↦ let (next, ended, steps) = made m i all c zero seen le threads in (next, ended, passed known steps)
  | inr new ↦ by_move m i all seen x r (at_first threads) (m.move i (first_node r)) c new refl
      (λ rs is. elim (c.among r) [
        | inl among ↦ absurd (omega (arith, le, one_less all seen (first_node r) new among))
        | inr nowhere ↦ without_edges m i (first_node r ∷ seen) (m.note i (first_node r) x) rs (at_first threads) (no_edge rs (sym is ∙ nowhere))
            (made m i all c zero (first_node r ∷ seen) (omega (arith, le, fewer all seen (first_node r))) threads)
      ])
      (λ q j is. elim (c.among r) [
        | inl among ↦ absurd (omega (arith, le, one_less all seen (first_node r) new among))
        | inr nowhere ↦ absurd (no_read q j (sym is ∙ nowhere))
      ])
]
made m i all c (suc n) seen le ((x, r) ∷ threads) = elim (seen_or_new seen (first_node r)) [
  | inl known ↦ let (next, ended, steps) = made m i all c (suc n) seen le threads in (next, ended, passed known steps)
  | inr new ↦ by_move m i all seen x r (at_first threads) (m.move i (first_node r)) c new refl
      (λ rs is. elim (c.among r) [
        | inl among ↦ with_edges m i (first_node r ∷ seen) (m.note i (first_node r) x) rs threads (c.to_firsts r rs is)
            (λ numbers. made m i all c n (first_node r ∷ seen) (omega (arith, le, one_less all seen (first_node r) new among)) (map (λ s. (m.note i (first_node r) x, s)) numbers ++ threads))
        | inr nowhere ↦ without_edges m i (first_node r ∷ seen) (m.note i (first_node r) x) rs (at_first threads) (no_edge rs (sym is ∙ nowhere))
            (made m i all c (suc n) (first_node r ∷ seen) (omega (arith, le, fewer all seen (first_node r))) threads)
      ])
      (λ q j is. made m i all c (suc n) (first_node r ∷ seen) (omega (arith, le, fewer all seen (first_node r))) threads)
]

-- ---- at each offset

abbrev first_nodes : ℕ → List Node
first_nodes zero = []
first_nodes (suc n) = first_node n ∷ first_nodes n

is_first : (n r : ℕ) → r < n → Contains (first_nodes n) (first_node r)
is_first zero r lt = absurd (omega (arith, lt))
is_first (suc n) r lt = elim (below n r lt) [
  | inl e ↦ subst (λ k. Contains (first_nodes (suc n)) (first_node k)) (sym e) (Contains-first (first_nodes n) (first_node n))
  | inr less ↦ Contains-next (first_nodes n) (first_node n) (first_node r) (is_first n r less)
]
  where
    below : (n r : ℕ) → r < suc n → (r ≡ n) ⊎ (r < n)
    below zero zero lt' = inl refl
    below zero (suc r) lt' = absurd (omega (arith, lt'))
    below (suc n) zero lt' = inr (omega arith)
    below (suc n) (suc r) lt' = elim (below n r (omega (arith, lt'))) [ inl e ↦ inl (ap suc e) | inr less ↦ inr (omega (arith, less)) ]

read_goes : (step : ℕ → ℕ → Option (Option ℕ)) (q r s i : ℕ) (o : Option ℕ) (rs : List Node) → read_next step q r s i o ≡ goes rs → rs ≡ []
read_goes step q r s i None rs e = sym (no_edges e)
  where
    no_edges : goes [] ≡ goes rs → [] ≡ rs
    no_edges f = cc f
read_goes step q r s i (Some b) rs e = on (step s b) e
  where
    on : (o : Option (Option ℕ)) → read_on q r i o ≡ goes rs → rs ≡ []
    on None f = sym (no_edges f)
      where
        no_edges : goes [] ≡ goes rs → [] ≡ rs
        no_edges f' = cc f'
    on (Some None) f = absurd (cc f)
    on (Some (Some s')) f = absurd (cc f)

read_reads : (step : ℕ → ℕ → Option (Option ℕ)) (q r s i j : ℕ) (o : Option ℕ) (t : Node) → read_next step q r s i o ≡ reads t j → j ≡ i + 1
read_reads step q r s i j None t e = absurd (cc e)
read_reads step q r s i j (Some b) t e = on (step s b) e
  where
    place_is : (t' : Node) (k : ℕ) → reads t' k ≡ reads t j → k ≡ j
    place_is t' k f = cc f

    on : (o : Option (Option ℕ)) → read_on q r i o ≡ reads t j → j ≡ i + 1
    on None f = absurd (cc f)
    on (Some None) f = sym (place_is (r, 0) (i + 1) f)
    on (Some (Some s')) f = sym (place_is (q, s') (i + 1) f)

goes_is : (qs rs : List Node) → goes qs ≡ goes rs → rs ≡ qs
goes_is qs rs e = sym (cc e)

to_firsts_at : (place : Place) (i r : ℕ) (x : State) (rs : List Node) → move_at place i (first_node r) x ≡ goes rs → (numbers : List ℕ) × (rs ≡ map first_node numbers)
to_firsts_at place i r (state.Ranges automaton t) rs e = ([], read_goes (step_of automaton.value) r t 0 i place.byte rs e)
to_firsts_at place i r (state.Look asked t) rs e = on (is_among place.looks (place_of asked)) e
  where
    on : (b : Bool) → only_if b (goes (first_node t ∷ [])) ≡ goes rs → (numbers : List ℕ) × (rs ≡ map first_node numbers)
    on true f = (t ∷ [], goes_is (first_node t ∷ []) rs f)
    on false f = ([], goes_is [] rs f)
to_firsts_at place i r (state.Empty t) rs e = (t ∷ [], goes_is (first_node t ∷ []) rs e)
to_firsts_at place i r (state.BinaryUnion first second) rs e = (first ∷ second ∷ [], goes_is (first_node first ∷ first_node second ∷ []) rs e)
to_firsts_at place i r (state.Union alternates) rs e = (alternates.items, goes_is (map first_node alternates.items) rs e)
to_firsts_at place i r (state.Capture slot t) rs e = (t ∷ [], goes_is (first_node t ∷ []) rs e)
to_firsts_at place i r (state.Match k) rs e = absurd (cc e)

reads_on_at : (place : Place) (i r j : ℕ) (x : State) (q : Node) → move_at place i (first_node r) x ≡ reads q j → j ≡ i + 1
reads_on_at place i r j (state.Ranges automaton t) q e = read_reads (step_of automaton.value) r t 0 i j place.byte q e
reads_on_at place i r j (state.Look asked t) q e = on (is_among place.looks (place_of asked)) e
  where
    on : (b : Bool) → only_if b (goes (first_node t ∷ [])) ≡ reads q j → j ≡ i + 1
    on true f = absurd (cc f)
    on false f = absurd (cc f)
reads_on_at place i r j (state.Empty t) q e = absurd (cc e)
reads_on_at place i r j (state.BinaryUnion first second) q e = absurd (cc e)
reads_on_at place i r j (state.Union alternates) q e = absurd (cc e)
reads_on_at place i r j (state.Capture slot t) q e = absurd (cc e)
reads_on_at place i r j (state.Match k) q e = absurd (cc e)

moves_among : (p : ByteProgram) (m : SlotMachine) (i : ℕ) (place : Place) → MakesMoves m i p.states place → MovesAmong m i (first_nodes (length p.states))
moves_among p m i place moves = record {
  among = λ r. among_by r (slice_get p.states r) refl;
  to_firsts = λ r rs is. firsts_by r rs is (slice_get p.states r) refl;
  reads_on = λ r j q is. reads_by r j q is (slice_get p.states r) refl;
}
  where
    among_by : (r : ℕ) (o : Option State) → slice_get p.states r ≡ o → Contains (first_nodes (length p.states)) (first_node r) ⊎ (m.move i (first_node r) ≡ goes [])
    among_by r None none = inr (moves.elsewhere (first_node r) none)
    among_by r (Some x) here = inl (is_first (length p.states) r (slice_get_within p.states r x here))

    firsts_by : (r : ℕ) (rs : List Node) → m.move i (first_node r) ≡ goes rs → (o : Option State) → slice_get p.states r ≡ o → (numbers : List ℕ) × (rs ≡ map first_node numbers)
    firsts_by r rs is None none = ([], goes_is [] rs (sym (moves.elsewhere (first_node r) none) ∙ is))
    firsts_by r rs is (Some x) here = to_firsts_at place i r x rs (sym (moves.at_state (first_node r) x here) ∙ is)

    reads_by : (r j : ℕ) (q : Node) → m.move i (first_node r) ≡ reads q j → (o : Option State) → slice_get p.states r ≡ o → j ≡ i + 1
    reads_by r j q is None none = absurd (cc (sym (moves.elsewhere (first_node r) none) ∙ is))
    reads_by r j q is (Some x) here = reads_on_at place i r j x q (sym (moves.at_state (first_node r) x here) ∙ is)

pub step_is_made : (p : ByteProgram) (h : Haystack walks.Look) (i : ℕ) (place : Place) → IsPlace p.states h i place → (slots : Slots) (r : ℕ) → IsStep (slot_machine p h) i [] ((slots, first_node r) ∷ [])
step_is_made p h i place here slots r =
    let m = slot_machine p h in
    let all = first_nodes (length p.states) in
    made m i all (moves_among p m i place (moves_at_place p h i place here)) (unseen all []) [] (omega arith) ((slots, r) ∷ [])
