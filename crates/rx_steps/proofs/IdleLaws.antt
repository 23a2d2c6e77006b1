-- Bytes at which no match begins: which they are, and that they can be skipped.
use Rattle.std.proofs.Common.{inl, inr, ◌≡◌, ◌⊎◌, ℕ, zero, suc, ◌+◌, ◌-◌, ◌<◌, ◌≤◌, Bool, true, false, ◌&&◌, eqb, IsTrue, Contains, List, [], ◌∷◌, ◌++◌, map, length, take, drop, min, replicate, get_or, Option, Some, None, slice_get, slice_index, IsSomeAnd, refl, sym, ap, ap₂, subst, ◌∙◌, arith}
use Rattle.std.proofs.lemmas.List.{get_or-take, get_or-drop, length-take, length-drop}
use Rattle.std.proofs.lemmas.List.Elements.{All-nil}
use Rattle.std.proofs.lemmas.Bool.{eqb-true}
use Rattle.std.proofs.lemmas.Option.{slice_get-get_or, slice_get_within, get_or_from_slice_get}
use Rattle.std.specs.Option.{is_some}
use Rattle.std.specs.Str.{IsCharBoundary}
use Rattle.rx_program.specs.declared.states.State.{State}
use Rattle.rx_program.specs.declared.states.State.TheVariants as state
use Rattle.rx_program.specs.Programs.{ByteProgram, character_program}
use Rattle.rx_program.specs.Code.{place_of}
use Rattle.rx_utf8.specs.Automata.{step_of}
use Rattle.rx_walks.specs.Looks as walks
use Rattle.rx_walks.specs.Looks.{start_text, end_text, start_line, end_line, word_boundary, no_word_boundary}
use Rattle.rx_walks.specs.Machines.{Machine, Outcome, goes}
use Rattle.rx_walks.specs.Programs.{Haystack, is_within, left_from}
use Rattle.rx_walks.specs.Bytes.{read_on}
use Rattle.rx_walks.specs.Finds.{Search, IsInside, IsPossible, Anchoring, unanchored, anchored, anchored_pattern, is_anchored}
use Rattle.rx_walks.specs.ProgramFinds.{start_node, lowest, highest}
use Rattle.rx_walks.specs.Laws.{MayBegin}
use Rattle.rx_walks.specs.Steps.{Steps, done, passed, met, opened, read}
use Rattle.rx_input.specs.Cursors.{CursorState, piece_of}
use Rattle.rx_input.specs.Inputs.{HoldsPlace}
use Rattle.rx_steps.specs.declared.place.Looks.{Looks}
use Rattle.rx_steps.specs.declared.place.Place.{Place}
use Rattle.rx_steps.specs.Threads.{Slots, Thread, IsThreadOf, first_node, no_slots}
use Rattle.rx_steps.specs.Lists.{Asks, is_among, IsPlace, IsNextList, MakesMoves, met_at, move_at, read_next, slot_machine}
use Rattle.rx_steps.specs.Searching.{haystack_in}
use Rattle.rx_steps.specs.Coming.{course_of, machine_in, HasStarted, IsUnderWay}
use Rattle.rx_steps.specs.Idle.{Knows, IsPassed, IsPassedAt, IsIdle, AreIdle}
use Rattle.rx_steps.proofs.PlaceLaws.{moves_at_place}
use Rattle.rx_steps.proofs.MadeLaws.{step_is_made}
use Rattle.rx_steps.proofs.ByteLaws.{below_or_not, within_is, next_byte_is, piece_byte}
use Rattle.rx_steps.proofs.WayLaws.{way_passed}

-- ---- the set

pub none_known : (n b : ℕ) → Knows (replicate n false) b → ⊥
none_known zero b e = absurd (cc e)
none_known (suc n) zero e = absurd (cc e)
none_known (suc n) (suc b) e = none_known n b e

-- one more byte can be skipped
pub one_more_passed : (idle : List Bool) (utf8_empty : Bool) (bytes : List ℕ) (n b : ℕ) → ((k : ℕ) → k < n → IsPassedAt idle utf8_empty bytes k) → slice_get bytes n ≡ Some b → IsPassed idle utf8_empty b
    → (k : ℕ) → k < n + 1 → IsPassedAt idle utf8_empty bytes k
one_more_passed idle utf8_empty bytes n b so_far is one k lt = elim (below_or_not k n) [
  | inl less ↦ so_far k less
  | inr le ↦ (b, ap (λ j. slice_get bytes j) (omega (arith, le, lt)) ∙ is, one)
]

-- none more can, if this byte can't, or after the last one
pub no_more_passed : (idle : List Bool) (utf8_empty : Bool) (bytes : List ℕ) (n b : ℕ) → slice_get bytes n ≡ Some b → (IsPassed idle utf8_empty b → ⊥) → IsPassedAt idle utf8_empty bytes n → ⊥
no_more_passed idle utf8_empty bytes n b is never (c, there, one) =
    let same : c ≡ b = the_byte (sym there ∙ is) in
    never (subst (λ x. IsPassed idle utf8_empty x) same one)
  where
    the_byte : {x y : ℕ} → Some x ≡ Some y → x ≡ y
    the_byte e = cc e

pub none_behind : (idle : List Bool) (utf8_empty : Bool) (bytes : List ℕ) (n : ℕ) → length bytes ≤ n → IsPassedAt idle utf8_empty bytes n → ⊥
none_behind idle utf8_empty bytes n le (b, is, one) = let inside = slice_get_within bytes n b is in absurd (omega (arith, inside, le))

-- what holds of the bytes of a part holds in the whole
passed_in_part : (idle : List Bool) (utf8_empty : Bool) (bytes : List ℕ) (pos few k : ℕ) → IsPassedAt idle utf8_empty (take few (drop pos bytes)) k → IsPassedAt idle utf8_empty bytes (pos + k)
passed_in_part idle utf8_empty bytes pos few k (b, is, one) =
    let part = take few (drop pos bytes) in
    let inside : k < length part = slice_get_within part k b is in
    let lt : k < few = omega (arith, inside, length-take few (drop pos bytes)) in
    let within : pos + k < length bytes = omega (arith, inside, length-take few (drop pos bytes), length-drop pos bytes) in
    let same : get_or part k 0 ≡ get_or bytes (pos + k) 0 = get_or-take few (drop pos bytes) k 0 lt ∙ get_or-drop pos bytes k 0 in
    (b, slice_get-get_or bytes (pos + k) 0 within ∙ ap Some (sym same ∙ get_or_from_slice_get part k b 0 is), one)

-- what holds of a chunk holds in the haystack
pub passed_in_piece : (idle : List Bool) (utf8_empty : Bool) (c : CursorState) (i pos : ℕ) (piece : List ℕ) (few n k : ℕ) → piece ≡ piece_of c → c.start + pos ≡ i → i ≤ k → k < i + n
    → ((j : ℕ) → j < n → IsPassedAt idle utf8_empty (take few (take (length piece - pos) (drop pos piece))) j) → IsPassedAt idle utf8_empty c.content k
passed_in_piece idle utf8_empty c i pos piece few n k is at from to each =
    let j = k - i in
    let here : IsPassedAt idle utf8_empty (take (length piece - pos) (drop pos piece)) j =
    subst (λ x. IsPassedAt idle utf8_empty (take (length piece - pos) (drop pos piece)) x) (omega arith) (passed_in_part idle utf8_empty (take (length piece - pos) (drop pos piece)) 0 few j (each j (omega (arith, from, to)))) in
    let there : IsPassedAt idle utf8_empty piece (pos + j) = passed_in_part idle utf8_empty piece pos (length piece - pos) j here in
    let far : IsPassedAt idle utf8_empty c.content (c.start + (pos + j)) = passed_in_part idle utf8_empty c.content c.start (c.end - c.start) (pos + j) (subst (λ xs. IsPassedAt idle utf8_empty xs (pos + j)) is there) in
    subst (λ x. IsPassedAt idle utf8_empty c.content x) (omega (arith, at, from)) far

first_left : (piece : List ℕ) (pos few b : ℕ) → 0 < few → slice_get piece pos ≡ Some b → slice_get (take few (take (length piece - pos) (drop pos piece))) 0 ≡ Some b
first_left [] pos few b some e = absurd (cc e)
first_left (x ∷ piece) zero zero b some e = absurd (omega (arith, some))
first_left (x ∷ piece) zero (suc few) b some e =
    let all : length (x ∷ piece) - 0 ≡ suc (length piece) = omega arith in
    ap (λ n. slice_get (take (suc few) (take n (x ∷ piece))) 0) all ∙ e
first_left (x ∷ piece) (suc pos) few b some e =
    let less : length (x ∷ piece) - suc pos ≡ length piece - pos = omega arith in
    ap (λ n. slice_get (take few (take n (drop pos piece))) 0) less ∙ first_left piece pos few b some e

-- and it is there
pub some_left : (idle : List Bool) (utf8_empty : Bool) (c : CursorState) (i pos : ℕ) (piece : List ℕ) → piece ≡ piece_of c → c.start + pos ≡ i → HoldsPlace c i → IsPassedAt idle utf8_empty c.content i
    → 0 < length (take (length piece - pos) (drop pos piece))
some_left idle utf8_empty c i pos piece is at holds (b, here, one) =
    let inside = slice_get_within piece pos b (ap (λ xs. slice_get xs pos) is ∙ piece_byte c i pos holds at ∙ here) in
    omega (arith, inside, length-take (length piece - pos) (drop pos piece), length-drop pos piece)

-- a byte of the haystack that can be skipped is the first one left in the chunk
pub passed_first : (idle : List Bool) (utf8_empty : Bool) (c : CursorState) (i pos : ℕ) (piece : List ℕ) (few : ℕ) → piece ≡ piece_of c → c.start + pos ≡ i → HoldsPlace c i → 0 < few → IsPassedAt idle utf8_empty c.content i
    → IsPassedAt idle utf8_empty (take few (take (length piece - pos) (drop pos piece))) 0
passed_first idle utf8_empty c i pos piece few is at holds some (b, here, one) =
    (b, first_left piece pos few b some (ap (λ xs. slice_get xs pos) is ∙ piece_byte c i pos holds at ∙ here), one)

pub passed_joined : (idle : List Bool) (utf8_empty : Bool) (content : List ℕ) (first i j : ℕ) → ((k : ℕ) → first ≤ k → k < i → IsPassedAt idle utf8_empty content k)
    → ((k : ℕ) → i ≤ k → k < j → IsPassedAt idle utf8_empty content k) → (k : ℕ) → first ≤ k → k < j → IsPassedAt idle utf8_empty content k
passed_joined idle utf8_empty content first i j before behind k from to = elim (below_or_not k i) [ inl less ↦ before k from less | inr le ↦ behind k le to ]

-- ---- which bytes are found

same_node : (a b : ℕ × ℕ) → (eqb a.0 b.0 && eqb a.1 b.1) ≡ true → a ≡ b
same_node a b e = ap₂ (λ x y. (x, y)) (eqb-true a.0 b.0 (first_of (eqb a.0 b.0) (eqb a.1 b.1) e)) (eqb-true a.1 b.1 (second_of (eqb a.0 b.0) (eqb a.1 b.1) e))
  where
    first_of : (x y : Bool) → (x && y) ≡ true → x ≡ true
    first_of true y f = refl
    first_of false y f = absurd (cc f)

    second_of : (x y : Bool) → (x && y) ≡ true → y ≡ true
    second_of true y f = f
    second_of false y f = absurd (cc f)

-- one thread, at this node
pub alone : (threads : List Thread) (a b : ℕ × ℕ) (is_same : Bool) → length threads ≡ 1 → IsSomeAnd (slice_get threads 0) (λ t. a ≡ t.1) → is_same ≡ (eqb a.0 b.0 && eqb a.1 b.1) → is_same ≡ true
    → (slots : Slots) × (threads ≡ (slots, b) ∷ [])
alone [] a b is_same len node told is = absurd (omega (arith, len))
alone ((slots, q) ∷ []) a b is_same len node told is =
    let here : q ≡ b = sym node ∙ same_node a b (sym told ∙ is) in
    (slots, ap (λ r. (slots, r) ∷ []) here)
alone (x ∷ y ∷ threads) a b is_same len node told is = absurd (omega (arith, len))

pub no_threads : (threads : List Thread) → length threads ≡ 0 → threads ≡ []
no_threads [] e = refl
no_threads (x ∷ threads) e = absurd (omega (arith, e))

pub no_value : (o : Option ℕ) → is_some o ≡ false → o ≡ None
no_value None e = refl
no_value (Some k) e = absurd (cc e)

abbrev nodes_of : List Thread → List (ℕ × ℕ)
nodes_of threads = map (λ t. t.1) threads

-- threads at the same nodes, whatever their slots, step to threads at the same nodes
same_on : (rs : List (ℕ × ℕ)) (n n' : Slots) (threads threads' : List Thread) → nodes_of threads' ≡ nodes_of threads
    → nodes_of (map (λ r. (n', r)) rs ++ threads') ≡ nodes_of (map (λ r. (n, r)) rs ++ threads)
same_on [] n n' threads threads' e = e
same_on (r ∷ rs) n n' threads threads' e = ap (λ xs. r ∷ xs) (same_on rs n n' threads threads' e)

abbrev SlotMachine : Type 0
SlotMachine = Machine (ℕ × ℕ) Slots

-- a node that goes on without a read does so in both
abbrev GoesAlike : SlotMachine → ℕ → SlotMachine → ℕ → Type 0
GoesAlike m i m' i' = (q : ℕ × ℕ) (rs : List (ℕ × ℕ)) → m.move i q ≡ goes rs → m'.move i' q ≡ goes rs

head_is : (a b : ℕ × ℕ) (xs ys : List (ℕ × ℕ)) → a ∷ xs ≡ b ∷ ys → a ≡ b
head_is a b xs ys e = cc e

tail_is : (a b : ℕ × ℕ) (xs ys : List (ℕ × ℕ)) → a ∷ xs ≡ b ∷ ys → xs ≡ ys
tail_is a b xs ys e = cc e

-- therefore a step that leads nowhere does so in every machine with these moves
nothing_alike : (m : SlotMachine) (i : ℕ) (m' : SlotMachine) (i' : ℕ) → GoesAlike m i m' i' → {seen : List (ℕ × ℕ)} {threads next : List Thread} {ended : Option (Outcome Slots)}
    → Steps m i seen threads next ended → next ≡ [] → ended ≡ None → (threads' : List Thread) → nodes_of threads' ≡ nodes_of threads → Steps m' i' seen threads' [] None
nothing_alike m i m' i' alike done e f [] g = done
nothing_alike m i m' i' alike done e f (t ∷ threads') g = absurd (cc g)
nothing_alike m i m' i' alike (passed c rest) e f [] g = absurd (cc g)
nothing_alike m i m' i' alike {seen = seen} (passed {q = q} {others = others} c rest) e f ((n', q') ∷ threads') g =
    let here : q' ≡ q = head_is q' q (nodes_of threads') (nodes_of others) g in
    passed (subst (Contains seen) (sym here) c) (nothing_alike m i m' i' alike rest e f threads' (tail_is q' q (nodes_of threads') (nodes_of others) g))
nothing_alike m i m' i' alike (met new is) e f threads' g = absurd (cc f)
nothing_alike m i m' i' alike (opened rs new is rest) e f [] g = absurd (cc g)
nothing_alike m i m' i' alike {seen = seen} (opened {n = n} {q = q} {others = others} rs new is rest) e f ((n', q') ∷ threads') g =
    let here : q' ≡ q = head_is q' q (nodes_of threads') (nodes_of others) g in
    let behind = tail_is q' q (nodes_of threads') (nodes_of others) g in
    subst (λ r. Steps m' i' seen ((n', r) ∷ threads') [] None) (sym here)
    (opened rs new (alike q rs is) (nothing_alike m i m' i' alike rest e f (map (λ r. (m'.note i' q n', r)) rs ++ threads') (same_on rs (m.note i q n) (m'.note i' q n') others threads' behind)))
nothing_alike m i m' i' alike (read r new is rest) e f threads' g = absurd (cc e)

-- without assertions, a program's states make the same moves at two offsets with the same next byte
reads_alike : (step : ℕ → ℕ → Option (Option ℕ)) (q r s i i' : ℕ) (o : Option ℕ) (rs : List (ℕ × ℕ)) → read_next step q r s i o ≡ goes rs → read_next step q r s i' o ≡ goes rs
reads_alike step q r s i i' None rs e = e
reads_alike step q r s i i' (Some b) rs e = on (step s b) e
  where
    on : (o : Option (Option ℕ)) → read_on q r i o ≡ goes rs → read_on q r i' o ≡ goes rs
    on None f = f
    on (Some None) f = absurd (cc f)
    on (Some (Some s')) f = absurd (cc f)

moves_alike : (states : List State) (place place' : Place) (i i' : ℕ) (q : ℕ × ℕ) (x : State) (rs : List (ℕ × ℕ)) → place.byte ≡ place'.byte → ((l : walks.Look) → Asks states l → ⊥) → slice_get states q.0 ≡ Some x
    → move_at place i q x ≡ goes rs → move_at place' i' q x ≡ goes rs
moves_alike states place place' i i' q (state.Ranges automaton r) rs same never is e =
    subst (λ o. read_next (step_of automaton.value) q.0 r q.1 i' o ≡ goes rs) same (reads_alike (step_of automaton.value) q.0 r q.1 i i' place.byte rs e)
moves_alike states place place' i i' q (state.Look asked r) rs same never is e = absurd (never (place_of asked) (record { number = q.0; asked = asked; next = r; stands = is; is = refl }))
moves_alike states place place' i i' q (state.Empty r) rs same never is e = e
moves_alike states place place' i i' q (state.BinaryUnion first second) rs same never is e = e
moves_alike states place place' i i' q (state.Union alternates) rs same never is e = e
moves_alike states place place' i i' q (state.Capture slot r) rs same never is e = e
moves_alike states place place' i i' q (state.Match k) rs same never is e = e

goes_alike : (p : ByteProgram) (m m' : SlotMachine) (i i' : ℕ) (place place' : Place) → place.byte ≡ place'.byte → ((l : walks.Look) → Asks p.states l → ⊥)
    → MakesMoves m i p.states place → MakesMoves m' i' p.states place' → GoesAlike m i m' i'
goes_alike p m m' i i' place place' same never moves moves' q rs is = by_state (slice_get p.states q.0) refl
  where
    by_state : (o : Option State) → slice_get p.states q.0 ≡ o → m'.move i' q ≡ goes rs
    by_state None none = moves'.elsewhere q none ∙ sym (moves.elsewhere q none) ∙ is
    by_state (Some x) here = moves'.at_state q x here ∙ moves_alike p.states place place' i i' q x rs same never here (sym (moves.at_state q x here) ∙ is)

-- the byte at index `n` of `n + 1` copies
pub last_of : (n b : ℕ) → slice_get (drop n (take (suc n) (replicate (suc n) b))) 0 ≡ Some b
last_of zero b = refl
last_of (suc n) b = last_of n b

-- a haystack with this byte at this offset
abbrev pub with_byte : ℕ → ℕ → Haystack walks.Look
with_byte i b = record { content = replicate (suc i) b; low = 0; high = suc i; holds = λ l j. false }

-- if a step leads nowhere, no other step of the same threads leads anywhere
nothing_else : {m : SlotMachine} {i : ℕ} {seen : List (ℕ × ℕ)} {threads next next' : List Thread} {ended ended' : Option (Outcome Slots)} → Steps m i seen threads next ended → next ≡ [] → ended ≡ None
    → Steps m i seen threads next' ended' → (next' ≡ []) × (ended' ≡ None)
nothing_else done e f done = (refl, refl)
nothing_else (passed c rest) e f (passed c' rest') = nothing_else rest e f rest'
nothing_else (passed c rest) e f (met new is) = absurd (new c)
nothing_else (passed c rest) e f (opened rs new is rest') = absurd (new c)
nothing_else (passed c rest) e f (read r new is rest') = absurd (new c)
nothing_else (met new is) e f other = absurd (cc f)
nothing_else (opened rs new is rest) e f (passed c rest') = absurd (new c)
nothing_else (opened rs new is rest) e f (met new' is') = absurd (cc (sym is ∙ is'))
nothing_else {m = m} {i = i} {seen = seen} {next' = next'} {ended' = ended'} (opened {n = n} {q = q} {others = others} rs new is rest) e f (opened rs' new' is' rest') =
    nothing_else rest e f (subst (λ qs. Steps m i (q ∷ seen) (map (λ r. (m.note i q n, r)) qs ++ others) next' ended') (same_edges (sym is' ∙ is)) rest')
  where
    same_edges : goes rs' ≡ goes rs → rs' ≡ rs
    same_edges g = cc g
nothing_else (opened rs new is rest) e f (read r new' is' rest') = absurd (cc (sym is ∙ is'))
nothing_else (read r new is rest) e f other = absurd (cc e)

-- if a step of one thread at the start leads nowhere, its byte is idle
pub is_idle : (p : ByteProgram) (place : Place) (b : ℕ) (threads next : List Thread) (ended : Option ℕ) (noted slots : Slots) → IsNextList p place threads next ended noted
    → threads ≡ (slots, first_node p.start) ∷ [] → next ≡ [] → ended ≡ None → place.byte ≡ Some b → ((l : walks.Look) → Asks p.states l → ⊥) → IsIdle p b
is_idle p place b threads next ended noted slots list are none unmet byte never h i slots' next' ended' inside left steps =
    let h0 = with_byte place.at b in
    let here : IsPlace p.states h0 place.at place = record {
      at = refl;
      inside = within_is 0 (suc place.at) place.at (omega arith) (omega arith);
      byte = last_of place.at b ∙ sym byte;
      looks = λ l asks. absurd (never l asks);
    } in
    let place' : Place = record place { at = i } in
    let there : IsPlace p.states h i place' = record {
      at = refl;
      inside = inside;
      byte = left ∙ sym byte;
      looks = λ l asks. absurd (never l asks);
    } in
    let alike = goes_alike p (slot_machine p h0) (slot_machine p h) place.at i place place' refl never (moves_at_place p h0 place.at place here) (moves_at_place p h i place' there) in
    let nothing = nothing_alike (slot_machine p h0) place.at (slot_machine p h) i alike (list h0 place.at here) none (ap (λ k. met_at place.at k noted) unmet)
    ((slots', first_node p.start) ∷ []) (sym (ap (λ xs. nodes_of xs) are)) in
    let told = nothing_else nothing refl refl steps in
    (ap (λ xs. length xs) told.0, ap (λ o. is_some o) told.1)

-- ---- idle bytes can be skipped

-- whether a match may begin at an offset inside is decidable
begins_or_not : (s : Search) (i : ℕ) → s.anchoring ≡ unanchored → IsInside s i → MayBegin s i ⊎ (MayBegin s i → ⊥)
begins_or_not s i free inside = by_flag s.utf8_empty refl
  where
    possible : IsPossible s i
    possible = (inside, λ tied. absurd (cc (subst (λ a. IsTrue (is_anchored a)) free tied)))

    by_bytes : IsCharBoundary s.content i ⊎ (IsCharBoundary s.content i → ⊥)
    by_bytes = elim (below_or_not i (length s.content)) [
      | inr past ↦ inl (inside.4, λ lt. absurd (omega (arith, lt, past)))
      | inl before ↦ elim (below_or_not (slice_index s.content i) 192) [
        | inr lead ↦ inl (inside.4, λ lt high. lead)
        | inl low ↦ elim (below_or_not (slice_index s.content i) 128) [
          | inl ascii ↦ inl (inside.4, λ lt high. absurd (omega (arith, ascii, high)))
          | inr high ↦ inr (λ cut. let lead = cut.1 before high in absurd (omega (arith, lead, low)))
        ]
      ]
    ]

    by_flag : (b : Bool) → s.utf8_empty ≡ b → MayBegin s i ⊎ (MayBegin s i → ⊥)
    by_flag false e = inl (possible, λ told. absurd (cc (subst (λ x. IsTrue x) e told)))
    by_flag true e = elim by_bytes [
      | inl cut ↦ inl (possible, λ told. cut)
      | inr never ↦ inr (λ begins. never (begins.1 e))
    ]

-- an unanchored search starts at the program's start
pub unanchored_start : (p : ByteProgram) (a : Anchoring) (q : ℕ) → is_anchored a ≡ false → start_node (character_program p) a ≡ Some q → (a ≡ unanchored) × (q ≡ p.start)
unanchored_start p unanchored q free starts = (refl, sym (some_is starts))
  where
    some_is : {x y : ℕ} → Some x ≡ Some y → x ≡ y
    some_is e = cc e
unanchored_start p anchored q free starts = absurd (cc free)
unanchored_start p (anchored_pattern k) q free starts = absurd (cc free)

-- the assertions that hold at an offset
abbrev looks_at : Haystack walks.Look → ℕ → Looks
looks_at h i = record {
  start = h.holds start_text i;
  end = h.holds end_text i;
  start_line = h.holds start_line i;
  end_line = h.holds end_line i;
  word_boundary = h.holds word_boundary i;
  no_word_boundary = h.holds no_word_boundary i;
}

looks_are : (h : Haystack walks.Look) (i : ℕ) (l : walks.Look) → h.holds l i ≡ is_among (looks_at h i) l
looks_are h i start_text = refl
looks_are h i end_text = refl
looks_are h i start_line = refl
looks_are h i end_line = refl
looks_are h i word_boundary = refl
looks_are h i no_word_boundary = refl

-- at an idle byte the step of a new thread leads nowhere
idle_step : (p : ByteProgram) (h : Haystack walks.Look) (i b : ℕ) (slots : Slots) → IsIdle p b → is_within h.low h.high i ≡ true → slice_get (left_from h i) 0 ≡ Some b → Steps (slot_machine p h) i [] ((slots, first_node p.start) ∷ []) [] None
idle_step p h i b slots idle inside left =
    let place : Place = record { at = i; byte = slice_get (left_from h i) 0; looks = looks_at h i } in
    let here : IsPlace p.states h i place = record { at = refl; inside = inside; byte = refl; looks = λ l asks. looks_are h i l } in
    let (next, ended, steps) = step_is_made p h i place here slots p.start in
    let told = idle h i slots next ended inside left steps in
    let none : next ≡ [] = no_threads next told.0 in
    let unmet : ended ≡ None = no_end ended told.1 in
    subst (λ o. Steps (slot_machine p h) i [] ((slots, first_node p.start) ∷ []) [] o) unmet (subst (λ xs. Steps (slot_machine p h) i [] ((slots, first_node p.start) ∷ []) xs ended) none steps)
  where
    no_end : (o : Option (Outcome Slots)) → is_some o ≡ false → o ≡ None
    no_end None e = refl
    no_end (Some t) e = absurd (cc e)

-- the step at an offset that is skipped, with a thread that starts there or without one
pub record SkippedStep (p : ByteProgram) (s : Search) (i : ℕ) (slots : Slots) : Type 0 where
  pub threads : List Thread
  pub started : HasStarted s p.start i None (record { slot_len = length slots; threads = [] }) threads
  pub steps : Steps (machine_in p s) i [] threads [] None

pub skipped_step : (p : ByteProgram) (s : Search) (idle : List Bool) (i : ℕ) (slots : Slots) → s.anchoring ≡ unanchored → IsInside s i → i < highest s → AreIdle p idle → IsPassedAt idle s.utf8_empty s.content i
    → SkippedStep p s i slots
skipped_step p s idle i slots free inside lt are (b, is, one) = elim (begins_or_not s i free inside) [
  | inl begins ↦ record { threads = (fresh, (p.start, 0)) ∷ []; started = inl (refl, begins, refl); steps = steps begins one }
  | inr never ↦ record { threads = []; started = inr (λ none. never, refl); steps = done }
]
  where
    fresh : Slots
    fresh = no_slots (length slots)

    h : Haystack walks.Look
    h = haystack_in p.line_terminator s

    before : i < length s.content
    before = omega (arith, lt)

    steps : MayBegin s i → IsPassed idle s.utf8_empty b → Steps (machine_in p s) i [] ((fresh, (p.start, 0)) ∷ []) [] None
    steps begins (inl known) = idle_step p h i b fresh (are b known) (within_is (lowest s) (highest s) i (omega (arith, inside.0, inside.2)) (omega (arith, lt)))
        (next_byte_is s.content (min s.slice_end s.end) i (omega (arith, lt)) ∙ is)
    steps begins (inr (utf8, high, low)) =
        let cut = begins.1 utf8 in
        let byte : slice_index s.content i ≡ b = get_or_from_slice_get s.content i b 0 is in
        let lead = cut.1 before (omega (arith, byte, high)) in
        absurd (omega (arith, byte, low, lead))

-- one offset
one_skipped : (p : ByteProgram) (s : Search) (idle : List Bool) (i : ℕ) (slots : Slots) → s.anchoring ≡ unanchored → IsInside s i → i < highest s → AreIdle p idle → IsPassedAt idle s.utf8_empty s.content i
    → IsUnderWay (course_of p s p.start) i [] None slots → IsUnderWay (course_of p s p.start) (i + 1) [] None slots
one_skipped p s idle i slots free inside lt are passed_over way =
    let one = skipped_step p s idle i slots free inside lt are passed_over in
    way_passed p s p.start i (record { slot_len = length slots; threads = [] }) one.threads [] None slots None slots inside refl one.started one.steps (All-nil (IsThreadOf p.states)) way

-- several offsets
many_skipped : (p : ByteProgram) (s : Search) (idle : List Bool) (n i : ℕ) (slots : Slots) → s.anchoring ≡ unanchored → AreIdle p idle → lowest s ≤ i → i + n ≤ highest s
    → ((k : ℕ) → i ≤ k → k < i + n → IsPassedAt idle s.utf8_empty s.content k) → IsUnderWay (course_of p s p.start) i [] None slots → IsUnderWay (course_of p s p.start) (i + n) [] None slots
many_skipped p s idle zero i slots free are low high each way = subst (λ j. IsUnderWay (course_of p s p.start) j [] None slots) (omega arith) way
many_skipped p s idle (suc n) i slots free are low high each way =
    let inside : IsInside s i = (omega (arith, low), omega (arith, high), omega (arith, low), omega (arith, high), omega (arith, high)) in
    let on = one_skipped p s idle i slots free inside (omega (arith, high)) are (each i (omega arith) (omega arith)) way in
    let more : i + 1 + n ≡ i + suc n = omega arith in
    subst (λ j. IsUnderWay (course_of p s p.start) j [] None slots) more
    (many_skipped p s idle n (i + 1) slots free are (omega (arith, low)) (omega (arith, high)) (λ k from to. each k (omega (arith, from)) (omega (arith, to))) on)

-- what a search knows of the offsets from `i` to `j`, all of which it skips
abbrev pub AreSkipped : List Bool → Bool → List ℕ → ℕ → ℕ → List Thread → Option ℕ → Type 0
AreSkipped idle utf8_empty content i j live pattern =
    (k : ℕ) → i ≤ k → k < j → (live ≡ []) × (pattern ≡ None) × IsPassedAt idle utf8_empty content k

pub way_skipped : (p : ByteProgram) (s : Search) (q i j : ℕ) (idle : List Bool) (live : List Thread) (pattern : Option ℕ) (slots : Slots) → i ≤ j → lowest s ≤ i → j ≤ highest s → AreIdle p idle
    → (live ≡ [] → pattern ≡ None → (s.anchoring ≡ unanchored) × (q ≡ p.start)) → AreSkipped idle s.utf8_empty s.content i j live pattern → IsUnderWay (course_of p s q) i live pattern slots → IsUnderWay (course_of p s q) j live pattern slots
way_skipped p s q i j idle live pattern slots le low high are free skipped way = elim (below_or_not i j) [
  | inr past ↦ subst (λ k. IsUnderWay (course_of p s q) k live pattern slots) (omega (arith, le, past)) way
  | inl lt ↦
      let none : live ≡ [] = no_thread (skipped i (omega arith) lt) in
      let unmet : pattern ≡ None = no_end (skipped i (omega arith) lt) in
      let tied = free none unmet in
      let at_start : IsUnderWay (course_of p s p.start) i [] None slots =
      subst (λ r. IsUnderWay (course_of p s r) i [] None slots) tied.1 (subst (λ k. IsUnderWay (course_of p s q) i [] k slots) unmet (subst (λ xs. IsUnderWay (course_of p s q) i xs pattern slots) none way)) in
      let so_many : i + (j - i) ≡ j = omega (arith, le) in
      let there : IsUnderWay (course_of p s p.start) j [] None slots = subst (λ k. IsUnderWay (course_of p s p.start) k [] None slots) so_many
      (many_skipped p s idle (j - i) i slots tied.0 are low (omega (arith, le, high)) (λ k from to. is_passed k (skipped k from (omega (arith, to, so_many)))) at_start) in
      subst (λ xs. IsUnderWay (course_of p s q) j xs pattern slots) (sym none) (subst (λ k. IsUnderWay (course_of p s q) j [] k slots) (sym unmet) (subst (λ r. IsUnderWay (course_of p s r) j [] None slots) (sym tied.1) there))
]
  where
    no_thread : {A B C : Type 0} → A × B × C → A
    no_thread (a, b, c) = a

    no_end : {A B C : Type 0} → A × B × C → B
    no_end (a, b, c) = b

    is_passed : (k : ℕ) → (live ≡ []) × (pattern ≡ None) × IsPassedAt idle s.utf8_empty s.content k → IsPassedAt idle s.utf8_empty s.content k
    is_passed k (a, b, c) = c
