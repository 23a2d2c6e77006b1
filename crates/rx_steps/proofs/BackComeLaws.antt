-- How far a backward search has got, from its start to its end.
use Rattle.std.proofs.Common.{inl, inr, ◌≡◌, ℕ, suc, ◌+◌, ◌-◌, ◌<◌, ◌≤◌, ◌⊎◌, true, false, cond, IsTrue, List, [], ◌∷◌, map, length, reverse, take, drop, min, Option, Some, None, option_map, slice_get, All, refl, sym, ap, ap₂, subst, ◌∙◌, arith}
use Rattle.std.proofs.lemmas.Bool.{le-ltb, lt-ltb}
use Rattle.std.proofs.lemmas.List.{get_or-reverse, length-reverse}
use Rattle.std.proofs.lemmas.List.Elements.{All-cons, All-nil}
use Rattle.std.proofs.lemmas.Option.{slice_get-get_or}
use Rattle.rx_util.specs.Search.{HalfFound}
use Rattle.rx_walks.specs.Backward.{end_in_content, mirrored_search}
use Rattle.rx_walks.specs.Finds.{Search, PatternMatch, IsInside}
use Rattle.rx_walks.specs.Laws.{MayBegin}
use Rattle.rx_walks.specs.Looks as walks
use Rattle.rx_walks.specs.Machines.{Machine, reads}
use Rattle.rx_walks.specs.ProgramFinds.{lowest, highest}
use Rattle.rx_walks.specs.Programs.{Notes, is_within}
use Rattle.rx_walks.specs.Reversed.{mirrored}
use Rattle.rx_walks.specs.StepsAll.{StepsAll, done, passed, met, opened, read, Latest, none_met, some_met, SearchesAll, over, started, stepped}
use Rattle.rx_program.specs.declared.states.State.{State}
use Rattle.rx_program.specs.declared.states.State.TheVariants as state
use Rattle.rx_program.specs.Programs.{ByteProgram, automata_of, character_program}
use Rattle.rx_steps.specs.declared.place.Place.{Place}
use Rattle.rx_steps.specs.Nodes.{IsNodeIn, MayStand}
use Rattle.rx_steps.specs.Threads.{Thread, IsThreadOf}
use Rattle.rx_steps.specs.ListsAll.{Started, IsBestMet, IsStepAll, MovesSo, end_met_by, nodes_of, started_at}
use Rattle.rx_steps.specs.Lists.{Asks, IsPlace, is_among, move_at}
use Rattle.rx_steps.specs.Searching.{haystack_in}
use Rattle.rx_steps.specs.ComingBack.{HasComeBack, HasSteppedBack, IsOverBack, back_machine_in, byte_taken_back, mirror_match, mirror_of}
use Rattle.rx_steps.proofs.AllFollowLaws.{all_moves}
use Rattle.rx_steps.proofs.ByteLaws.{below_or_not, next_byte_is, no_byte, within_is}
use Rattle.rx_steps.proofs.WayLaws.{none_within, nothing_left}

-- ---- an offset in the reversed haystack

-- a byte of the reversed haystack
turned_byte : (content : List ℕ) (k : ℕ) → k < length content → slice_get (reverse content) k ≡ slice_get content (length content - 1 - k)
turned_byte content k lt =
    slice_get-get_or (reverse content) k 0 (omega (arith, lt, length-reverse content))
    ∙ ap Some (get_or-reverse content k 0 lt)
    ∙ sym (slice_get-get_or content (length content - 1 - k) 0 (omega (arith, lt)))

-- the byte that is read next there
byte_there : (s : Search) (j : ℕ) → IsInside s j → slice_get (drop (mirror_of s j) (take (length s.content - lowest s) (reverse s.content))) 0 ≡ byte_taken_back s j
byte_there s j inside = elim (below_or_not (lowest s) j) [
  | inl lt ↦
      let n = length s.content in
      let low = lowest s in
      let whole : min (n - low) (length (reverse s.content)) ≡ n - low = omega (arith, length-reverse s.content) in
      let place : n - 1 - (n - j) ≡ j - 1 = omega (arith, lt, inside.4) in
      ap (λ k. slice_get (drop (n - j) (take k (reverse s.content))) 0) (sym whole)
      ∙ next_byte_is (reverse s.content) (n - low) (n - j) (omega (arith, lt, inside.4))
      ∙ turned_byte s.content (n - j) (omega (arith, lt, inside.4))
      ∙ ap (λ k. slice_get s.content k) place
      ∙ sym (ap (λ b. cond b (slice_get s.content (j - 1)) None) (lt-ltb low j lt))
  | inr le ↦
      no_byte (reverse s.content) (length s.content - lowest s) (length s.content - j) (omega (arith, le))
      ∙ sym (ap (λ b. cond b (slice_get s.content (j - 1)) None) (le-ltb (lowest s) j le))
]

same_move : (place : Place) (at i : ℕ) (q : ℕ × ℕ) (x : State) → move_at (record place { at = at }) i q x ≡ move_at place i q x
same_move place at i q (state.Ranges automaton r) = refl
same_move place at i q (state.Look asked r) = refl
same_move place at i q (state.Empty r) = refl
same_move place at i q (state.BinaryUnion first second) = refl
same_move place at i q (state.Union alternates) = refl
same_move place at i q (state.Capture slot r) = refl
same_move place at i q (state.Match k) = refl

-- the machine of the reversed haystack makes these moves there
pub moves_back : (p : ByteProgram) (s : Search) (j : ℕ) (place : Place) → IsInside s j → place.byte ≡ byte_taken_back s j → ((l : walks.Look) → Asks p.states l → (haystack_in p.line_terminator s).holds l j ≡ is_among place.looks l)
    → MovesSo (back_machine_in p s) (mirror_of s j) p.states place
moves_back p s j place inside byte looks =
    let h = haystack_in p.line_terminator s in
    let i = mirror_of s j in
    let n = length s.content in
    let back : n - (n - j) ≡ j = omega (arith, inside.4) in
    let there : IsPlace p.states (mirrored h) i (record place { at = i }) = record {
      at = refl;
      inside = within_is (n - highest s) (n - lowest s) i (omega (arith, inside.1, inside.3, inside.4)) (omega (arith, inside.0, inside.2));
      byte = byte_there s j inside ∙ sym byte;
      looks = λ l asks. ap (λ k. h.holds l k) back ∙ looks l asks;
    } in
    let moves = all_moves p (mirrored h) i (record place { at = i }) there in
    record { at_state = λ q x is. moves.at_state q x is ∙ same_move place i i q x; elsewhere = moves.elsewhere }

-- ---- the first offset

abbrev zeros : List ℕ → List ℕ
zeros xs = map (λ b. 0) xs

length_zeros : (xs : List ℕ) → length (zeros xs) ≡ length xs
length_zeros [] = refl
length_zeros (x ∷ xs) = ap suc (length_zeros xs)

not_true : IsTrue false → ⊥
not_true is = let told : false ≡ true = is in absurd (cc told)

begins_back : (s : Search) → MayBegin (mirrored_search s) (mirror_of s s.end)
begins_back s = (((omega arith, omega arith, omega arith, omega arith, omega (arith, length_zeros s.content)), λ on. refl), λ on. absurd (not_true on))

-- no walk starts at a later offset
pub begins_not : (s : Search) (k : ℕ) → mirror_of s s.end < k → MayBegin (mirrored_search s) k → ⊥
begins_not s k lt begins = omega (arith, lt, begins.0.1 refl)

-- a search starts with one walk
pub come_first : (p : ByteProgram) (s : Search) (q : ℕ) → HasComeBack p s q (end_in_content s) ((q, 0) ∷ []) None
come_first p s q = λ next ends after out steps latest rest.
    let here : mirror_of s (end_in_content s) ≡ mirror_of s s.end = omega arith in
    started (begins_back s)
    (subst (λ k. StepsAll (back_machine_in p s) k [] (started_at (mirror_of s s.end) ((q, 0) ∷ [])) next ends) here steps)
    (subst (λ k. Latest k None ends after) here latest)
    (subst (λ k. SearchesAll (back_machine_in p s) (MayBegin (mirrored_search s)) (q, 0) (k + 1) next after out) here rest)

-- ---- one offset

-- the best match after the least pattern at an offset
abbrev pub best_back : ℕ → Option ℕ → Option HalfFound → Option HalfFound
best_back j None best = best
best_back j (Some k) best = Some (record { pattern = k; offset = j })

latest_back : (s : Search) (j : ℕ) (ends : List (ℕ × ℕ)) (met' : Option ℕ) (best : Option HalfFound) → IsBestMet ends (end_met_by (mirror_of s s.end) met')
    → Latest (mirror_of s j) (option_map (mirror_match s) best) ends (option_map (mirror_match s) (best_back j met' best))
latest_back s j ends None best none = none_met none
latest_back s j ends (Some k) best (here, least) = some_met here (λ s' k' there. let no_worse = least s' k' there in (no_worse.by_start, λ is. no_worse.by_pattern (sym is)))

-- the step at an offset, and what follows
abbrev GoesOn : ByteProgram → Search → ℕ → ℕ → List (ℕ × ℕ) → Option HalfFound → Type 0
GoesOn p s q j next best = (out : Option PatternMatch)
    → SearchesAll (back_machine_in p s) (MayBegin (mirrored_search s)) (q, 0) (mirror_of s j + 1) (started_at (mirror_of s s.end) next) (option_map (mirror_match s) best) out
    → SearchesAll (back_machine_in p s) (MayBegin (mirrored_search s)) (q, 0) (mirror_of s s.end) [] None out

goes_on : (p : ByteProgram) (s : Search) (q j : ℕ) (nodes next : List (ℕ × ℕ)) (met' : Option ℕ) (best : Option HalfFound) → IsStepAll (back_machine_in p s) (mirror_of s j) (started_at (mirror_of s s.end) nodes) (started_at (mirror_of s s.end) next) (end_met_by (mirror_of s s.end) met')
    → HasComeBack p s q j nodes best → GoesOn p s q j next (best_back j met' best)
goes_on p s q j nodes next met' best step come = λ out rest.
    come (started_at (mirror_of s s.end) next) step.ends (option_map (mirror_match s) (best_back j met' best)) out step.steps (latest_back s j step.ends met' best step.best) rest

-- the search reaches the offset before
come_back : (p : ByteProgram) (s : Search) (q j : ℕ) (next : List (ℕ × ℕ)) (best : Option HalfFound) → IsInside s (end_in_content s) → IsInside s j → lowest s < j → GoesOn p s q j next best → HasComeBack p s q (j - 1) next best
come_back p s q j next best last inside lt on = λ next' ends after out steps latest rest.
    let place : mirror_of s (j - 1) ≡ mirror_of s j + 1 = omega (arith, lt, inside.4) in
    let past : mirror_of s s.end < mirror_of s (j - 1) = omega (arith, lt, inside.3, inside.4, last.4) in
    on out (subst (λ i. SearchesAll (back_machine_in p s) (MayBegin (mirrored_search s)) (q, 0) i (started_at (mirror_of s s.end) next) (option_map (mirror_match s) best) out) place (stepped (begins_not s (mirror_of s (j - 1)) past) steps latest rest))

-- or it is over, without threads
over_back : (p : ByteProgram) (s : Search) (q j : ℕ) (next : List (ℕ × ℕ)) (best : Option HalfFound) → IsInside s j → next ≡ [] → GoesOn p s q j next best → IsOverBack p s q best
over_back p s q j next best inside none on =
    on (option_map (mirror_match s) best)
    (subst (λ xs. SearchesAll (back_machine_in p s) (MayBegin (mirrored_search s)) (q, 0) (mirror_of s j + 1) (started_at (mirror_of s s.end) xs) (option_map (mirror_match s) best) (option_map (mirror_match s) best)) (sym none)
    (over (λ k from begins. begins_not s k (omega (arith, from, inside.3)) begins)))

none_read : (m : Machine (ℕ × ℕ) Notes) (i : ℕ) {seen : List (ℕ × ℕ)} {threads next : List Started} {ends : List (ℕ × ℕ)} → ((q r : ℕ × ℕ) → m.move i q ≡ reads r (i + 1) → ⊥) → StepsAll m i seen threads next ends → next ≡ []
none_read m i never done = refl
none_read m i never (passed c rest) = none_read m i never rest
none_read m i never (met new is rest) = none_read m i never rest
none_read m i never (opened rs new is rest) = none_read m i never rest
none_read m i never (read {q = q} r new is rest) = absurd (never q r is)

none_started : (start : ℕ) (nodes : List (ℕ × ℕ)) → started_at start nodes ≡ [] → nodes ≡ []
none_started start [] e = refl
none_started start (q ∷ nodes) e = absurd (cc e)

-- at the lowest offset no byte is read, and no thread is left
none_beyond : (p : ByteProgram) (s : Search) (j : ℕ) (nodes next : List (ℕ × ℕ)) (met' : Option ℕ) → j ≤ lowest s → IsStepAll (back_machine_in p s) (mirror_of s j) (started_at (mirror_of s s.end) nodes) (started_at (mirror_of s s.end) next) (end_met_by (mirror_of s s.end) met')
    → next ≡ []
none_beyond p s j nodes next met' le step =
    let h = mirrored (haystack_in p.line_terminator s) in
    let i = mirror_of s j in
    none_started (mirror_of s s.end) next (none_read (back_machine_in p s) i
    (λ q r. none_within (is_within h.low h.high i) (automata_of p) h i (i + 1) q r (slice_get (character_program p).nodes q.0) (nothing_left (reverse s.content) (length s.content - lowest s) i (omega (arith, le)))) step.steps)

-- ---- the loop's invariant

-- a step was made at a place
pub record Stepped (p : ByteProgram) (s : Search) (q j : ℕ) (nodes next : List (ℕ × ℕ)) (met' : Option ℕ) (best after : Option HalfFound) : Type 0 where
  pub last : IsInside s (end_in_content s)
  pub inside : IsInside s j
  pub step : IsStepAll (back_machine_in p s) (mirror_of s j) (started_at (mirror_of s s.end) nodes) (started_at (mirror_of s s.end) next) (end_met_by (mirror_of s s.end) met')
  pub come : HasComeBack p s q j nodes best
  pub best_is : after ≡ best_back j met' best

pub passed_back : (p : ByteProgram) (s : Search) (q j : ℕ) (nodes next : List (ℕ × ℕ)) (met' : Option ℕ) (best after : Option HalfFound) → Stepped p s q j nodes next met' best after → lowest s < j → HasComeBack p s q (j - 1) next after
passed_back p s q j nodes next met' best after on lt =
    subst (λ o. HasComeBack p s q (j - 1) next o) (sym on.best_is) (come_back p s q j next (best_back j met' best) on.last on.inside lt (goes_on p s q j nodes next met' best on.step on.come))

pub ended_back : (p : ByteProgram) (s : Search) (q j : ℕ) (nodes next : List (ℕ × ℕ)) (met' : Option ℕ) (best after : Option HalfFound) → Stepped p s q j nodes next met' best after → (next ≡ []) ⊎ (j ≤ lowest s) → IsOverBack p s q after
ended_back p s q j nodes next met' best after on why =
    let none : next ≡ [] = elim why [ inl gone ↦ gone | inr le ↦ none_beyond p s j nodes next met' le on.step ] in
    subst (λ o. IsOverBack p s q o) (sym on.best_is) (over_back p s q j next (best_back j met' best) on.inside none (goes_on p s q j nodes next met' best on.step on.come))

-- ---- the code's terms

pub went_back : (s : Search) (i j : ℕ) → HasSteppedBack s i j → (j ≡ i → ⊥) → (lowest s < i) × (j + 1 ≡ i)
went_back s i j (inl went) other = went
went_back s i j (inr stayed) other = absurd (other stayed.1)

pub was_first : (s : Search) (i j : ℕ) → HasSteppedBack s i j → j ≡ i → i ≤ lowest s
was_first s i j (inl went) e = absurd (omega (arith, e, went.1))
was_first s i j (inr stayed) e = stayed.0

pub no_nodes : (threads : List Thread) → length threads ≡ 0 → nodes_of threads ≡ []
no_nodes [] e = refl
no_nodes (t ∷ threads) e = absurd (omega (arith, e))

pub found_back : (f : HalfFound) (k i : ℕ) → f.pattern ≡ k → f.offset ≡ i → Some f ≡ Some (record { pattern = k; offset = i })
found_back f k i e g = ap₂ (λ x y. Some (record { pattern = x; offset = y })) e g

first_stays : (states : List State) (q : ℕ) → IsNodeIn states (q, 0)
first_stays states q = by (slice_get states q)
  where
    by : (o : Option State) → MayStand o 0
    by None = refl
    by (Some (state.Ranges automaton r)) = tt
    by (Some (state.Look asked r)) = refl
    by (Some (state.Empty r)) = refl
    by (Some (state.BinaryUnion first second)) = refl
    by (Some (state.Union alternates)) = refl
    by (Some (state.Capture slot r)) = refl
    by (Some (state.Match k)) = refl

pub first_thread : (states : List State) (q : ℕ) (threads : List Thread) → threads ≡ ([], (q, 0)) ∷ [] → All (IsThreadOf states) threads
first_thread states q threads e = subst (All (IsThreadOf states)) (sym e) (All-cons (IsThreadOf states) ([], (q, 0)) [] (first_stays states q) (All-nil (IsThreadOf states)))
