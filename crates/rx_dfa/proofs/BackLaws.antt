-- A backward search, offset by offset.
use Rattle.std.proofs.Common.{inl, inr, ◌≡◌, ℕ, suc, ◌+◌, ◌-◌, ◌<◌, ◌≤◌, ◌==◌, Bool, true, false, not, ◌&&◌, cond, List, [], ◌∷◌, ◌++◌, length, take, Option, Some, None, Result, Ok, Err, option_map, slice_get, refl, sym, ap, ap₂, subst, ◌∙◌, arith}
use Rattle.std.specs.Prelude.{IfErr, IfSome, IsTrue}
use Rattle.std.proofs.lemmas.Bool.{le-ltb, lt-ltb}
use Rattle.std.proofs.lemmas.List.{append-nil, length-take}
use Rattle.std.proofs.lemmas.Option.{slice_get_within}
use Rattle.rx_util.specs.Anchoring as modes
use Rattle.rx_util.specs.Search.{HalfFound}
use Rattle.rx_util.specs.declared.search.Anchored.{Anchored}
use Rattle.rx_util.specs.declared.search.Anchored.TheVariants as anchored
use Rattle.rx_util.specs.declared.search.MatchError.{MatchError}
use Rattle.rx_util.specs.declared.search.MatchError.TheVariants.{Memory, Quit, GaveUp, UnsupportedAnchored}
use Rattle.rx_walks.specs.Backward.{end_in_content}
use Rattle.rx_walks.specs.Finds.{Search, IsInside, is_anchored}
use Rattle.rx_walks.specs.Looks as walks
use Rattle.rx_walks.specs.Looks.{start_text, end_text, start_line, end_line, word_boundary, no_word_boundary, is_same}
use Rattle.rx_walks.specs.ProgramFinds.{lowest, before_in, after_in}
use Rattle.rx_walks.specs.Steps.{Thins}
use Rattle.rx_walks.specs.StepsAll.{done, Met, met_first, met_other, none_met, over}
use Rattle.rx_walks.proofs.LookLaws.{one_byte_tells}
use Rattle.rx_program.specs.declared.states.State.{State}
use Rattle.rx_program.specs.Programs.{ByteProgram}
use Rattle.rx_steps.specs.declared.asked.AskedLooks.{AskedLooks}
use Rattle.rx_steps.specs.Lists.{Asks, is_among}
use Rattle.rx_steps.specs.ListsAll.{nodes_of}
use Rattle.rx_steps.specs.Reversed.{IsNextListBack}
use Rattle.rx_steps.specs.Searching.{anchoring_of, haystack_in}
use Rattle.rx_steps.specs.Threads.{Thread}
use Rattle.rx_steps.specs.ComingBack.{HasComeBack, IsOverBack, IsStepBack, back_machine_in, byte_taken_back, mirror_match, mirror_of}
use Rattle.rx_steps.proofs.AlikeBackLaws.{starts_are_met_unread, steps_thinned}
use Rattle.rx_steps.proofs.BackComeLaws.{Stepped, begins_not, best_back, come_first, ended_back, moves_back, passed_back}
use Rattle.rx_dfa.specs.declared.automaton.Automaton.{Automaton}
use Rattle.rx_dfa.specs.declared.behind.Behind.{Behind}
use Rattle.rx_dfa.specs.declared.behind.Behind.TheVariants.{Edge, Byte}
use Rattle.rx_dfa.specs.declared.states.Ahead.{Ahead}
use Rattle.rx_dfa.specs.declared.states.AutomatonState.{AutomatonState}
use Rattle.rx_dfa.specs.declared.states.Starting.{Starting}
use Rattle.rx_dfa.specs.declared.states.Starting.TheVariants.{Never, Once, Always}
use Rattle.rx_dfa.specs.Alphabets.{ahead_at, ahead_in, column_count}
use Rattle.rx_dfa.specs.Automata.{ReadsBack, directed}
use Rattle.rx_dfa.specs.Back.{HasEndedBack, HasReachedBack, IsBehindBack, IsFirstColumn, IsRefusalBackBy, MeetsStart, StandBefore, StandsBack, StartsBack, StopsBack, best_from, nodes_at, place_back, placed_error}
use Rattle.rx_dfa.specs.Behind.{behind_of, ends_line_at, is_end, is_start, is_word_ascii, is_word_at, looks_of, quits, starts_line, was_word}
use Rattle.rx_dfa.specs.Caches.{HasFirst}
use Rattle.rx_dfa.specs.Classes.{byte_of, class_of}
use Rattle.rx_dfa.specs.Directions.{Directed, IsList, looks_by, turned_looks}
use Rattle.rx_dfa.specs.Passing.{HasPassed, Passes, none, more}
use Rattle.rx_dfa.specs.Searching.{AreAskedBy, byte_after, byte_before, met_after}
use Rattle.rx_dfa.specs.States.{IsStep, ahead_of, ahead_of_end, start_at, started, starting_after}
use Rattle.rx_dfa.specs.Tables.{IsLack, IsRefusalAmong}
use Rattle.rx_dfa.proofs.InputLaws.{before_is, get_taken}
use Rattle.rx_dfa.proofs.LookLaws.{asked_any, asked_lines, asked_words, looks_told}
use Rattle.rx_dfa.proofs.LowerLaws.{alike_laws, first_character, last_character}
use Rattle.rx_dfa.proofs.PassLaws.{byte_in_class, quits_alike}
use Rattle.rx_dfa.proofs.SearchLaws.{seen_is}
use Rattle.rx_dfa.proofs.StepLaws.{step_alike}

-- ---- the assertions of a position, with its sides swapped

same_turned : (a b : Bool) → is_same a b ≡ is_same b a
same_turned true true = refl
same_turned true false = refl
same_turned false true = refl
same_turned false false = refl

start_known : (asked : AskedLooks) (terminator : ℕ) (o : Option ℕ) → asked.any ≡ true → is_start (behind_of asked terminator o) ≡ is_end o
start_known asked terminator None any = ap (λ b. is_start (cond b Edge (Byte false false))) any
start_known asked terminator (Some b) any = refl

line_known : (asked : AskedLooks) (terminator : ℕ) (o : Option ℕ) → asked.any ≡ true → asked.lines ≡ true → starts_line (behind_of asked terminator o) ≡ ends_line_at terminator o
line_known asked terminator None any lines = ap (λ b. starts_line (cond b Edge (Byte false false))) any
line_known asked terminator (Some b) any lines = ap (λ w. w && (b == terminator)) lines

word_known : (asked : AskedLooks) (terminator : ℕ) (o : Option ℕ) → asked.any ≡ true → asked.words ≡ true → was_word (behind_of asked terminator o) ≡ is_word_at o
word_known asked terminator None any words = ap (λ b. was_word (cond b Edge (Byte false false))) any
word_known asked terminator (Some b) any words = ap (λ w. w && is_word_ascii b) words

sides_turned : (states : List State) (asked : AskedLooks) (t : ℕ) (l : walks.Look) (o o' : Option ℕ) → AreAskedBy states asked → Asks states l
    → is_among (looks_of t (behind_of asked t o) o') l ≡ is_among (turned_looks (looks_of t (behind_of asked t o') o)) l
sides_turned states asked t start_text o o' are asks = start_known asked t o (asked_any states asked start_text are asks)
sides_turned states asked t end_text o o' are asks = sym (start_known asked t o' (asked_any states asked end_text are asks))
sides_turned states asked t start_line o o' are asks = line_known asked t o (asked_any states asked start_line are asks) (asked_lines states asked start_line are refl asks)
sides_turned states asked t end_line o o' are asks = sym (line_known asked t o' (asked_any states asked end_line are asks) (asked_lines states asked end_line are refl asks))
sides_turned states asked t word_boundary o o' are asks =
    let any = asked_any states asked word_boundary are asks in
    let words = asked_words states asked word_boundary are refl asks in
    ap₂ (λ x y. not (is_same x y)) (word_known asked t o any words) (sym (word_known asked t o' any words)) ∙ ap not (same_turned (is_word_at o) (was_word (behind_of asked t o')))
sides_turned states asked t no_word_boundary o o' are asks =
    let any = asked_any states asked no_word_boundary are asks in
    let words = asked_words states asked no_word_boundary are refl asks in
    ap₂ (λ x y. is_same x y) (word_known asked t o any words) (sym (word_known asked t o' any words)) ∙ same_turned (is_word_at o) (was_word (behind_of asked t o'))

looks_here : (p : ByteProgram) (asked : AskedLooks) (s : Search) (i : ℕ) (x : AutomatonState) → AreAskedBy p.states asked → IsBehindBack p asked s i x → quits asked (byte_before s i) ≡ false
    → (l : walks.Look) → Asks p.states l → (haystack_in p.line_terminator s).holds l i ≡ is_among (turned_looks (looks_of p.line_terminator x.behind (byte_before s i))) l
looks_here p asked s i x are behind told l asks =
    looks_told one_byte_tells first_character last_character p.states asked p.line_terminator l (before_in s i) (after_in s i) are asks told behind.told
    ∙ sides_turned p.states asked p.line_terminator l (byte_before s i) (byte_after s i) are asks
    ∙ ap (λ b. is_among (turned_looks (looks_of p.line_terminator b (byte_before s i))) l) (sym behind.is)

-- ---- one step

-- a step of a reverse program as a backward step
pub as_back : (p : Directed) (asked : AskedLooks) (x y : AutomatonState) (ahead : Ahead) → p.is_back ≡ true → ahead.may_begin ≡ true → (step : IsStep p asked x ahead y)
    → IsNextListBack p.bytes (record { at = 0; byte = ahead.read; looks = turned_looks (looks_of p.bytes.line_terminator x.behind ahead.seen) }) (nodes_at x) (nodes_of step.next) y.ended
as_back p asked x y ahead way may step =
    let list : IsList true p.bytes (record { at = 0; byte = ahead.read; looks = looks_by true (looks_of p.bytes.line_terminator x.behind ahead.seen) }) (x.threads.threads ++ started (start_at x.starting ahead.may_begin)) step.next y.ended step.slots =
    subst (λ b. IsList b p.bytes (record { at = 0; byte = ahead.read; looks = looks_by b (looks_of p.bytes.line_terminator x.behind ahead.seen) }) (x.threads.threads ++ started (start_at x.starting ahead.may_begin)) step.next y.ended step.slots) way step.list in
    subst (λ m. IsNextListBack p.bytes (record { at = 0; byte = ahead.read; looks = turned_looks (looks_of p.bytes.line_terminator x.behind ahead.seen) }) (nodes_of (x.threads.threads ++ started (start_at x.starting m))) (nodes_of step.next) y.ended) may list

-- that step at an offset of a haystack
step_back : (p : ByteProgram) (asked : AskedLooks) (s : Search) (i : ℕ) (x : AutomatonState) (o : Option ℕ) (next : List (ℕ × ℕ)) (met : Option ℕ) → AreAskedBy p.states asked → IsInside s i → IsBehindBack p asked s i x → quits asked (byte_before s i) ≡ false
    → o ≡ byte_taken_back s i → IsNextListBack p (place_back p s i x o) (nodes_at x) next met → IsStepBack p s i (nodes_at x) next met
step_back p asked s i x o next met are inside behind told taken list =
    list (back_machine_in p s) (mirror_of s i) (mirror_of s s.end) (moves_back p s i (place_back p s i x o) inside taken (looks_here p asked s i x are behind told))

come_thin : (p : ByteProgram) (s : Search) (q i : ℕ) (threads thin : List Thread) (best : Option HalfFound) → Thins [] threads thin → HasComeBack p s q i (nodes_of threads) best → HasComeBack p s q i (nodes_of thin) best
come_thin p s q i threads thin best thins come = λ next ends after out steps latest rest. come next ends after out (steps_thinned (mirror_of s s.end) thins steps) latest rest

-- ---- the start

-- a search begins with one walk, at the end
pub begun_back : (a : Automaton) (s : Search) (q i : ℕ) (states : List AutomatonState) (number : ℕ) (o : Option ℕ) {behind : Behind} → i ≡ end_in_content s → HasFirst states (Once q) behind number → o ≡ byte_after s i → behind ≡ behind_of a.alphabet.now.asked (directed a).bytes.line_terminator o
    → quits a.alphabet.now.asked o ≡ false → StandsBack a s q i states number None
begun_back a s q i states number o here first seen side told =
    let p = (directed a).bytes in
    let x = first.state in
    let asked = a.alphabet.now.asked in
    let one : nodes_at x ≡ (q, 0) ∷ [] = ap₂ (λ ts z. nodes_of (ts ++ started (start_at z true))) first.first.threads first.first.starting_is in
    record {
      state = x;
      stands = first.stands;
      reached = record {
        come = subst (λ ns. HasComeBack p s q i ns None) (sym one) (subst (λ k. HasComeBack p s q k ((q, 0) ∷ []) None) (sym here) (come_first p s q));
        starts = subst StartsBack (sym first.first.starting_is) tt;
        inside = tt;
      };
      behind = record {
        is = first.first.behind_is ∙ side ∙ ap (λ z. behind_of asked p.line_terminator z) seen;
        told = subst (λ z. quits asked z ≡ false) seen told;
      };
    }

-- ---- one offset

-- the best match with its offset counted backward is the best match
best_is : (s : Search) (i : ℕ) (ended : Option ℕ) (met : Option HalfFound) → i ≤ s.end → best_from s.end (met_after (s.end - i) ended met) ≡ best_back i ended (best_from s.end met)
best_is s i None met le = refl
best_is s i (Some k) met le =
    let there : s.end - (s.end - i) ≡ i = omega (arith, le) in
    ap (λ j. Some (record { pattern = k; offset = j })) there

starts_after : (z z' : Starting) (ended : Option ℕ) → StartsBack z → z' ≡ starting_after z ended → StartsBack z' × (start_at z' true ≡ None)
starts_after Never z' ended ok e = (subst StartsBack (sym e) tt, ap (λ w. start_at w true) e)
starts_after (Once r) z' ended ok e = (subst StartsBack (sym e) tt, ap (λ w. start_at w true) e)
starts_after (Always r) z' ended ok e = absurd ok

inside_after : (s : Search) (i : ℕ) (ended : Option ℕ) (met : Option HalfFound) → IsInside s i → IfSome met (λ found. IsInside s (s.end - found.offset)) → IfSome (met_after (s.end - i) ended met) (λ found. IsInside s (s.end - found.offset))
inside_after s i None met inside was = was
inside_after s i (Some k) met inside was =
    let there : s.end - (s.end - i) ≡ i = omega (arith, inside.3) in
    subst (λ j. IsInside s j) (sym there) inside

-- a search reaches the offset before
passed_one : (p : Directed) (asked : AskedLooks) (s : Search) (q i b : ℕ) (x y : AutomatonState) (met : Option HalfFound) → p.is_back ≡ true → AreAskedBy p.bytes.states asked → IsInside s (end_in_content s) → IsInside s i → lowest s < i → slice_get s.content (i - 1) ≡ Some b → quits asked (Some b) ≡ false
    → IsStep p asked x (ahead_of false b) y → HasReachedBack p.bytes s q i x met → IsBehindBack p.bytes asked s i x
    → HasReachedBack p.bytes s q (i - 1) y (met_after (s.end - i) y.ended met) × IsBehindBack p.bytes asked s (i - 1) y
passed_one p asked s q i b x y met way are last inside lt byte told step reached behind =
    let best = best_from s.end met in
    let after = best_from s.end (met_after (s.end - i) y.ended met) in
    let before : byte_before s i ≡ Some b = before_is s i b (omega (arith, lt)) byte in
    let taken : Some b ≡ byte_taken_back s i = sym (ap (λ c. cond c (slice_get s.content (i - 1)) None) (lt-ltb (lowest s) i lt) ∙ byte) in
    let told' : quits asked (byte_before s i) ≡ false = ap (λ o. quits asked o) before ∙ told in
    let list : IsNextListBack p.bytes (place_back p.bytes s i x (Some b)) (nodes_at x) (nodes_of step.next) y.ended =
    subst (λ o. IsNextListBack p.bytes (record { at = 0; byte = Some b; looks = turned_looks (looks_of p.bytes.line_terminator x.behind o) }) (nodes_at x) (nodes_of step.next) y.ended) (sym before) (as_back p asked x y (ahead_of false b) way refl step) in
    let on : Stepped p.bytes s q i (nodes_at x) (nodes_of step.next) y.ended best after = record {
      last = last;
      inside = inside;
      step = step_back p.bytes asked s i x (Some b) (nodes_of step.next) y.ended are inside behind told' taken list;
      come = reached.come;
      best_is = best_is s i y.ended met inside.3;
    } in
    let come = passed_back p.bytes s q i (nodes_at x) (nodes_of step.next) y.ended best after on lt in
    let thin : HasComeBack p.bytes s q (i - 1) (nodes_of y.threads.threads) after = come_thin p.bytes s q (i - 1) step.next y.threads.threads after step.thins come in
    let never = starts_after x.starting y.starting y.ended reached.starts step.starting in
    let seen : byte_after s (i - 1) ≡ Some b = seen_is s (i - 1) (omega (arith, lt, inside.1)) ∙ byte in (
      record {
        come = subst (λ o. HasComeBack p.bytes s q (i - 1) (nodes_of (y.threads.threads ++ started o)) after) (sym never.1) (subst (λ ts. HasComeBack p.bytes s q (i - 1) (nodes_of ts) after) (sym (append-nil y.threads.threads)) thin);
        starts = never.0;
        inside = inside_after s i y.ended met inside reached.inside;
      },
      record { is = step.behind ∙ ap (λ o. behind_of asked p.bytes.line_terminator o) (sym seen); told = ap (λ o. quits asked o) seen ∙ told },
    )

rest_before : (s : Search) (i b : ℕ) (bytes : List ℕ) → StandBefore s i (b ∷ bytes) → StandBefore s (i - 1) bytes
rest_before s i b bytes there = record {
  are = λ k c e. let far : i - 1 - suc k ≡ i - 1 - 1 - k = omega arith in subst (λ j. slice_get s.content j ≡ Some c) far (there.are (suc k) c e);
  low = omega (arith, there.low);
}

-- a search in a state reaches, before these bytes, the state to which they lead
bytes_passed_back : (a : Automaton) (s : Search) (q : ℕ) (bytes : List ℕ) (i d : ℕ) (x y : AutomatonState) (met met' : Option HalfFound) → ReadsBack a → IsInside s (end_in_content s) → IsInside s i → StandBefore s i bytes → d ≡ s.end - i
    → Passes a bytes d x met y met' → HasReachedBack (directed a).bytes s q i x met → IsBehindBack (directed a).bytes a.alphabet.now.asked s i x
    → HasReachedBack (directed a).bytes s q (i - length bytes) y met' × IsBehindBack (directed a).bytes a.alphabet.now.asked s (i - length bytes) y
bytes_passed_back a s q [] i d x y met met' back last inside there e none reached behind =
    let here : i ≡ i - 0 = omega arith in
    (subst (λ j. HasReachedBack (directed a).bytes s q j x met) here reached, subst (λ j. IsBehindBack (directed a).bytes a.alphabet.now.asked s j x) here behind)
bytes_passed_back a s q (b ∷ bytes) i d x z met met' back last inside there e (more {y = y} bare step told rest) reached behind =
    let here : i - 1 - 0 ≡ i - 1 = omega arith in
    let byte : slice_get s.content (i - 1) ≡ Some b = subst (λ j. slice_get s.content j ≡ Some b) here (there.are 0 b refl) in
    let lt : lowest s < i = omega (arith, there.low) in
    let itself : IsStep (directed a) a.alphabet.now.asked x (ahead_of false b) y = subst (λ u. IsStep (directed a) a.alphabet.now.asked x (ahead_of u b) y) back.anywhere step in
    let on = passed_one (directed a) a.alphabet.now.asked s q i b x y met back.way back.is.asked last inside lt byte told itself reached behind in
    let inside' : IsInside s (i - 1) = (omega (arith, lt), omega (arith, inside.1), omega (arith, lt), omega (arith, inside.3), omega (arith, inside.4)) in
    let far : i - 1 - length bytes ≡ i - suc (length bytes) = omega arith in
    let next : d + 1 ≡ s.end - (i - 1) = omega (arith, e, lt, inside.3) in
    let reached' : HasReachedBack (directed a).bytes s q (i - 1) y (met_after d y.ended met) = subst (λ k. HasReachedBack (directed a).bytes s q (i - 1) y (met_after k y.ended met)) (sym e) on.0 in
    subst (λ j. HasReachedBack (directed a).bytes s q j z met' × IsBehindBack (directed a).bytes a.alphabet.now.asked s j z) far
    (bytes_passed_back a s q bytes (i - 1) (d + 1) y z (met_after d y.ended met) met' back last inside' (rest_before s i b bytes there) next rest reached' on.1)

first_before : (s : Search) (i n : ℕ) (bytes : List ℕ) → StandBefore s i bytes → StandBefore s i (take n bytes)
first_before s i n bytes there = record {
  are = λ k b e. there.are k b (get_taken bytes n k b e);
  low = omega (arith, there.low, length-take n bytes);
}

pub stands_on_back : (a : Automaton) (s : Search) (q i d n : ℕ) (bytes : List ℕ) (states states' : List AutomatonState) (number number' : ℕ) (met met' : Option HalfFound) → ReadsBack a → IsInside s (end_in_content s) → IsInside s i → StandBefore s i bytes → d ≡ s.end - i → n ≤ length bytes
    → ((x : AutomatonState) → slice_get states number ≡ Some x → HasPassed a states' x (take n bytes) d met number' met') → StandsBack a s q i states number met → StandsBack a s q (i - n) states' number' met'
stands_on_back a s q i d n bytes states states' number number' met met' back last inside there e le passed at =
    let on = passed at.state at.stands in
    let far : length (take n bytes) ≡ n = omega (arith, length-take n bytes, le) in
    let reached = bytes_passed_back a s q (take n bytes) i d at.state on.next met met' back last inside (first_before s i n bytes there) e on.passes at.reached at.behind in
    record {
      state = on.next;
      stands = on.stands;
      reached = subst (λ k. HasReachedBack (directed a).bytes s q (i - k) on.next met') far reached.0;
      behind = subst (λ k. IsBehindBack (directed a).bytes a.alphabet.now.asked s (i - k) on.next) far reached.1;
    }

-- ---- the end

best_inside : (s : Search) (met : Option HalfFound) → IfSome met (λ found. IsInside s (s.end - found.offset)) → IfSome (best_from s.end met) (λ found. IsInside s found.offset)
best_inside s None inside = tt
best_inside s (Some found) inside = inside

nothing_met : {s p : ℕ} {ms : List (ℕ × ℕ)} → Met s p ms → ms ≡ [] → ⊥
nothing_met (met_first e f) none_is = absurd (cc none_is)
nothing_met (met_other there) none_is = absurd (cc none_is)

-- no thread is left at an offset
over_here : (p : ByteProgram) (s : Search) (q i : ℕ) (best : Option HalfFound) → IsInside s i → HasComeBack p s q i [] best → IsOverBack p s q best
over_here p s q i best inside come =
    come [] [] (option_map (mirror_match s) best) (option_map (mirror_match s) best) done (none_met (λ k t there. nothing_met there refl)) (over (λ k from begins. begins_not s k (omega (arith, from, inside.3)) begins))

-- the state is dead
pub over_ends : (p : ByteProgram) (s : Search) (q i : ℕ) (x : AutomatonState) (met : Option HalfFound) → IsInside s i → x.threads.threads ≡ [] → x.starting ≡ Never → HasReachedBack p s q i x met → HasEndedBack p s q (best_from s.end met)
over_ends p s q i x met inside gone never reached =
    let nobody : nodes_at x ≡ [] = ap₂ (λ ts z. nodes_of (ts ++ started (start_at z true))) gone never in
    record {
      over = over_here p s q i (best_from s.end met) inside (subst (λ ns. HasComeBack p s q i ns (best_from s.end met)) nobody reached.come);
      inside = best_inside s met reached.inside;
    }

-- the step at the lowest offset
pub first_ends : (p : ByteProgram) (asked : AskedLooks) (s : Search) (q i : ℕ) (x : AutomatonState) (ended : Option ℕ) (met : Option HalfFound) → AreAskedBy p.states asked → IsInside s (end_in_content s) → IsInside s i → i ≡ lowest s → quits asked (byte_before s i) ≡ false
    → MeetsStart p s i x ended → IsBehindBack p asked s i x → HasReachedBack p s q i x met → HasEndedBack p s q (best_from s.end (met_after (s.end - i) ended met))
first_ends p asked s q i x ended met are last inside first told meets behind reached =
    let best = best_from s.end met in
    let after = best_from s.end (met_after (s.end - i) ended met) in
    let taken : None ≡ byte_taken_back s i = sym (ap (λ c. cond c (slice_get s.content (i - 1)) None) (le-ltb (lowest s) i (omega (arith, first)))) in
    let on : Stepped p s q i (nodes_at x) [] ended best after = record {
      last = last;
      inside = inside;
      step = step_back p asked s i x None [] ended are inside behind told taken meets;
      come = reached.come;
      best_is = best_is s i ended met inside.3;
    } in
    record {
      over = ended_back p s q i (nodes_at x) [] ended best after on (inl refl);
      inside = best_inside s (met_after (s.end - i) ended met) (inside_after s i ended met inside reached.inside);
    }

-- ---- the column of the lowest offset

unread_here : (p : Directed) (asked : AskedLooks) (s : Search) (i : ℕ) (x y : AutomatonState) (ahead : Ahead) → p.is_back ≡ true → ahead.may_begin ≡ true → byte_before s i ≡ ahead.seen → IsStep p asked x ahead y → MeetsStart p.bytes s i x y.ended
unread_here p asked s i x y ahead way may seen step =
    let here : IsNextListBack p.bytes (record { at = 0; byte = None; looks = turned_looks (looks_of p.bytes.line_terminator x.behind ahead.seen) }) (nodes_at x) [] y.ended =
    starts_are_met_unread p.bytes (record { at = 0; byte = ahead.read; looks = turned_looks (looks_of p.bytes.line_terminator x.behind ahead.seen) }) (nodes_at x) (nodes_of step.next) y.ended (as_back p asked x y ahead way may step) in
    subst (λ o. IsNextListBack p.bytes (record { at = 0; byte = None; looks = turned_looks (looks_of p.bytes.line_terminator x.behind o) }) (nodes_at x) [] y.ended) (sym seen) here

-- the column of a byte there
pub byte_meets : (a : Automaton) (s : Search) (i b : ℕ) → ReadsBack a → b < 256 → byte_before s i ≡ Some b → quits a.alphabet.now.asked (Some b) ≡ false → IsFirstColumn a s i (class_of a.alphabet.now.classes b)
byte_meets a s i b back low seen told =
    let r = byte_of a.alphabet.now.classes b in
    let class = back.is.classes b low in
    let at = byte_in_class (directed a).bytes a.alphabet.now b back.is low in
    let is_last = class_of a.alphabet.now.classes b == length a.alphabet.now.classes.bytes in
    record {
      inside = omega (arith, class.has_class);
      goes_on = subst (λ o. quits a.alphabet.now.asked (ahead_at a.alphabet.now.utf8_empty is_last o).seen ≡ false) (sym at) (quits_alike (directed a).bytes a.alphabet.now.asked r b class.alike ∙ told);
      tells = λ x y bare step.
          let by_class : IsStep (directed a) a.alphabet.now.asked x (ahead_of a.alphabet.now.utf8_empty r) y = subst (λ o. IsStep (directed a) a.alphabet.now.asked x (ahead_at a.alphabet.now.utf8_empty is_last o) y) at step in
          let itself = step_alike alike_laws (directed a) a.alphabet.now.asked a.alphabet.now.utf8_empty x y r b back.is.asked bare class.alike by_class in
          let anywhere : IsStep (directed a) a.alphabet.now.asked x (ahead_of false b) y = subst (λ u. IsStep (directed a) a.alphabet.now.asked x (ahead_of u b) y) back.anywhere itself in
          unread_here (directed a) a.alphabet.now.asked s i x y (ahead_of false b) back.way refl seen anywhere;
    }

-- the column if the slice starts there
pub end_meets : (a : Automaton) (s : Search) (i column : ℕ) → ReadsBack a → column < column_count a.alphabet.now → ahead_in a.alphabet.now column ≡ ahead_of_end true → byte_before s i ≡ None → IsFirstColumn a s i column
end_meets a s i column back inside is seen = record {
  inside = inside;
  goes_on = ap (λ (z : Ahead). quits a.alphabet.now.asked z.seen) is;
  tells = λ x y bare step. unread_here (directed a) a.alphabet.now.asked s i x y (ahead_of_end true) back.way refl seen (subst (λ z. IsStep (directed a) a.alphabet.now.asked x z y) is step);
}

-- ---- errors

pub err_each : {A : Type 0} {P Q : MatchError → Type 0} (r : Result A MatchError) → ((e : MatchError) → P e → Q e) → IfErr r P → IfErr r Q
err_each (Ok x) on is = is
err_each (Err e) on is = on e is

pub refused_before : (is_whole : Bool) (a : Automaton) (s : Search) (i d : ℕ) (bytes : List ℕ) (e : MatchError) → StandBefore s i bytes → IsInside s i → d ≡ s.end - i → IsRefusalAmong is_whole a d bytes e → StopsBack is_whole a.alphabet.now.asked s (placed_error s.end e)
refused_before is_whole a s i d bytes Memory there inside at why = why
refused_before is_whole a s i d bytes (Quit b j) there inside at (le, e, told) =
    let lt = slice_get_within bytes (j - d) b e in
    let far : i - 1 - (j - d) ≡ s.end - j - 1 = omega (arith, at, le, lt, there.low, inside.3) in
    (ap (λ k. slice_get s.content k) (sym far) ∙ there.are (j - d) b e, omega (arith, at, le, lt, there.low, inside.3), omega (arith, at, le, lt, there.low, inside.1, inside.3), told)
refused_before is_whole a s i d bytes (GaveUp j) there inside at (part, le, lt) = (
  part,
  (
    omega (arith, at, le, lt, there.low, inside.3),
    omega (arith, at, le, inside.1, inside.3),
    omega (arith, at, le, lt, there.low, inside.3),
    omega (arith, at, le),
    omega (arith, at, le, inside.3, inside.4),
  ),
)
refused_before is_whole a s i d bytes (UnsupportedAnchored mode) there inside at why = absurd why

pub lacks_back : (is_whole : Bool) (asked : AskedLooks) (s : Search) (i at : ℕ) (e : MatchError) → IsInside s i → at ≡ i → IsLack is_whole at e → StopsBack is_whole asked s e
lacks_back true asked s i at e inside here lack = absurd lack
lacks_back false asked s i at e inside here (inl is) = subst (λ r. StopsBack false asked s r) (sym is) refl
lacks_back false asked s i at e inside here (inr is) = subst (λ r. StopsBack false asked s r) (sym is) (refl, subst (λ k. IsInside s k) (sym here) inside)

-- the error of a backward search that stops, on an anchored input
pub stops_refused : (is_whole : Bool) (asked : AskedLooks) (s : Search) (e : MatchError) → IsTrue (is_anchored s.anchoring) → StopsBack is_whole asked s e → IsRefusalBackBy is_whole asked s e
stops_refused is_whole asked s Memory on why = (on, why)
stops_refused is_whole asked s (Quit b i) on why = (on, why)
stops_refused is_whole asked s (GaveUp i) on why = (on, why)
stops_refused is_whole asked s (UnsupportedAnchored mode) on why = absurd why

-- an anchored mode
pub is_on : (a mode : Anchored) → mode ≡ a → modes.is_anchored mode ≡ true → IsTrue (is_anchored (anchoring_of a))
is_on a anchored.No same on = absurd (cc on)
is_on a anchored.Yes same on = subst (λ z. IsTrue (is_anchored (anchoring_of z))) same refl
is_on a (anchored.Pattern k) same on = subst (λ z. IsTrue (is_anchored (anchoring_of z))) same refl
