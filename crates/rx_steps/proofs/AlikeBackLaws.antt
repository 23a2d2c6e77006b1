-- Backward steps that are the same.
use Rattle.std.proofs.Common.{◌≡◌, ℕ, ◌⊎◌, List, [], ◌∷◌, ◌++◌, map, Option, Some, None, Contains, slice_get, refl, sym, ap, subst, ◌∙◌, arith, inl, inr}
use Rattle.std.proofs.lemmas.List.{append_assoc}
use Rattle.rx_program.specs.declared.states.State.{State}
use Rattle.rx_program.specs.Programs.{ByteProgram}
use Rattle.rx_walks.specs.Machines.{Machine, Move, ends, goes, reads}
use Rattle.rx_walks.specs.Programs.{Notes}
use Rattle.rx_walks.specs.Steps.{Thins, thin_end, kept, left_out}
use Rattle.rx_walks.specs.StepsAll.{StepsAll, done, passed, met, opened, read}
use Rattle.rx_walks.proofs.WalkLaws.{Contains-head, Contains-tail, Contains-cases}
use Rattle.rx_steps.specs.declared.place.Place.{Place}
use Rattle.rx_steps.specs.AlikeBack.{StartsAreMetUnread, StepsBackAreAlike, StepsBackAreThinned}
use Rattle.rx_steps.specs.Lists.{move_at}
use Rattle.rx_steps.specs.ListsAll.{MovesSo, Started, nodes_of, started_at}
use Rattle.rx_steps.specs.Threads.{Thread}
use Rattle.rx_steps.proofs.AlikeLaws.{Carried, move_carried}
use Rattle.rx_steps.proofs.UnreadLaws.{Stopped, move_stopped}

abbrev NodeMachine : Type 0
NodeMachine = Machine (ℕ × ℕ) Notes

-- ---- positions that are alike

carried_here : (i : ℕ) (x y : Move (ℕ × ℕ)) → Carried i i x y → y ≡ x
carried_here i (ends k) y c = c
carried_here i (goes rs) y c = c
carried_here i (reads r l) y c = c.1 ∙ ap (λ j. reads r j) (sym c.0)

pub steps_back_are_alike : (p : ByteProgram) → StepsBackAreAlike p
steps_back_are_alike p place other nodes next met' alike list = λ m i start moves. list m i start (record {
  at_state = λ q x is. moves.at_state q x is ∙ carried_here i (move_at place i q x) (move_at other i q x) (move_carried p place other i i q x alike is);
  elsewhere = moves.elsewhere;
})

-- ---- the byte isn't read

-- the machine with the moves of a position
abbrev move_there : Place → ℕ → ℕ × ℕ → Option State → Move (ℕ × ℕ)
move_there place i q None = goes []
move_there place i q (Some x) = move_at place i q x

abbrev moves_there : List State → Place → NodeMachine → NodeMachine
moves_there states place m = record m { move = λ i q. move_there place i q (slice_get states q.0) }

moves_so : (states : List State) (place : Place) (m : NodeMachine) (i : ℕ) → MovesSo (moves_there states place m) i states place
moves_so states place m i = record {
  at_state = λ q x is. ap (λ o. move_there place i q o) is;
  elsewhere = λ q is. ap (λ o. move_there place i q o) is;
}

-- it stops if the byte isn't read
stops : (p : ByteProgram) (place : Place) (m : NodeMachine) (i : ℕ) → MovesSo m i p.states (record place { byte = None }) → (q : ℕ × ℕ) → Stopped ((moves_there p.states place m).move i q) (m.move i q)
stops p place m i moves q = by (slice_get p.states q.0) refl
  where
    by : (o : Option State) → slice_get p.states q.0 ≡ o → Stopped (move_there place i q (slice_get p.states q.0)) (m.move i q)
    by None is = subst (λ o. Stopped (move_there place i q o) (m.move i q)) (sym is) (moves.elsewhere q is)
    by (Some x) is =
        subst (λ o. Stopped (move_there place i q o) (m.move i q)) (sym is)
        (subst (λ y. Stopped (move_at place i q x) y) (sym (moves.at_state q x is)) (move_stopped place i i q x))

steps_stopped : {m m' : NodeMachine} {i : ℕ} {seen : List (ℕ × ℕ)} {threads next : List Started} {ms : List (ℕ × ℕ)} → ((q : ℕ × ℕ) → Stopped (m.move i q) (m'.move i q)) → StepsAll m i seen threads next ms → StepsAll m' i seen threads [] ms
steps_stopped stopped done = done
steps_stopped stopped (passed c rest) = passed c (steps_stopped stopped rest)
steps_stopped {m' = m'} {i = i} stopped (met {q = q} new is rest) =
    met new (subst (λ x. Stopped x (m'.move i q)) is (stopped q)) (steps_stopped stopped rest)
steps_stopped {m' = m'} {i = i} stopped (opened {q = q} rs new is rest) =
    opened rs new (subst (λ x. Stopped x (m'.move i q)) is (stopped q)) (steps_stopped stopped rest)
steps_stopped {m' = m'} {i = i} stopped (read {q = q} r new is rest) =
    opened [] new (subst (λ x. Stopped x (m'.move i q)) is (stopped q)) (steps_stopped stopped rest)

pub starts_are_met_unread : (p : ByteProgram) → StartsAreMetUnread p
starts_are_met_unread p place nodes next met' list = λ m i start moves.
    let step = list (moves_there p.states place m) i start (moves_so p.states place m i) in
    record { ends = step.ends; steps = steps_stopped (stops p place m i moves) step.steps; best = step.best }

-- ---- threads that are left out

-- a thread is at a node
abbrev StandsAmong : ℕ × ℕ → List Started → Type 0
StandsAmong q [] = ⊥
StandsAmong q (t ∷ others) = (t.1 ≡ q) ⊎ StandsAmong q others

stands_behind : (q : ℕ × ℕ) (front others : List Started) → StandsAmong q others → StandsAmong q (front ++ others)
stands_behind q [] others there = there
stands_behind q (t ∷ front) others there = inr (stands_behind q front others there)

stands_before : (q : ℕ × ℕ) (front others : List Started) → StandsAmong q front → StandsAmong q (front ++ others)
stands_before q [] others there = absurd there
stands_before q (t ∷ front) others (inl here) = inl here
stands_before q (t ∷ front) others (inr there) = inr (stands_before q front others there)

-- a node was seen, or will be
abbrev IsComing : List (ℕ × ℕ) → List Started → ℕ × ℕ → Type 0
IsComing seen front q = Contains seen q ⊎ StandsAmong q front

-- still so once the first thread was followed or skipped
comes_still : (seen : List (ℕ × ℕ)) (s : ℕ) (r q : ℕ × ℕ) (front : List Started) → IsComing seen ((s, r) ∷ front) q → IsComing (r ∷ seen) front q
comes_still seen s r q front (inl c) = inl (Contains-tail seen r q c)
comes_still seen s r q front (inr (inl here)) = inl (Contains-head seen r q here)
comes_still seen s r q front (inr (inr there)) = inr there

comes_seen : (seen : List (ℕ × ℕ)) (s : ℕ) (r q : ℕ × ℕ) (front : List Started) → Contains seen r → IsComing seen ((s, r) ∷ front) q → IsComing seen front q
comes_seen seen s r q front c (inl c') = inl c'
comes_seen seen s r q front c (inr (inl here)) = inl (subst (λ x. Contains seen x) here c)
comes_seen seen s r q front c (inr (inr there)) = inr there

comes_opened : (seen : List (ℕ × ℕ)) (q : ℕ × ℕ) (more front : List Started) → IsComing seen front q → IsComing seen (more ++ front) q
comes_opened seen q more front (inl c) = inl c
comes_opened seen q more front (inr there) = inr (stands_behind q more front there)

abbrev rest_of : List Started → List Started
rest_of [] = []
rest_of (t ∷ ts) = ts

abbrev first_of : Started → List Started → Started
first_of u [] = u
first_of u (t ∷ ts) = t

-- one more thread changes nothing at a node that comes before it
one_more : {m : NodeMachine} {i : ℕ} {seen : List (ℕ × ℕ)} {all next : List Started} {ms : List (ℕ × ℕ)} (s : ℕ) (q : ℕ × ℕ) (front others : List Started) → StepsAll m i seen all next ms → all ≡ front ++ others → IsComing seen front q
    → StepsAll m i seen (front ++ (s, q) ∷ others) next ms
one_more {m = m} {i = i} {seen = seen} {next = next} {ms = ms} s q [] others steps e (inl c) = passed c (subst (λ xs. StepsAll m i seen xs next ms) e steps)
one_more s q [] others steps e (inr there) = absurd there
one_more s q (t ∷ front) others done e comes = absurd (cc e)
one_more {m = m} {i = i} {seen = seen} {next = next} {ms = ms} s q (t ∷ front) others (passed {s = s'} {q = r} c rest) e comes =
    let same : (s', r) ≡ t = ap (first_of t) e in
    let on = one_more s q front others rest (ap rest_of e) (comes_seen seen s' r q front c (subst (λ u. IsComing seen (u ∷ front) q) (sym same) comes)) in
    subst (λ u. StepsAll m i seen (u ∷ front ++ (s, q) ∷ others) next ms) same (passed c on)
one_more {m = m} {i = i} {seen = seen} {next = next} s q (t ∷ front) others (met {s = s'} {p = k} {q = r} {met = ms} new is rest) e comes =
    let same : (s', r) ≡ t = ap (first_of t) e in
    let on = one_more s q front others rest (ap rest_of e) (comes_still seen s' r q front (subst (λ u. IsComing seen (u ∷ front) q) (sym same) comes)) in
    subst (λ u. StepsAll m i seen (u ∷ front ++ (s, q) ∷ others) next ((s', k) ∷ ms)) same (met new is on)
one_more {m = m} {i = i} {seen = seen} {next = next} {ms = ms} s q (t ∷ front) others (opened {s = s'} {q = r} {others = old} rs new is rest) e comes =
    let same : (s', r) ≡ t = ap (first_of t) e in
    let more = map (λ x. (s', x)) rs in
    let split : more ++ old ≡ (more ++ front) ++ others = ap (λ xs. more ++ xs) (ap rest_of e) ∙ sym (append_assoc more front others) in
    let on = one_more s q (more ++ front) others rest split (comes_opened (r ∷ seen) q more front (comes_still seen s' r q front (subst (λ u. IsComing seen (u ∷ front) q) (sym same) comes))) in
    subst (λ u. StepsAll m i seen (u ∷ front ++ (s, q) ∷ others) next ms) same
    (opened rs new is (subst (λ xs. StepsAll m i (r ∷ seen) xs next ms) (append_assoc more front ((s, q) ∷ others)) on))
one_more {m = m} {i = i} {seen = seen} {ms = ms} s q (t ∷ front) others (read {s = s'} {q = r} {next = next} x new is rest) e comes =
    let same : (s', r) ≡ t = ap (first_of t) e in
    let on = one_more s q front others rest (ap rest_of e) (comes_still seen s' r q front (subst (λ u. IsComing seen (u ∷ front) q) (sym same) comes)) in
    subst (λ u. StepsAll m i seen (u ∷ front ++ (s, q) ∷ others) ((s', x) ∷ next) ms) same (read x new is on)

-- all that are left out
all_more : {m : NodeMachine} {i : ℕ} {next : List Started} {ms : List (ℕ × ℕ)} {gone : List (ℕ × ℕ)} {threads thin : List Thread} (s : ℕ) (front : List Started) → Thins gone threads thin → ((q : ℕ × ℕ) → Contains gone q → StandsAmong q front)
    → StepsAll m i [] (front ++ started_at s (nodes_of thin)) next ms → StepsAll m i [] (front ++ started_at s (nodes_of threads)) next ms
all_more s front thin_end stand steps = steps
all_more {m = m} {i = i} {next = next} {ms = ms} {gone = gone} s front (kept {q = q} {xs = xs} {ys = ys} thins) stand steps =
    let front' = front ++ (s, q) ∷ [] in
    let stand' : (r : ℕ × ℕ) → Contains (q ∷ gone) r → StandsAmong r (front ++ (s, q) ∷ []) = λ r c. elim (Contains-cases gone q r c) [
      | inl e ↦ stands_behind r front ((s, q) ∷ []) (inl e)
      | inr c' ↦ stands_before r front ((s, q) ∷ []) (stand r c')
    ] in
    subst (λ ts. StepsAll m i [] ts next ms) (append_assoc front ((s, q) ∷ []) (started_at s (nodes_of xs)))
    (all_more s front' thins stand' (subst (λ ts. StepsAll m i [] ts next ms) (sym (append_assoc front ((s, q) ∷ []) (started_at s (nodes_of ys)))) steps))
all_more s front (left_out {q = q} {xs = xs} c thins) stand steps =
    one_more s q front (started_at s (nodes_of xs)) (all_more s front thins stand steps) refl (inr (stand q c))

none_gone : (q : ℕ × ℕ) → Contains [] q → StandsAmong q []
none_gone q (k, within, is) = absurd (omega (arith, within))

-- a step from the kept threads is one from all
pub steps_thinned : {m : NodeMachine} {i : ℕ} {next : List Started} {ms : List (ℕ × ℕ)} {threads thin : List Thread} (s : ℕ) → Thins [] threads thin → StepsAll m i [] (started_at s (nodes_of thin)) next ms → StepsAll m i [] (started_at s (nodes_of threads)) next ms
steps_thinned s thins steps = all_more s [] thins none_gone steps

pub steps_back_are_thinned : (p : ByteProgram) → StepsBackAreThinned p
steps_back_are_thinned p place threads thin next met' thins list = λ m i start moves.
    let step = list m i start moves in
    record { ends = step.ends; steps = steps_thinned start thins step.steps; best = step.best }
