-- What walks reach after a step.
use Rattle.std.proofs.Common.{inl, inr, ◌≡◌, ℕ, suc, ◌+◌, ◌≤◌, All, List, [], ◌∷◌, map, Option, Some, None, slice_get, refl, sym, subst, arith}
use Rattle.std.proofs.lemmas.List.Elements.{All-append, All-cons, All-nil}
use Rattle.rx_walks.specs.Machines.{Machine, Outcome}
use Rattle.rx_walks.specs.Finds.{Search}
use Rattle.rx_walks.specs.ProgramFinds.{start_node}
use Rattle.rx_walks.specs.Steps.{Steps, done, passed, met, opened, read}
use Rattle.rx_program.specs.Programs.{ByteProgram, character_program}
use Rattle.rx_steps.specs.Threads.{Slots, Thread, ThreadListView, no_slots}
use Rattle.rx_steps.specs.Lists.{met_at}
use Rattle.rx_steps.specs.Standing.{at_once, by_edge, by_read, IsReached, WalkStands}
use Rattle.rx_steps.specs.Coming.{machine_in, HasStarted}

pub first_of : (P : Thread → Type 0) (x : Thread) (xs : List Thread) → All P (x ∷ xs) → P x
first_of P x xs all = all 0 x (omega arith)

pub rest_of : (P : Thread → Type 0) (x : Thread) (xs : List Thread) → All P (x ∷ xs) → All P xs
rest_of P x xs all = λ i d lt. all (suc i) d (omega (arith, lt))

targets : (P : Thread → Type 0) (n : Slots) (rs : List (ℕ × ℕ)) → ((k : ℕ) (r : ℕ × ℕ) → slice_get rs k ≡ Some r → P (n, r)) → All P (map (λ r. (n, r)) rs)
targets P n [] each = All-nil P
targets P n (r ∷ rs) each = All-cons P (n, r) (map (λ r. (n, r)) rs) (each 0 r refl) (targets P n rs (λ k t at. each (suc k) t at))

-- a walk that started at an offset or before it did so before a later one
pub reached_later : (m : Machine (ℕ × ℕ) Slots) (s : Search) (q last later i : ℕ) (threads : List Thread) → last ≤ later → All (IsReached m s q last i) threads → All (IsReached m s q later i) threads
reached_later m s q last later i threads le all = λ k d lt. (let here = all k d lt in (here.0, omega (arith, here.1, le), here.2, here.3))

-- the walks of a step reach the next offset
pub reached_on : (m : Machine (ℕ × ℕ) Slots) (s : Search) (q last i : ℕ) {seen : List (ℕ × ℕ)} {threads next : List Thread} {ended : Option (Outcome Slots)} → Steps m i seen threads next ended
    → All (IsReached m s q last i) threads → All (IsReached m s q last (i + 1)) next
reached_on m s q last i done all = All-nil (IsReached m s q last (i + 1))
reached_on m s q last i (passed {n = n} {q = r} {others = others} c rest) all = reached_on m s q last i rest (rest_of (IsReached m s q last i) (n, r) others all)
reached_on m s q last i (met new is) all = All-nil (IsReached m s q last (i + 1))
reached_on m s q last i (opened {n = n} {q = r} {others = others} rs new is rest) all =
    let here = first_of (IsReached m s q last i) (n, r) others all in
    let noted = m.note i r n in
    reached_on m s q last i rest (All-append (IsReached m s q last i) (map (λ t. (noted, t)) rs) others
    (targets (IsReached m s q last i) noted rs (λ k t at. (here.0, here.1, here.2, by_edge rs t k here.3 is at)))
    (rest_of (IsReached m s q last i) (n, r) others all))
reached_on m s q last i (read {n = n} {q = r} {others = others} {next = next} t new is rest) all =
    let here = first_of (IsReached m s q last i) (n, r) others all in
    All-cons (IsReached m s q last (i + 1)) (n, t) next (here.0, here.1, here.2, by_read t (i + 1) here.3 is)
    (reached_on m s q last i rest (rest_of (IsReached m s q last i) (n, r) others all))

-- so does a walk that starts
pub started_reached : (m : Machine (ℕ × ℕ) Slots) (s : Search) (q i : ℕ) (pattern : Option ℕ) (live : ThreadListView) (threads : List Thread) → HasStarted s q i pattern live threads
    → All (IsReached m s q i i) live.threads → All (IsReached m s q i i) threads
started_reached m s q i pattern live threads (inl begun) all =
    let fresh : Thread = (no_slots live.slot_len, (q, 0)) in
    subst (All (IsReached m s q i i)) (sym begun.2)
    (All-append (IsReached m s q i i) live.threads (fresh ∷ []) all
    (All-cons (IsReached m s q i i) fresh [] (i, omega arith, begun.1, at_once) (All-nil (IsReached m s q i i))))
started_reached m s q i pattern live threads (inr waits) all = subst (All (IsReached m s q i i)) (sym waits.1) all

-- if there is a thread, a walk reaches the offset
pub one_stands : (p : ByteProgram) (s : Search) (q last i : ℕ) (threads : List Thread) → start_node (character_program p) s.anchoring ≡ Some q → (threads ≡ [] → ⊥) → All (IsReached (machine_in p s) s q last i) threads
    → WalkStands p s last i
one_stands p s q last i [] starts some all = absurd (some refl)
one_stands p s q last i (x ∷ threads) starts some all = record { start = q; starts = starts; thread = x; reached = first_of (IsReached (machine_in p s) s q last i) x threads all }

-- if a match ends, there is a thread
some_threads : {m : Machine (ℕ × ℕ) Slots} {i : ℕ} {seen : List (ℕ × ℕ)} {threads next : List Thread} {ended : Option (Outcome Slots)} → Steps m i seen threads next ended → (ended ≡ None → ⊥) → threads ≡ [] → ⊥
some_threads done some e = some refl
some_threads (passed c rest) some e = absurd (cc e)
some_threads (met new is) some e = absurd (cc e)
some_threads (opened rs new is rest) some e = absurd (cc e)
some_threads (read r new is rest) some e = absurd (cc e)

met_one : (i k : ℕ) (noted : Slots) → met_at i (Some k) noted ≡ None → ⊥
met_one i k noted e = absurd (cc e)

pub threads_met : (m : Machine (ℕ × ℕ) Slots) (i k : ℕ) (noted : Slots) (threads next : List Thread) → Steps m i [] threads next (met_at i (Some k) noted) → threads ≡ [] → ⊥
threads_met m i k noted threads next steps = some_threads steps (met_one i k noted)

abbrev pub pattern_after : Option ℕ → Option ℕ → Option ℕ
pattern_after None pattern = pattern
pattern_after (Some k) pattern = Some k
