-- Following a node in a search for all matches.
use Rattle.std.proofs.Common.{inl, inr, ◌≡◌, ℕ, zero, suc, ◌+◌, ◌≤◌, Bool, true, false, All, List, [], ◌∷◌, ◌++◌, length, map, drop, Option, Some, None, Contains, slice_get, refl, sym, ap, subst, ◌∙◌, arith}
use Rattle.std.proofs.lemmas.List.{append_assoc, append-nil}
use Rattle.std.proofs.lemmas.List.Elements.{All-append, All-cons, All-nil}
use Rattle.std.proofs.Math.ListN.{drop_of_length-le}
use Rattle.rx_program.specs.declared.states.State.{State}
use Rattle.rx_program.specs.declared.states.State.TheVariants as state
use Rattle.rx_program.specs.Code.{place_of}
use Rattle.rx_utf8.specs.Automata.{step_of}
use Rattle.rx_program.specs.Programs.{ByteProgram}
use Rattle.rx_walks.specs.Machines.{Machine, Move, ends, goes, reads}
use Rattle.rx_walks.specs.Walks.{IsNew}
use Rattle.rx_walks.specs.Looks as walks
use Rattle.rx_walks.specs.Programs.{Notes, Haystack, only_if}
use Rattle.rx_walks.specs.Bytes.{read_on}
use Rattle.rx_walks.specs.StepsAll.{StepsAll, done, passed, met, opened, read}
use Rattle.rx_steps.specs.declared.place.Place.{Place}
use Rattle.rx_steps.specs.declared.started.MetEnd.{MetEnd}
use Rattle.rx_steps.specs.Nodes.{widths_of, index_from, MayStand, IsNodeIn, IsInserted}
use Rattle.rx_steps.specs.Threads.{Slots, Thread, Waiting, IsThreadOf, first_node}
use Rattle.rx_steps.specs.Lists.{IsPlace, is_among, read_next, move_at, IsMade}
use Rattle.rx_steps.specs.ListsAll.{Started, IsStartedOf, started_at, ended_from, nodes_of, byte_machine, end_met_by, IsBestMet, MovesSo, AreUnderWayAll, FollowsAll, IsStepAll}
use Rattle.rx_steps.proofs.FollowLaws.{behind_reads, no_width, seen_or_new, tells_more, tells_outside}
use Rattle.rx_steps.proofs.IndexLaws.{behind}
use Rattle.rx_steps.proofs.PlaceLaws.{moves_at_place}
use Rattle.rx_steps.proofs.StandLaws.{first_of, rest_of}
use Rattle.rx_steps.proofs.EndLaws.{none_met, one_met}

abbrev Ends : Type 0
Ends = List (ℕ × ℕ)

-- ---- lists

pub started_append : (s : ℕ) (xs ys : List (ℕ × ℕ)) → started_at s (xs ++ ys) ≡ started_at s xs ++ started_at s ys
started_append s [] ys = refl
started_append s (x ∷ xs) ys = ap (λ zs. (s, x) ∷ zs) (started_append s xs ys)

pub ended_append : (s : ℕ) (xs ys : List ℕ) → ended_from s (xs ++ ys) ≡ ended_from s xs ++ ended_from s ys
ended_append s [] ys = refl
ended_append s (x ∷ xs) ys = ap (λ zs. (s, x) ∷ zs) (ended_append s xs ys)

pub nodes_append : (xs ys : List Thread) → nodes_of (xs ++ ys) ≡ nodes_of xs ++ nodes_of ys
nodes_append [] ys = refl
nodes_append (x ∷ xs) ys = ap (λ zs. x.1 ∷ zs) (nodes_append xs ys)

nodes_noted : (n : Slots) (rs : List (ℕ × ℕ)) → nodes_of (map (λ r. (n, r)) rs) ≡ rs
nodes_noted n [] = refl
nodes_noted n (r ∷ rs) = ap (λ zs. r ∷ zs) (nodes_noted n rs)

-- ---- a thread, whatever its move

module _ (m : Machine (ℕ × ℕ) Notes) (i : ℕ) (threads : List Started) (widths ids : List ℕ) (s : ℕ) (q : ℕ × ℕ) (left out : List Started) (before : Ends) where
  abbrev Way : List ℕ → List Started → List Started → Ends → Type 0
  Way ids' left' out' ends' = AreUnderWayAll m i threads widths ids' left' out' ends'

  all_seen : (k : ℕ) → index_from 0 widths q.0 q.1 ≡ Some k → Contains ids k → Way ids ((s, q) ∷ left) out before → Way ids left out before
  all_seen k at c way = record {
    seen = way.seen;
    tells = way.tells;
    so_far = λ next more steps. way.so_far next more (passed ((way.tells q k at).1 c) steps);
  }

  all_nowhere : index_from 0 widths q.0 q.1 ≡ None → m.move i q ≡ goes [] → Way ids ((s, q) ∷ left) out before → Way ids left out before
  all_nowhere at is way = elim (seen_or_new way.seen q) [
    | inl c ↦ record { seen = way.seen; tells = way.tells; so_far = λ next more steps. way.so_far next more (passed c steps) }
    | inr new ↦ record {
      seen = q ∷ way.seen;
      tells = tells_outside widths ids way.seen q at way.tells;
      so_far = λ next more steps. way.so_far next more (opened [] new is steps);
    }
  ]

  all_ends : (k p : ℕ) → index_from 0 widths q.0 q.1 ≡ Some k → (Contains ids k → ⊥) → m.move i q ≡ ends p → Way ids ((s, q) ∷ left) out before → Way (ids ++ k ∷ []) left out (before ++ (s, p) ∷ [])
  all_ends k p at none is way =
      let new : IsNew way.seen q = λ c. none ((way.tells q k at).0 c) in
      record {
        seen = q ∷ way.seen;
        tells = tells_more widths ids way.seen q k at way.tells;
        so_far = λ next more steps. subst (λ es. StepsAll m i [] threads (out ++ next) es) (sym (append_assoc before ((s, p) ∷ []) more)) (way.so_far next ((s, p) ∷ more) (met new is steps));
      }

  all_goes : (k : ℕ) (rs : List (ℕ × ℕ)) → index_from 0 widths q.0 q.1 ≡ Some k → (Contains ids k → ⊥) → m.move i q ≡ goes rs → Way ids ((s, q) ∷ left) out before → Way (ids ++ k ∷ []) (started_at s rs ++ left) out before
  all_goes k rs at none is way =
      let new : IsNew way.seen q = λ c. none ((way.tells q k at).0 c) in
      record {
        seen = q ∷ way.seen;
        tells = tells_more widths ids way.seen q k at way.tells;
        so_far = λ next more steps. way.so_far next more (opened rs new is steps);
      }

  all_reads : (k : ℕ) (r : ℕ × ℕ) → index_from 0 widths q.0 q.1 ≡ Some k → (Contains ids k → ⊥) → m.move i q ≡ reads r (i + 1) → Way ids ((s, q) ∷ left) out before → Way (ids ++ k ∷ []) left (out ++ (s, r) ∷ []) before
  all_reads k r at none is way =
      let new : IsNew way.seen q = λ c. none ((way.tells q k at).0 c) in
      record {
        seen = q ∷ way.seen;
        tells = tells_more widths ids way.seen q k at way.tells;
        so_far = λ next more steps. subst (λ xs. StepsAll m i [] threads xs (before ++ more)) (sym (append_assoc out ((s, r) ∷ []) next)) (way.so_far ((s, r) ∷ next) more (read r new is steps));
      }

-- ---- the cases of the code

-- nothing is reached, and nothing ends
pub follows_none : (p : ByteProgram) (place : Place) (start : ℕ) (left left' : List (ℕ × ℕ)) (ids ids' : List ℕ) (next : List Thread)
    → ((m : Machine (ℕ × ℕ) Notes) (i : ℕ) (threads others out : List Started) (ends : Ends) → MovesSo m i p.states place → AreUnderWayAll m i threads (widths_of p) ids (started_at start left ++ others) out ends
    → AreUnderWayAll m i threads (widths_of p) ids' (started_at start left' ++ others) out ends)
    → FollowsAll p place start left left' ids ids' next next None
follows_none p place start left left' ids ids' next on = record {
  reached = [];
  ended = [];
  put = sym (append-nil (nodes_of next));
  best = none_met;
  goes_on = λ m i threads others out ends moves way. subst (λ xs. AreUnderWayAll m i threads (widths_of p) ids' (started_at start left' ++ others) xs (ends ++ [])) (sym (append-nil out))
      (subst (λ es. AreUnderWayAll m i threads (widths_of p) ids' (started_at start left' ++ others) out es) (sym (append-nil ends)) (on m i threads others out ends moves way));
}

pub all_entered_nowhere : (p : ByteProgram) (place : Place) (start : ℕ) (q : ℕ × ℕ) (waits : List (ℕ × ℕ)) (ids : List ℕ) (next : List Thread) → slice_get p.states q.0 ≡ None
    → FollowsAll p place start (q ∷ waits) waits ids ids next next None
all_entered_nowhere p place start q waits ids next here = follows_none p place start (q ∷ waits) waits ids ids next (λ m i threads others out ends moves way.
    all_nowhere m i threads (widths_of p) ids start q (started_at start waits ++ others) out ends (no_width 0 p.states q.0 q.1 here) (moves.elsewhere q here) way)

pub all_skipped : (p : ByteProgram) (place : Place) (start : ℕ) (q : ℕ × ℕ) (x : State) (waits : List (ℕ × ℕ)) (ids ids' : List ℕ) (next : List Thread) (o : Option ℕ) (is_new : Bool)
    → index_from 0 (widths_of p) q.0 q.1 ≡ o → is_new ≡ false → IsInserted o is_new ids ids' → slice_get p.states q.0 ≡ Some x → IsNodeIn p.states q
    → FollowsAll p place start (q ∷ waits) waits ids ids' next next None
all_skipped p place start q x waits ids ids' next None is_new at old is here may = rw is.1 (follows_none p place start (q ∷ waits) waits ids ids next (λ m i threads others out ends moves way.
    all_nowhere m i threads (widths_of p) ids start q (started_at start waits ++ others) out ends at
    (moves.at_state q x here ∙ behind_reads place i q x (behind 0 p.states q.0 q.1 x here at) (subst (λ o. MayStand o q.1) here may)) way))
all_skipped p place start q x waits ids ids' next (Some k) true at old is here may = absurd (cc old)
all_skipped p place start q x waits ids ids' next (Some k) false at old is here may = rw is.1 (follows_none p place start (q ∷ waits) waits ids ids next (λ m i threads others out ends moves way.
    all_seen m i threads (widths_of p) ids start q (started_at start waits ++ others) out ends k at is.0 way))

-- a move at one position, at another one
abbrev SameAt : ℕ → Move (ℕ × ℕ) → Move (ℕ × ℕ) → Type 0
SameAt i (ends k) x = x ≡ ends k
SameAt i (goes rs) x = x ≡ goes rs
SameAt i (reads r j) x = x ≡ reads r (i + 1)

same_read : (q r i : ℕ) (o : Option (Option ℕ)) → SameAt i (read_on q r 0 o) (read_on q r i o)
same_read q r i None = refl
same_read q r i (Some None) = refl
same_read q r i (Some (Some s)) = refl

same_byte : (step : ℕ → ℕ → Option (Option ℕ)) (q r s i : ℕ) (o : Option ℕ) → SameAt i (read_next step q r s 0 o) (read_next step q r s i o)
same_byte step q r s i None = refl
same_byte step q r s i (Some b) = same_read q r i (step s b)

same_at : (place : Place) (i : ℕ) (q : ℕ × ℕ) (x : State) → SameAt i (move_at place 0 q x) (move_at place i q x)
same_at place i q (state.Ranges automaton r) = same_byte (step_of automaton.value) q.0 r q.1 i place.byte
same_at place i q (state.Look asked r) = elim (is_among place.looks (place_of asked)) as (λ b. SameAt i (only_if b (goes (first_node r ∷ []))) (only_if b (goes (first_node r ∷ [])))) [ true ↦ refl | false ↦ refl ]
same_at place i q (state.Empty r) = refl
same_at place i q (state.BinaryUnion first second) = refl
same_at place i q (state.Union alternates) = refl
same_at place i q (state.Capture slot r) = refl
same_at place i q (state.Match k) = refl

follow_new : (p : ByteProgram) (place : Place) (start : ℕ) (q : ℕ × ℕ) (k : ℕ) (x : State) (move : Move (ℕ × ℕ)) (noted : Slots) (met' : Option ℕ) (w w' : Waiting) (ids : List ℕ) (next next' : List Thread)
    → index_from 0 (widths_of p) q.0 q.1 ≡ Some k → (Contains ids k → ⊥) → slice_get p.states q.0 ≡ Some x → ((i : ℕ) → SameAt i move (move_at place i q x)) → IsMade move noted met' w w' next next'
    → FollowsAll p place start (q ∷ nodes_of w.threads) (nodes_of w'.threads) ids (ids ++ k ∷ []) next next' (end_met_by start met')
follow_new p place start q k x (ends e) noted met' w w' ids next next' at none here same made = record {
  reached = [];
  ended = e ∷ [];
  put = ap nodes_of made.2 ∙ sym (append-nil (nodes_of next));
  best = subst (λ o. IsBestMet (ended_from start (e ∷ [])) (end_met_by start o)) (sym made.0) (one_met start e);
  goes_on = λ m i threads others out ends' moves way.
      subst (λ xs. AreUnderWayAll m i threads (widths_of p) (ids ++ k ∷ []) (started_at start (nodes_of w'.threads) ++ others) xs (ends' ++ (start, e) ∷ [])) (sym (append-nil out))
      (subst (λ ts. AreUnderWayAll m i threads (widths_of p) (ids ++ k ∷ []) (started_at start (nodes_of ts) ++ others) out (ends' ++ (start, e) ∷ [])) (sym made.3)
      (all_ends m i threads (widths_of p) ids start q (started_at start (nodes_of w.threads) ++ others) out ends' k e at none (moves.at_state q x here ∙ same i) way));
}
follow_new p place start q k x (goes rs) noted met' w w' ids next next' at none here same made =
    let left : nodes_of w'.threads ≡ rs ++ nodes_of w.threads = ap nodes_of made.1 ∙ nodes_append (map (λ r. (noted, r)) rs) w.threads ∙ ap (λ xs. xs ++ nodes_of w.threads) (nodes_noted noted rs) in
    rw made.0 (rw made.2 (follows_none p place start (q ∷ nodes_of w.threads) (nodes_of w'.threads) ids (ids ++ k ∷ []) next (λ m i threads others out ends' moves way.
    let all : started_at start (nodes_of w'.threads) ++ others ≡ started_at start rs ++ (started_at start (nodes_of w.threads) ++ others) =
    ap (λ xs. started_at start xs ++ others) left ∙ ap (λ xs. xs ++ others) (started_append start rs (nodes_of w.threads)) ∙ append_assoc (started_at start rs) (started_at start (nodes_of w.threads)) others in
    subst (λ xs. AreUnderWayAll m i threads (widths_of p) (ids ++ k ∷ []) xs out ends') (sym all)
    (all_goes m i threads (widths_of p) ids start q (started_at start (nodes_of w.threads) ++ others) out ends' k rs at none (moves.at_state q x here ∙ same i) way))))
follow_new p place start q k x (reads r j) noted met' w w' ids next next' at none here same made = record {
  reached = r ∷ [];
  ended = [];
  put = ap nodes_of made.2 ∙ nodes_append next ((w.slots, r) ∷ []);
  best = subst (λ o. IsBestMet [] (end_met_by start o)) (sym made.0) none_met;
  goes_on = λ m i threads others out ends' moves way.
      subst (λ es. AreUnderWayAll m i threads (widths_of p) (ids ++ k ∷ []) (started_at start (nodes_of w'.threads) ++ others) (out ++ (start, r) ∷ []) es) (sym (append-nil ends'))
      (subst (λ ts. AreUnderWayAll m i threads (widths_of p) (ids ++ k ∷ []) (started_at start (nodes_of ts) ++ others) (out ++ (start, r) ∷ []) ends') (sym made.1)
      (all_reads m i threads (widths_of p) ids start q (started_at start (nodes_of w.threads) ++ others) out ends' k r at none (moves.at_state q x here ∙ same i) way));
}

pub all_entered_new : (p : ByteProgram) (place : Place) (start : ℕ) (q : ℕ × ℕ) (k : ℕ) (x : State) (noted : Slots) (met' : Option ℕ) (w w' : Waiting) (ids : List ℕ) (next next' : List Thread)
    → index_from 0 (widths_of p) q.0 q.1 ≡ Some k → (Contains ids k → ⊥) → slice_get p.states q.0 ≡ Some x → ((i : ℕ) → IsMade (move_at place i q x) noted met' w w' next next')
    → FollowsAll p place start (q ∷ nodes_of w.threads) (nodes_of w'.threads) ids (ids ++ k ∷ []) next next' (end_met_by start met')
all_entered_new p place start q k x noted met' w w' ids next next' at none here made =
    follow_new p place start q k x (move_at place 0 q x) noted met' w w' ids next next' at none here (λ i. same_at place i q x) (made 0)

-- ---- one node after another

pub follows_on : (p : ByteProgram) (place : Place) (start : ℕ) (left middle left' : List (ℕ × ℕ)) (ids mid ids' : List ℕ) (next between next' : List Thread) (one other best : Option MetEnd)
    → ((xs ys : Ends) → IsBestMet xs one → IsBestMet ys other → IsBestMet (xs ++ ys) best)
    → FollowsAll p place start left middle ids mid next between one → FollowsAll p place start middle left' mid ids' between next' other → FollowsAll p place start left left' ids ids' next next' best
follows_on p place start left middle left' ids mid ids' next between next' one other best better first second = record {
  reached = first.reached ++ second.reached;
  ended = first.ended ++ second.ended;
  put = second.put ∙ ap (λ xs. xs ++ second.reached) first.put ∙ append_assoc (nodes_of next) first.reached second.reached;
  best = subst (λ es. IsBestMet es best) (sym (ended_append start first.ended second.ended)) (better (ended_from start first.ended) (ended_from start second.ended) first.best second.best);
  goes_on = λ m i threads others out ends' moves way.
      let reached : (out ++ started_at start first.reached) ++ started_at start second.reached ≡ out ++ started_at start (first.reached ++ second.reached) =
      append_assoc out (started_at start first.reached) (started_at start second.reached) ∙ ap (λ xs. out ++ xs) (sym (started_append start first.reached second.reached)) in
      let ended : (ends' ++ ended_from start first.ended) ++ ended_from start second.ended ≡ ends' ++ ended_from start (first.ended ++ second.ended) =
      append_assoc ends' (ended_from start first.ended) (ended_from start second.ended) ∙ ap (λ xs. ends' ++ xs) (sym (ended_append start first.ended second.ended)) in
      subst (λ xs. AreUnderWayAll m i threads (widths_of p) ids' (started_at start left' ++ others) xs (ends' ++ ended_from start (first.ended ++ second.ended))) reached
      (subst (λ es. AreUnderWayAll m i threads (widths_of p) ids' (started_at start left' ++ others) ((out ++ started_at start first.reached) ++ started_at start second.reached) es) ended
      (second.goes_on m i threads others (out ++ started_at start first.reached) (ends' ++ ended_from start first.ended) moves (first.goes_on m i threads others out ends' moves way)));
}

-- ---- a step from its start to its end

pub all_over : (m : Machine (ℕ × ℕ) Notes) (i : ℕ) (widths ids : List ℕ) (threads out : List Started) (ends' : Ends) (best : Option MetEnd) → IsBestMet ends' best → AreUnderWayAll m i threads widths ids [] out ends' → IsStepAll m i threads out best
all_over m i widths ids threads out ends' best is way = record {
  ends = ends';
  steps = subst (λ es. StepsAll m i [] threads out es) (append-nil ends') (subst (λ xs. StepsAll m i [] threads xs (ends' ++ [])) (append-nil out) (way.so_far [] [] done));
  best = is;
}

pub all_moves : (p : ByteProgram) (h : Haystack walks.Look) (i : ℕ) (place : Place) → IsPlace p.states h i place → MovesSo (byte_machine p h) i p.states place
all_moves p h i place here = let moves = moves_at_place p h i place here in record { at_state = moves.at_state; elsewhere = moves.elsewhere }

-- ---- the threads that are left, and those in the next list

pub first_left : (xs : List Started) (n : ℕ) (x : Started) → slice_get xs n ≡ Some x → drop n xs ≡ x ∷ drop (n + 1) xs
first_left xs n x e =
    let more : suc n ≡ n + 1 = omega arith in
    by xs n x e ∙ ap (λ k. x ∷ drop k xs) more
  where
    the_first : {y x : Started} → Some y ≡ Some x → y ≡ x
    the_first g = cc g

    by : (xs : List Started) (n : ℕ) (x : Started) → slice_get xs n ≡ Some x → drop n xs ≡ x ∷ drop (suc n) xs
    by [] n x e = absurd (cc e)
    by (y ∷ xs) zero x e = ap (λ z. z ∷ xs) (the_first e)
    by (y ∷ xs) (suc n) x e = by xs n x e

pub none_left : (xs : List Started) (n : ℕ) → length xs ≤ n → drop n xs ≡ []
none_left xs n le = drop_of_length-le xs le

pub started_nodes : (states : List State) (s : ℕ) (ts : List Thread) → All (IsThreadOf states) ts → All (IsStartedOf states) (started_at s (nodes_of ts))
started_nodes states s [] all = All-nil (IsStartedOf states)
started_nodes states s (t ∷ ts) all = All-cons (IsStartedOf states) (s, t.1) (started_at s (nodes_of ts)) (first_of (IsThreadOf states) t ts all) (started_nodes states s ts (rest_of (IsThreadOf states) t ts all))

pub with_started : (states : List State) (s : ℕ) (out : List Started) (ts : List Thread) → All (IsStartedOf states) out → All (IsThreadOf states) ts → All (IsStartedOf states) (out ++ started_at s (nodes_of ts))
with_started states s out ts all more = All-append (IsStartedOf states) out (started_at s (nodes_of ts)) all (started_nodes states s ts more)

-- the step is under way after one more thread
pub all_next : (p : ByteProgram) (place : Place) (m : Machine (ℕ × ℕ) Notes) (i : ℕ) (threads out out' : List Started) (x : Started) (n : ℕ) (ids ids' : List ℕ) (old new : List Thread) (before met' after : Option MetEnd)
    → MovesSo m i p.states place → slice_get threads n ≡ Some x → old ≡ [] → FollowsAll p place x.0 (x.1 ∷ []) [] ids ids' old new met' → out' ≡ out ++ started_at x.0 (nodes_of new)
    → ((xs ys : Ends) → IsBestMet xs before → IsBestMet ys met' → IsBestMet (xs ++ ys) after)
    → (es : Ends) × IsBestMet es before × AreUnderWayAll m i threads (widths_of p) ids (drop n threads) out es
    → (es : Ends) × IsBestMet es after × AreUnderWayAll m i threads (widths_of p) ids' (drop (n + 1) threads) out' es
all_next p place m i threads out out' x n ids ids' old new before met' after moves here none follows grown better (es, best, way) =
    let on = follows.goes_on m i threads (drop (n + 1) threads) out es moves (subst (λ xs. AreUnderWayAll m i threads (widths_of p) ids xs out es) (first_left threads n x here) way) in
    let reached : nodes_of new ≡ follows.reached = follows.put ∙ ap (λ xs. nodes_of xs ++ follows.reached) none in
    let all : out' ≡ out ++ started_at x.0 follows.reached = grown ∙ ap (λ xs. out ++ started_at x.0 xs) reached in (
      es ++ ended_from x.0 follows.ended,
      better es (ended_from x.0 follows.ended) best follows.best,
      subst (λ xs. AreUnderWayAll m i threads (widths_of p) ids' (drop (n + 1) threads) xs (es ++ ended_from x.0 follows.ended)) (sym all) on,
    )

pub no_threads_of : (states : List State) (ts : List Thread) → ts ≡ [] → All (IsThreadOf states) ts
no_threads_of states ts none = subst (λ xs. All (IsThreadOf states) xs) (sym none) (All-nil (IsThreadOf states))

-- a thread that waited is followed
pub resume_all : (p : ByteProgram) (place : Place) (start : ℕ) (slots : Slots) (st : ℕ) (q : ℕ × ℕ) (waits rest : List Thread) (left' : List (ℕ × ℕ)) (ids ids' : List ℕ) (next next' : List Thread) (met' : Option MetEnd)
    → waits ≡ (slots, first_node st) ∷ rest → q ≡ (st, 0) → FollowsAll p place start (q ∷ nodes_of rest) left' ids ids' next next' met' → FollowsAll p place start (nodes_of waits) left' ids ids' next next' met'
resume_all p place start slots st q waits rest left' ids ids' next next' met' e f follows =
    let left : q ∷ nodes_of rest ≡ nodes_of waits = ap (λ r. r ∷ nodes_of rest) f ∙ ap nodes_of (sym e) in
    subst (λ xs. FollowsAll p place start xs left' ids ids' next next' met') left follows
