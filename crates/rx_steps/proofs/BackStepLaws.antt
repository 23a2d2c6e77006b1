-- A backward step, thread by thread.
use Rattle.std.proofs.Common.{◌≡◌, ℕ, zero, suc, ◌+◌, ◌≤◌, List, [], ◌∷◌, ◌++◌, length, drop, Option, Some, None, option_map, slice_get, IsSomeAnd, refl, sym, ap, subst, ◌∙◌, arith}
use Rattle.std.proofs.lemmas.Option.{slice_get-map}
use Rattle.std.proofs.Math.ListN.{drop_of_length-le}
use Rattle.rx_walks.specs.Machines.{Machine}
use Rattle.rx_walks.specs.Programs.{Notes}
use Rattle.rx_program.specs.Programs.{ByteProgram}
use Rattle.rx_steps.specs.declared.place.Place.{Place}
use Rattle.rx_steps.specs.Nodes.{widths_of}
use Rattle.rx_steps.specs.Threads.{Thread}
use Rattle.rx_steps.specs.ListsAll.{AreUnderWayAll, FollowsAll, IsBestMet, IsStepAll, MovesSo, end_met_by, ended_from, nodes_of, started_at}
use Rattle.rx_steps.proofs.AllFollowLaws.{all_over, started_append}

abbrev Ends : Type 0
Ends = List (ℕ × ℕ)

-- the best of two lists of match ends with these best ones
abbrev pub IsBetter : ℕ → Option ℕ → Option ℕ → Option ℕ → Type 0
IsBetter start one other best = (xs ys : Ends) → IsBestMet xs (end_met_by start one) → IsBestMet ys (end_met_by start other) → IsBestMet (xs ++ ys) (end_met_by start best)

-- a step from these nodes is under way, with these left and these in the next list
abbrev pub BackWay : ByteProgram → Place → List (ℕ × ℕ) → List ℕ → List (ℕ × ℕ) → List Thread → Option ℕ → Type 0
BackWay p place nodes ids left out best = (m : Machine (ℕ × ℕ) Notes) (i start : ℕ) → MovesSo m i p.states place
    → (ends : Ends) × IsBestMet ends (end_met_by start best) × AreUnderWayAll m i (started_at start nodes) (widths_of p) ids (started_at start left) (started_at start (nodes_of out)) ends

node_here : (threads : List Thread) (n : ℕ) (q : ℕ × ℕ) → IsSomeAnd (slice_get threads n) (λ t. q ≡ t.1) → slice_get (nodes_of threads) n ≡ Some q
node_here threads n q here = slice_get-map (λ t. t.1) threads n ∙ by (slice_get threads n) here
  where
    by : (o : Option Thread) → IsSomeAnd o (λ t. q ≡ t.1) → option_map (λ t. t.1) o ≡ Some q
    by None is = absurd is
    by (Some t) is = ap Some (sym is)

first_left : (xs : List (ℕ × ℕ)) (n : ℕ) (x : ℕ × ℕ) → slice_get xs n ≡ Some x → drop n xs ≡ x ∷ drop (n + 1) xs
first_left xs n x e =
    let more : suc n ≡ n + 1 = omega arith in
    by xs n x e ∙ ap (λ k. x ∷ drop k xs) more
  where
    the_first : {y x : ℕ × ℕ} → Some y ≡ Some x → y ≡ x
    the_first g = cc g

    by : (xs : List (ℕ × ℕ)) (n : ℕ) (x : ℕ × ℕ) → slice_get xs n ≡ Some x → drop n xs ≡ x ∷ drop (suc n) xs
    by [] n x e = absurd (cc e)
    by (y ∷ xs) zero x e = ap (λ z. z ∷ xs) (the_first e)
    by (y ∷ xs) (suc n) x e = by xs n x e

-- one more thread was followed
pub back_next : (p : ByteProgram) (place : Place) (threads old new : List Thread) (q : ℕ × ℕ) (n : ℕ) (ids ids' : List ℕ) (before met after : Option ℕ)
    → IsSomeAnd (slice_get threads n) (λ t. q ≡ t.1) → ((start : ℕ) → FollowsAll p place start (q ∷ []) [] ids ids' old new (end_met_by start met)) → ((start : ℕ) → IsBetter start before met after)
    → BackWay p place (nodes_of threads) ids (drop n (nodes_of threads)) old before → BackWay p place (nodes_of threads) ids' (drop (n + 1) (nodes_of threads)) new after
back_next p place threads old new q n ids ids' before met after here follows better way = λ m i start moves.
    let nodes = nodes_of threads in
    let rest = started_at start (drop (n + 1) nodes) in
    let (es, best, on) = way m i start moves in
    let one = follows start in
    let first : started_at start (drop n nodes) ≡ (start, q) ∷ rest = ap (started_at start) (first_left nodes n q (node_here threads n q here)) in
    let more = one.goes_on m i (started_at start nodes) rest (started_at start (nodes_of old)) es moves (subst (λ xs. AreUnderWayAll m i (started_at start nodes) (widths_of p) ids xs (started_at start (nodes_of old)) es) first on) in
    let out : started_at start (nodes_of new) ≡ started_at start (nodes_of old) ++ started_at start one.reached = ap (started_at start) one.put ∙ started_append start (nodes_of old) one.reached in (
      es ++ ended_from start one.ended,
      better start es (ended_from start one.ended) best one.best,
      subst (λ xs. AreUnderWayAll m i (started_at start nodes) (widths_of p) ids' rest xs (es ++ ended_from start one.ended)) (sym out) more,
    )

length_nodes : (threads : List Thread) → length (nodes_of threads) ≡ length threads
length_nodes [] = refl
length_nodes (t ∷ threads) = ap suc (length_nodes threads)

-- at the end the step is made
pub back_over : (p : ByteProgram) (place : Place) (threads new : List Thread) (n : ℕ) (ids : List ℕ) (best : Option ℕ) → length threads ≤ n → BackWay p place (nodes_of threads) ids (drop n (nodes_of threads)) new best
    → (m : Machine (ℕ × ℕ) Notes) (i start : ℕ) → MovesSo m i p.states place → IsStepAll m i (started_at start (nodes_of threads)) (started_at start (nodes_of new)) (end_met_by start best)
back_over p place threads new n ids best past way m i start moves =
    let nodes = nodes_of threads in
    let (es, is, on) = way m i start moves in
    let none : started_at start (drop n nodes) ≡ [] = ap (started_at start) (drop_of_length-le nodes (omega (arith, past, length_nodes threads))) in
    all_over m i (widths_of p) ids (started_at start nodes) (started_at start (nodes_of new)) es (end_met_by start best) is
    (subst (λ xs. AreUnderWayAll m i (started_at start nodes) (widths_of p) ids xs (started_at start (nodes_of new)) es) none on)
