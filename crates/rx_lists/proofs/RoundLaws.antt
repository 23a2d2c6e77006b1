-- Rounds over the nodes of a program.
use Rattle.std.proofs.Common.{◌≡◌, ℕ, zero, suc, ◌+◌, ◌<◌, ◌≤◌, Bool, true, false, nat_lt, cond, List, [], ◌∷◌, ◌++◌, length, take, map, get_or, Some, None, slice_get, Contains, refl, sym, ap, subst, ◌∙◌, arith, inl, inr}
use Rattle.std.proofs.lemmas.Bool.Decides.{nat_tests}
use Rattle.std.proofs.lemmas.Option.{slice_get-get_or, slice_get_within}
use Rattle.std.proofs.lemmas.List.Elements.{Contains-push_cases}
use Rattle.rx_program.specs.declared.states.State.{State}
use Rattle.rx_program.specs.Programs.{ByteProgram}
use Rattle.rx_walks.specs.Machines.{Move, ends, goes, reads}
use Rattle.rx_steps.specs.declared.place.Place.{Place}
use Rattle.rx_steps.specs.Nodes.{widths_of, width_of, index_from, end_from}
use Rattle.rx_steps.specs.Lists.{move_at}
use Rattle.rx_lists.specs.Arrivals.{IsInList, TellEdges}
use Rattle.rx_lists.specs.Sets.{AreAllNodes, IsAdded}
use Rattle.rx_lists.specs.Leading.{LeadsOn, GoesTo, IsLookedAt, IsRound, AreSound, AreClosed, AreReal, AreFilled}
use Rattle.rx_lists.proofs.ArrivalLaws.{edge_in}
use Rattle.rx_lists.proofs.SetLaws.{there_at, with_one, last_one}
use Rattle.rx_lists.proofs.FillLaws.{Nodes, sound_more, are_filled}

pub marked_by : (p : ByteProgram) (place : Place) (q : ℕ × ℕ) (beyond old new : Nodes) (widths : List ℕ) (x : State) (b : Bool) → widths ≡ widths_of p → slice_get p.states q.0 ≡ Some x → ((i : ℕ) → LeadsOn old beyond (move_at place i q x))
    → IsAdded widths old q b new → IsLookedAt p place q beyond old new b
marked_by p place q beyond old new widths x true same at on added = (added.0, subst (λ w. length new ≤ end_from 0 w) same added.1, (x, at, on))
marked_by p place q beyond old new widths x false same at on added = (added.0, λ k i y idx at' on'. added.1 k (subst (λ w. index_from 0 w q.0 q.1 ≡ Some k) (sym same) idx))

-- what leads on because of some nodes here does so because of more
leads_more : (old new beyond : Nodes) (move : Move (ℕ × ℕ)) → ((q : ℕ × ℕ) → Contains old q → Contains new q) → LeadsOn old beyond move → LeadsOn new beyond move
leads_more old new beyond (ends k) more on = tt
leads_more old new beyond (goes rs) more (n, r, get, c) = (n, r, get, more r c)
leads_more old new beyond (reads r j) more on = on

abbrev IsStill : Nodes → Nodes → Type 0
IsStill old new = (k : ℕ) (q : ℕ × ℕ) → slice_get old k ≡ Some q → slice_get new k ≡ Some q

got_in : (xs : Nodes) (q : ℕ × ℕ) (c : Contains xs q) → slice_get xs c.0 ≡ Some q
got_in xs q c = slice_get-get_or xs c.0 q c.1 ∙ ap (λ y. Some y) c.2

pub held : (old new : Nodes) → IsStill old new → (q : ℕ × ℕ) → Contains old q → Contains new q
held old new kept q c = there_at new c.0 q (kept c.0 q (got_in old q c))

got_before : (xs ys : Nodes) (k : ℕ) (q : ℕ × ℕ) → slice_get xs k ≡ Some q → slice_get (xs ++ ys) k ≡ Some q
got_before [] ys k q e = absurd (cc e)
got_before (x ∷ xs) ys zero q e = e
got_before (x ∷ xs) ys (suc k) q e = got_before xs ys k q e

pub round_none : (p : ByteProgram) (place : Place) (those : ℕ × ℕ → Type 0) (beyond old : Nodes) → ((q : ℕ × ℕ) → those q → ⊥) → IsRound p place those beyond old old
round_none p place those beyond old none = record {
  sound = λ sound. sound;
  kept = λ k q e. e;
  reached = λ q c. absurd (none q c);
  room = λ room. room;
  real = λ real. real;
}

pub round_part : (p : ByteProgram) (place : Place) (those others : ℕ × ℕ → Type 0) (beyond old new : Nodes) → ((q : ℕ × ℕ) → others q → those q) → IsRound p place those beyond old new → IsRound p place others beyond old new
round_part p place those others beyond old new part round = record {
  sound = round.sound;
  kept = round.kept;
  reached = λ q is. round.reached q (part q is);
  room = round.room;
  real = round.real;
}

pub round_next : (p : ByteProgram) (place : Place) (done done' beyond old mid new : Nodes) (q : ℕ × ℕ) (b : Bool) → done' ≡ done ++ q ∷ [] → IsRound p place (λ r. Contains done r) beyond old mid → IsLookedAt p place q beyond mid new b
    → IsRound p place (λ r. Contains done' r) beyond old new
round_next p place done done' beyond old mid new q true more round marked = record {
  sound = λ sound. sound_more p place beyond mid new q marked.2.0 marked.0 marked.2.1 marked.2.2 (round.sound sound);
  kept = λ k r e. subst (λ xs. slice_get xs k ≡ Some r) (sym marked.0) (got_before mid (q ∷ []) k r (round.kept k r e));
  reached = λ r c k i x idx at on. elim (Contains-push_cases done q r (subst (λ xs. Contains xs r) more c)) [
    | inl c' ↦ with_one mid new q r marked.0 (round.reached r c' k i x idx at on)
    | inr e ↦ last_one mid new q r marked.0 e
  ];
  room = λ room. marked.1;
  real = λ real r c. elim (Contains-push_cases mid q r (subst (λ xs. Contains xs r) marked.0 c)) [
    | inl c' ↦ round.real real r c'
    | inr e ↦ subst (λ y. y.0 < length p.states) e (slice_get_within p.states q.0 marked.2.0 marked.2.1)
  ];
}
round_next p place done done' beyond old mid new q false more round marked = subst (λ xs. IsRound p place (λ r. Contains done' r) beyond old xs) (sym marked.0) record {
  sound = round.sound;
  kept = round.kept;
  reached = λ r c k i x idx at on. elim (Contains-push_cases done q r (subst (λ xs. Contains xs r) more c)) [
    | inl c' ↦ round.reached r c' k i x idx at on
    | inr e ↦ subst (λ y. Contains mid y) e (marked.1 k i x (subst (λ y. index_from 0 (widths_of p) y.0 y.1 ≡ Some k) (sym e) idx) (subst (λ y. slice_get p.states y.0 ≡ Some x) (sym e) at)
        (leads_more old mid beyond (move_at place i q x) (held old mid round.kept) (subst (λ y. LeadsOn old beyond (move_at place i y x)) (sym e) on)))
  ];
  room = round.room;
  real = round.real;
}

-- a node with an index is one of its state
at_index : (b : Bool) (j k : ℕ) → cond b (Some j) None ≡ Some k → b ≡ true
at_index true j k e = refl
at_index false j k e = absurd (cc e)

below : (s n : ℕ) → nat_lt s n ≡ true → s < n
below s n e = grind (arith, nat_tests)

index_state : (first : ℕ) (states : List State) (q s k : ℕ) → index_from first (map width_of states) q s ≡ Some k → (x : State) × (slice_get states q ≡ Some x) × (s < width_of x)
index_state first [] q s k e = absurd (cc e)
index_state first (y ∷ states) zero s k e = (y, refl, below s (width_of y) (at_index (nat_lt s (width_of y)) (first + s) k e))
index_state first (y ∷ states) (suc q) s k e = index_state (first + width_of y) states q s k e

pub in_order : (p : ByteProgram) (order : Nodes) → AreAllNodes p.states order → (q : ℕ × ℕ) (k : ℕ) → index_from 0 (widths_of p) q.0 q.1 ≡ Some k → Contains order q
in_order p order all q k idx = let at = index_state 0 p.states q.0 q.1 k idx in all q.0 q.1 at.0 at.1 at.2

-- ---- backward along epsilon transitions

-- the nodes with an epsilon transition to a node that lead on were added
abbrev pub IsBack : ByteProgram → Place → List (List (ℕ × ℕ)) → ℕ × ℕ → Nodes → Type 0
IsBack p place lists r here = (q : ℕ × ℕ) → (r.1 ≡ 0) × IsInList lists r.0 q → (k i : ℕ) (x : State) → index_from 0 (widths_of p) q.0 q.1 ≡ Some k → slice_get p.states q.0 ≡ Some x
    → GoesTo (move_at place i q x) r → Contains here q

goes_on : (here beyond : Nodes) (move : Move (ℕ × ℕ)) (r : ℕ × ℕ) → GoesTo move r → Contains here r → LeadsOn here beyond move
goes_on here beyond (ends k) r to c = absurd to
goes_on here beyond (goes rs) r to c = (to.0, r, to.1, c)
goes_on here beyond (reads next j) r to c = absurd to

pub back_now : (p : ByteProgram) (place : Place) (lists : List (List (ℕ × ℕ))) (beyond old new : Nodes) (r : ℕ × ℕ) → IsRound p place (λ q. (r.1 ≡ 0) × IsInList lists r.0 q) beyond old new → Contains old r → IsBack p place lists r new
back_now p place lists beyond old new r round c q told k i x idx at to = round.reached q told k i x idx at (goes_on old beyond (move_at place i q x) r to c)

pub back_still : (p : ByteProgram) (place : Place) (lists : List (List (ℕ × ℕ))) (old new : Nodes) (r : ℕ × ℕ) → IsStill old new → IsBack p place lists r old → IsBack p place lists r new
back_still p place lists old new r kept back q told k i x idx at to = held old new kept q (back q told k i x idx at to)

-- a node that far in front was there
pub still_there : (old new : Nodes) (j : ℕ) (r : ℕ × ℕ) → IsStill old new → j < length old → slice_get new j ≡ Some r → slice_get old j ≡ Some r
still_there old new j r kept below e =
    let was : slice_get old j ≡ Some (get_or old j r) = slice_get-get_or old j r below in
    let same : get_or old j r ≡ r = the_node (sym (kept j (get_or old j r) was) ∙ e) in
    was ∙ ap (λ y. Some y) same
  where
    the_node : {y : ℕ × ℕ} → Some y ≡ Some r → y ≡ r
    the_node f = cc f

pub fills : (p : ByteProgram) (place : Place) (lists : List (List (ℕ × ℕ))) (order beyond here : Nodes) → AreAllNodes p.states order → TellEdges p.states (length p.states) lists → AreSound p place beyond here → AreReal p here
    → ((q : ℕ × ℕ) → Contains order q → (k i : ℕ) (x : State) → index_from 0 (widths_of p) q.0 q.1 ≡ Some k → slice_get p.states q.0 ≡ Some x → LeadsOn [] beyond (move_at place i q x) → Contains here q)
    → ((j : ℕ) (r : ℕ × ℕ) → slice_get here j ≡ Some r → IsBack p place lists r here) → AreFilled p place beyond here
fills p place lists order beyond here all tell sound real begun back = are_filled p place beyond here (λ q. Contains order q) sound closed (in_order p order all)
  where
    same_state : {x y : State} → Some x ≡ Some y → x ≡ y
    same_state e = cc e

    by_move : (q : ℕ × ℕ) → Contains order q → (k i : ℕ) (x : State) → index_from 0 (widths_of p) q.0 q.1 ≡ Some k → slice_get p.states q.0 ≡ Some x → (move : Move (ℕ × ℕ)) → move_at place i q x ≡ move → LeadsOn here beyond move → Contains here q
    by_move q c k i x idx at (ends n) is on = begun q c k i x idx at (subst (λ m. LeadsOn [] beyond m) (sym is) tt)
    by_move q c k i x idx at (reads r j) is on = begun q c k i x idx at (subst (λ m. LeadsOn [] beyond m) (sym is) on)
    by_move q c k i x idx at (goes rs) is (n, r, get, there) =
        let state = index_state 0 p.states q.0 q.1 k idx in
        let less : q.1 < width_of x = subst (λ y. q.1 < width_of y) (same_state (sym state.1 ∙ at)) state.2 in
        let to : GoesTo (move_at place i q x) r = subst (λ m. GoesTo m r) (sym is) (n, get) in
        let edge = edge_in place i q x r to less in
        let told : IsInList lists r.0 (q.0, 0) = tell q.0 edge.2 r.0 x at edge.3 (real r there) in
        back there.0 r (got_in here r there) q (edge.1, subst (λ s. IsInList lists r.0 (q.0, s)) (sym edge.0) told) k i x idx at to

    closed : AreClosed p place beyond here (λ q. Contains order q)
    closed q c k i x idx at on = by_move q c k i x idx at (move_at place i q x) refl on

-- ---- the list of nodes that were checked

pub take_one_more : {X : Type 0} (xs : List X) (n : ℕ) (x : X) → slice_get xs n ≡ Some x → take (n + 1) xs ≡ take n xs ++ x ∷ []
take_one_more {X} xs n x at = let more : n + 1 ≡ suc n = omega arith in ap (λ k. take k xs) more ∙ by_suc xs n at
  where
    by_suc : (ys : List X) (k : ℕ) → slice_get ys k ≡ Some x → take (suc k) ys ≡ take k ys ++ x ∷ []
    by_suc [] k e = absurd (cc e)
    by_suc (y ∷ ys) zero e = let same : y ≡ x = cc e in ap (λ z. z ∷ []) same
    by_suc (y ∷ ys) (suc k) e = ap (λ zs. y ∷ zs) (by_suc ys k e)

pub take_whole : {X : Type 0} (xs : List X) (n : ℕ) → length xs ≤ n → take n xs ≡ xs
take_whole [] zero le = refl
take_whole [] (suc n) le = refl
take_whole (x ∷ xs) zero le = absurd (omega (arith, le))
take_whole (x ∷ xs) (suc n) le = ap (λ ys. x ∷ ys) (take_whole xs n (omega (arith, le)))
