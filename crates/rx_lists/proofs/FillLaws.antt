-- A set that is filled with the leading nodes at an offset.
use Rattle.std.proofs.Common.{◌≡◌, ℕ, zero, suc, ◌↔◌, Bool, IsTrue, List, [], ◌∷◌, ◌++◌, map, Some, option_map, slice_get, Contains, refl, sym, ap, subst, ◌∙◌, arith, inl, inr}
use Rattle.std.proofs.lemmas.List.Elements.{Contains-push_cases}
use Rattle.std.proofs.lemmas.Option.{slice_get-map}
use Rattle.rx_program.specs.declared.states.State.{State}
use Rattle.rx_program.specs.Programs.{ByteProgram}
use Rattle.rx_walks.specs.Machines.{Machine, Move, ends, goes, reads}
use Rattle.rx_walks.specs.Leading.{LeadsBy, match_ends, edge_leads, read_leads}
use Rattle.rx_steps.specs.declared.place.Place.{Place}
use Rattle.rx_steps.specs.Nodes.{IsNodeIn, widths_of, index_from}
use Rattle.rx_steps.specs.Threads.{Slots, first_node}
use Rattle.rx_steps.specs.Lists.{move_at}
use Rattle.rx_lists.specs.Leading.{Moves, LeadsOn, AreFilled, AreSound, AreClosed}
use Rattle.rx_lists.proofs.NodeLaws.{Stays, stays_at, edge_stays, node_index, edge_does}

abbrev pub Nodes : Type 0
Nodes = List (ℕ × ℕ)

-- a node that leads on leads by those that do
led_by : (m : Machine (ℕ × ℕ) Slots) (i : ℕ) (here beyond : Nodes) (q : ℕ × ℕ) (x : State) (move : Move (ℕ × ℕ)) → m.move i q ≡ move → Stays i q x move → ((r : ℕ × ℕ) → Contains here r → LeadsBy m i (λ y. Contains beyond y) r)
    → LeadsOn here beyond move → LeadsBy m i (λ y. Contains beyond y) q
led_by m i here beyond q x (ends k) is stays sound on = match_ends is
led_by m i here beyond q x (goes rs) is stays sound (k, r, at, c) = edge_leads rs r k is at (sound r c)
led_by m i here beyond q x (reads r j) is stays sound on = read_leads r (is ∙ ap (λ n. reads r n) stays.0) on

pub sound_none : (p : ByteProgram) (place : Place) (beyond : Nodes) → AreSound p place beyond []
sound_none p place beyond m i moves q (k, within, is) = absurd (omega (arith, within))

pub sound_more : (p : ByteProgram) (place : Place) (beyond old new : Nodes) (q : ℕ × ℕ) (x : State) → new ≡ old ++ q ∷ [] → slice_get p.states q.0 ≡ Some x → ((i : ℕ) → LeadsOn old beyond (move_at place i q x))
    → AreSound p place beyond old → AreSound p place beyond new
sound_more p place beyond old new q x more at on sound m i moves r c = elim (Contains-push_cases old q r (subst (λ xs. Contains xs r) more c)) [
  | inl c' ↦ sound m i moves r c'
  | inr e ↦ subst (λ y. LeadsBy m i (λ z. Contains beyond z) y) e
      (led_by m i old beyond q x (move_at place i q x) (moves.at_state q x at) (stays_at place i q x) (sound m i moves) (on i))
]

-- if no node that leads on is left out, all leading nodes are there
all_there : (p : ByteProgram) (place : Place) (beyond here : Nodes) (those : ℕ × ℕ → Type 0) → AreClosed p place beyond here those
    → ((q : ℕ × ℕ) (k : ℕ) → index_from 0 (widths_of p) q.0 q.1 ≡ Some k → those q) → (m : Machine (ℕ × ℕ) Slots) (i : ℕ) → Moves m i p.states place
    → {q : ℕ × ℕ} → IsNodeIn p.states q → LeadsBy m i (λ r. Contains beyond r) q → Contains here q
all_there p place beyond here those closed all m i moves {q = q} may (match_ends {p = k} is) =
    let at = node_index p place m i moves q may (λ e. absurd (cc (sym is ∙ e))) in
    closed q (all q at.0 at.2) at.0 i at.1 at.2 at.3 (subst (λ y. LeadsOn here beyond y) (sym is ∙ moves.at_state q at.1 at.3) tt)
all_there p place beyond here those closed all m i moves {q = q} may (edge_leads rs r k is get by) =
    let at = node_index p place m i moves q may (λ e. edge_does rs k r get (sym is ∙ e)) in
    closed q (all q at.0 at.2) at.0 i at.1 at.2 at.3 (subst (λ y. LeadsOn here beyond y) (sym is ∙ moves.at_state q at.1 at.3)
    (k, r, get, all_there p place beyond here those closed all m i moves (edge_stays p place m i moves q r rs k is get) by))
all_there p place beyond here those closed all m i moves {q = q} may (read_leads r is c) =
    let at = node_index p place m i moves q may (λ e. absurd (cc (sym is ∙ e))) in
    closed q (all q at.0 at.2) at.0 i at.1 at.2 at.3 (subst (λ y. LeadsOn here beyond y) (sym is ∙ moves.at_state q at.1 at.3) c)

pub are_filled : (p : ByteProgram) (place : Place) (beyond here : Nodes) (those : ℕ × ℕ → Type 0) → AreSound p place beyond here → AreClosed p place beyond here those
    → ((q : ℕ × ℕ) (k : ℕ) → index_from 0 (widths_of p) q.0 q.1 ≡ Some k → those q) → AreFilled p place beyond here
are_filled p place beyond here those sound closed all = record {
  leads = sound;
  all = λ m i moves q may by. all_there p place beyond here those closed all m i moves may by;
}

-- ---- which edges lead on

pub two_on : (here beyond : Nodes) (a b : ℕ) (told : Bool) → (Contains here (a, 0) → ⊥) → (IsTrue told ↔ Contains here (b, 0)) → IsTrue told ↔ LeadsOn here beyond (goes (first_node a ∷ first_node b ∷ []))
two_on here beyond a b told never iff = ((λ y. (suc zero, first_node b, refl, iff.0 y)), (λ on. by_number on.0 on.1 on.2 on.3))
  where
    same : (x y : ℕ × ℕ) → Some x ≡ Some y → x ≡ y
    same x y e = cc e

    by_number : (k : ℕ) (r : ℕ × ℕ) → slice_get (first_node a ∷ first_node b ∷ []) k ≡ Some r → Contains here r → IsTrue told
    by_number zero r e c = absurd (never (subst (λ z. Contains here z) (sym (same (first_node a) r e)) c))
    by_number (suc zero) r e c = iff.1 (subst (λ z. Contains here z) (sym (same (first_node b) r e)) c)
    by_number (suc (suc k)) r e c = absurd (cc e)

pub edge_of : (xs : List ℕ) (k : ℕ) (r : ℕ × ℕ) → slice_get (map first_node xs) k ≡ Some r → (q : ℕ) × (slice_get xs k ≡ Some q) × (first_node q ≡ r)
edge_of [] k r e = absurd (cc e)
edge_of (x ∷ xs) zero r e = (x, refl, same e)
  where
    same : Some (first_node x) ≡ Some r → first_node x ≡ r
    same f = cc f
edge_of (x ∷ xs) (suc k) r e = edge_of xs k r e

pub some_on : (here beyond : Nodes) (xs : List ℕ) (told : Bool) → (IsTrue told ↔ ((k : ℕ) × (q : ℕ) × (slice_get xs k ≡ Some q) × Contains here (q, 0))) → IsTrue told ↔ LeadsOn here beyond (goes (map first_node xs))
some_on here beyond xs told iff = (
  (λ y. let on = iff.0 y in (on.0, first_node on.1, slice_get-map first_node xs on.0 ∙ ap (λ o. option_map first_node o) on.2, on.3)),
  (λ on. let edge = edge_of xs on.0 on.1 on.2 in iff.1 (on.0, edge.0, edge.1, subst (λ z. Contains here z) (sym edge.2) on.3)),
)
