-- Epsilon transitions, by the states to which they lead.
use Rattle.std.proofs.Common.{◌≡◌, ℕ, zero, suc, ◌<◌, ◌⊎◌, Bool, true, false, List, [], ◌∷◌, ◌++◌, length, map, set, get_or, Option, Some, None, Vec, slice_get, Contains, refl, sym, ap, subst, ◌∙◌, arith, inl, inr}
use Rattle.std.proofs.lemmas.Bool.{cases_eq}
use Rattle.std.proofs.lemmas.List.Elements.{Contains-append_left, Contains-append_right}
use Rattle.rx_program.specs.declared.states.State.{State}
use Rattle.rx_program.specs.declared.states.State.TheVariants as state
use Rattle.rx_program.specs.Code.{place_of}
use Rattle.rx_utf8.specs.Automata.{step_of}
use Rattle.rx_walks.specs.Machines.{goes}
use Rattle.rx_walks.specs.Programs.{only_if}
use Rattle.rx_walks.specs.Bytes.{read_on}
use Rattle.rx_steps.specs.declared.place.Place.{Place}
use Rattle.rx_steps.specs.Nodes.{width_of}
use Rattle.rx_steps.specs.Threads.{first_node}
use Rattle.rx_steps.specs.Lists.{move_at, read_next, is_among}
use Rattle.rx_lists.specs.Arrivals.{edges_of, nodes_in, IsInList, AreTold}
use Rattle.rx_lists.specs.Leading.{GoesTo}
use Rattle.rx_lists.proofs.FillLaws.{edge_of}

-- ---- from where and to where an epsilon transition leads

read_goes : (q next i : ℕ) (o : Option (Option ℕ)) (r : ℕ × ℕ) → GoesTo (read_on q next i o) r → ⊥
read_goes q next i None r (n, e) = absurd (cc e)
read_goes q next i (Some None) r to = to
read_goes q next i (Some (Some s)) r to = to

byte_goes : (step : ℕ → ℕ → Option (Option ℕ)) (q next s i : ℕ) (o : Option ℕ) (r : ℕ × ℕ) → GoesTo (read_next step q next s i o) r → ⊥
byte_goes step q next s i None r (n, e) = absurd (cc e)
byte_goes step q next s i (Some b) r to = read_goes q next i (step s b) r to

goes_in : (xs : List ℕ) (r : ℕ × ℕ) → GoesTo (goes (map first_node xs)) r → (r.1 ≡ 0) × (k : ℕ) × (slice_get xs k ≡ Some r.0)
goes_in xs r (n, e) =
    let edge = edge_of xs n r e in
    (ap (λ z. z.1) (sym edge.2), n, edge.1 ∙ ap (λ z. Some z.0) edge.2)

look_goes : (b : Bool) (next : ℕ) (r : ℕ × ℕ) → GoesTo (only_if b (goes (first_node next ∷ []))) r → (r.1 ≡ 0) × (k : ℕ) × (slice_get (next ∷ []) k ≡ Some r.0)
look_goes true next r to = goes_in (next ∷ []) r to
look_goes false next r (n, e) = absurd (cc e)

alone : (s : ℕ) → s < 1 → s ≡ 0
alone s less = omega (arith, less)

with_first : (xs : List ℕ) (r q : ℕ × ℕ) → q.1 < 1 → (r.1 ≡ 0) × (k : ℕ) × (slice_get xs k ≡ Some r.0) → (q.1 ≡ 0) × (r.1 ≡ 0) × (k : ℕ) × (slice_get xs k ≡ Some r.0)
with_first xs r q less (e, k, get) = (alone q.1 less, e, k, get)

pub edge_in : (place : Place) (i : ℕ) (q : ℕ × ℕ) (x : State) (r : ℕ × ℕ) → GoesTo (move_at place i q x) r → q.1 < width_of x → (q.1 ≡ 0) × (r.1 ≡ 0) × (k : ℕ) × (slice_get (edges_of x) k ≡ Some r.0)
edge_in place i q (state.Ranges automaton next) r to less = absurd (byte_goes (step_of automaton.value) q.0 next q.1 i place.byte r to)
edge_in place i q (state.Look asked next) r to less = with_first (next ∷ []) r q less (look_goes (is_among place.looks (place_of asked)) next r to)
edge_in place i q (state.Empty next) r to less = with_first (next ∷ []) r q less (goes_in (next ∷ []) r to)
edge_in place i q (state.BinaryUnion first second) r to less = with_first (first ∷ second ∷ []) r q less (goes_in (first ∷ second ∷ []) r to)
edge_in place i q (state.Union alternates) r to less = with_first alternates.items r q less (goes_in alternates.items r to)
edge_in place i q (state.Capture slot next) r to less = with_first (next ∷ []) r q less (goes_in (next ∷ []) r to)
edge_in place i q (state.Match pattern) r to less = absurd to

-- ---- lists to which a node is added

pub told_part : (from : ℕ × ℕ) (ons ons' : List ℕ) (old new : List (List (ℕ × ℕ))) → ons ≡ ons' → AreTold from ons old new → AreTold from ons' old new
told_part from ons ons' old new same told = subst (λ xs. AreTold from xs old new) same told

got_pushed : (xs : List ℕ) (y k z : ℕ) → slice_get (xs ++ y ∷ []) k ≡ Some z → (slice_get xs k ≡ Some z) ⊎ (y ≡ z)
got_pushed [] y zero z e = inr (same e)
  where
    same : Some y ≡ Some z → y ≡ z
    same f = cc f
got_pushed [] y (suc k) z e = absurd (cc e)
got_pushed (x ∷ xs) y zero z e = inl e
got_pushed (x ∷ xs) y (suc k) z e = got_pushed xs y k z e

pub told_more : (from : ℕ × ℕ) (ons : List ℕ) (on : ℕ) (old mid new : List (List (ℕ × ℕ))) → AreTold from ons old mid → AreTold from (on ∷ []) mid new → AreTold from (ons ++ on ∷ []) old new
told_more from ons on old mid new one two = record {
  count = two.count ∙ one.count;
  others = λ on' q told. two.others on' q (one.others on' q told);
  there = λ k on' e below. elim (got_pushed ons on k on' e) [
    | inl before ↦ two.others on' from (one.there k on' before below)
    | inr same ↦ subst (λ j. IsInList new j from) same (two.there 0 on refl (subst (λ j. j < length mid) (sym same) (omega (arith, below, one.count))))
  ];
}

set_length : {Z : Type 0} (lists : List (Vec (ℕ × ℕ) Z)) (at : ℕ) (list : Vec (ℕ × ℕ) Z) → length (nodes_in (set lists at list)) ≡ length (nodes_in lists)
set_length [] at list = refl
set_length (x ∷ lists) zero list = refl
set_length (x ∷ lists) (suc at) list = ap suc (set_length lists at list)

set_here : {Z : Type 0} (lists : List (Vec (ℕ × ℕ) Z)) (at : ℕ) (list : Vec (ℕ × ℕ) Z) → at < length lists → slice_get (nodes_in (set lists at list)) at ≡ Some list.items
set_here [] at list within = absurd (omega (arith, within))
set_here (x ∷ lists) zero list within = refl
set_here (x ∷ lists) (suc at) list within = set_here lists at list (omega (arith, within))

set_other : {Z : Type 0} (lists : List (Vec (ℕ × ℕ) Z)) (at on : ℕ) (list : Vec (ℕ × ℕ) Z) → (on ≡ at → ⊥) → slice_get (nodes_in (set lists at list)) on ≡ slice_get (nodes_in lists) on
set_other [] at on list other = refl
set_other (x ∷ lists) zero zero list other = absurd (other refl)
set_other (x ∷ lists) zero (suc on) list other = refl
set_other (x ∷ lists) (suc at) zero list other = refl
set_other (x ∷ lists) (suc at) (suc on) list other = set_other lists at on list (λ e. other (ap suc e))

was_here : {Z : Type 0} (lists : List (Vec (ℕ × ℕ) Z)) (at : ℕ) (d : Vec (ℕ × ℕ) Z) → at < length lists → slice_get (nodes_in lists) at ≡ Some (get_or lists at d).items
was_here [] at d within = absurd (omega (arith, within))
was_here (x ∷ lists) zero d within = refl
was_here (x ∷ lists) (suc at) d within = was_here lists at d (omega (arith, within))

pub told_put : {Z : Type 0} (lists : List (Vec (ℕ × ℕ) Z)) (at : ℕ) (from : ℕ × ℕ) (old new : Vec (ℕ × ℕ) Z) → at < length lists → old ≡ get_or lists at old → new.items ≡ old.items ++ from ∷ [] → AreTold from (at ∷ []) (nodes_in lists) (nodes_in (set lists at new))
told_put lists at from old new within was more = record {
  count = set_length lists at new;
  others = λ on q told. elim (cases_eq on at) [
    | inl same ↦
        let before : slice_get (nodes_in lists) on ≡ Some old.items = ap (λ j. slice_get (nodes_in lists) j) same ∙ was_here lists at old within ∙ ap (λ v. Some v.items) (sym was) in
        let list : told.0 ≡ old.items = the_list (sym told.1 ∙ before) in
        (new.items, ap (λ j. slice_get (nodes_in (set lists at new)) j) same ∙ set_here lists at new within, subst (λ xs. Contains xs q) (sym more) (Contains-append_left old.items (from ∷ []) q (subst (λ xs. Contains xs q) list told.2)))
    | inr other ↦ (told.0, set_other lists at on new other ∙ told.1, told.2)
  ];
  there = λ k on e below. subst (λ j. IsInList (nodes_in (set lists at new)) j from) (the_on k on e)
      (new.items, set_here lists at new within, subst (λ xs. Contains xs from) (sym more) (Contains-append_right old.items (from ∷ []) from (0, omega arith, refl)));
}
  where
    the_list : {xs ys : List (ℕ × ℕ)} → Some xs ≡ Some ys → xs ≡ ys
    the_list e = cc e

    the_on : (k on : ℕ) → slice_get (at ∷ []) k ≡ Some on → at ≡ on
    the_on zero on e = same e
      where
        same : Some at ≡ Some on → at ≡ on
        same f = cc f
    the_on (suc k) on e = absurd (cc e)

-- the lists have the transitions of the states so far
abbrev pub TellSoFar : List State → ℕ → List (List (ℕ × ℕ)) → Type 0
TellSoFar states number lists = (q k on : ℕ) (x : State) → q < number → slice_get states q ≡ Some x → slice_get (edges_of x) k ≡ Some on → on < length states → IsInList lists on (q, 0)
