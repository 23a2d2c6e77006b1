-- The moves of a program's nodes, whatever the offset.
use Rattle.std.proofs.Common.{◌≡◌, ℕ, zero, suc, ◌+◌, ◌⊎◌, Bool, true, false, List, [], ◌∷◌, map, Option, Some, None, slice_get, refl, sym, ap, subst, ◌∙◌, inl, inr}
use Rattle.rx_program.specs.declared.states.State.{State}
use Rattle.rx_program.specs.declared.states.State.TheVariants as state
use Rattle.rx_program.specs.Code.{place_of}
use Rattle.rx_program.specs.Programs.{ByteProgram}
use Rattle.rx_utf8.specs.Automata.{step_of}
use Rattle.rx_walks.specs.Machines.{Machine, Move, ends, goes, reads}
use Rattle.rx_walks.specs.Paths.{Path, at_end, by_edge, by_read}
use Rattle.rx_walks.specs.Programs.{only_if}
use Rattle.rx_walks.specs.Bytes.{read_on}
use Rattle.rx_steps.specs.declared.place.Place.{Place}
use Rattle.rx_steps.specs.Nodes.{MayStand, IsNodeIn, widths_of, index_from}
use Rattle.rx_steps.specs.Threads.{Slots, first_node}
use Rattle.rx_steps.specs.Lists.{MakesMoves, move_at, read_next, is_among}
use Rattle.rx_lists.specs.Leading.{Moves}
use Rattle.rx_steps.proofs.IndexLaws.{behind}
use Rattle.rx_steps.proofs.FollowLaws.{behind_reads}

-- the first node of a state is one
pub first_may : (o : Option State) → MayStand o 0
first_may None = refl
first_may (Some (state.Ranges automaton next)) = tt
first_may (Some (state.Look asked next)) = refl
first_may (Some (state.Empty next)) = refl
first_may (Some (state.BinaryUnion first second)) = refl
first_may (Some (state.Union alternates)) = refl
first_may (Some (state.Capture slot next)) = refl
first_may (Some (state.Match pattern)) = refl

-- the nodes to which a move leads
abbrev pub Stays : ℕ → ℕ × ℕ → State → Move (ℕ × ℕ) → Type 0
Stays i q x (ends k) = Unit {0}
Stays i q x (goes rs) = (k : ℕ) (r : ℕ × ℕ) → slice_get rs k ≡ Some r → r.1 ≡ 0
Stays i q x (reads r j) = (j ≡ i + 1) × ((r.1 ≡ 0) ⊎ ((r.0 ≡ q.0) × ((s : ℕ) → MayStand (Some x) s)))

nowhere : (i : ℕ) (q : ℕ × ℕ) (x : State) → Stays i q x (goes [])
nowhere i q x k r e = absurd (cc e)

one_edge : (i : ℕ) (q : ℕ × ℕ) (x : State) (next : ℕ) → Stays i q x (goes (first_node next ∷ []))
one_edge i q x next zero r e = ap (λ z. z.1) (the_node e)
  where
    the_node : Some (first_node next) ≡ Some r → r ≡ first_node next
    the_node f = cc f
one_edge i q x next (suc k) r e = absurd (cc e)

all_first : (rs : List ℕ) (k : ℕ) (r : ℕ × ℕ) → slice_get (map first_node rs) k ≡ Some r → r.1 ≡ 0
all_first [] k r e = absurd (cc e)
all_first (x ∷ rs) zero r e = ap (λ z. z.1) (the_node e)
  where
    the_node : Some (first_node x) ≡ Some r → r ≡ first_node x
    the_node f = cc f
all_first (x ∷ rs) (suc k) r e = all_first rs k r e

read_stays : (i : ℕ) (q : ℕ × ℕ) (x : State) (next : ℕ) (o : Option (Option ℕ)) → ((s : ℕ) → MayStand (Some x) s) → Stays i q x (read_on q.0 next i o)
read_stays i q x next None any = nowhere i q x
read_stays i q x next (Some None) any = (refl, inl refl)
read_stays i q x next (Some (Some s)) any = (refl, inr (refl, any))

byte_stays : (i : ℕ) (q : ℕ × ℕ) (x : State) (next : ℕ) (step : ℕ → ℕ → Option (Option ℕ)) (o : Option ℕ) → ((s : ℕ) → MayStand (Some x) s) → Stays i q x (read_next step q.0 next q.1 i o)
byte_stays i q x next step None any = nowhere i q x
byte_stays i q x next step (Some b) any = read_stays i q x next (step q.1 b) any

look_stays : (i : ℕ) (q : ℕ × ℕ) (x : State) (next : ℕ) (b : Bool) → Stays i q x (only_if b (goes (first_node next ∷ [])))
look_stays i q x next true = one_edge i q x next
look_stays i q x next false = nowhere i q x

pub stays_at : (place : Place) (i : ℕ) (q : ℕ × ℕ) (x : State) → Stays i q x (move_at place i q x)
stays_at place i q (state.Ranges automaton next) = byte_stays i q (state.Ranges automaton next) next (step_of automaton.value) place.byte (λ s. tt)
stays_at place i q (state.Look asked next) = look_stays i q (state.Look asked next) next (is_among place.looks (place_of asked))
stays_at place i q (state.Empty next) = one_edge i q (state.Empty next) next
stays_at place i q (state.BinaryUnion first second) = all_first (first ∷ second ∷ [])
stays_at place i q (state.Union alternates) = all_first alternates.items
stays_at place i q (state.Capture slot next) = one_edge i q (state.Capture slot next) next
stays_at place i q (state.Match pattern) = tt

-- ---- in a machine that makes a program's moves

pub moves_of : {m : Machine (ℕ × ℕ) Slots} {i : ℕ} {states : List State} {place : Place} → MakesMoves m i states place → Moves m i states place
moves_of makes = record { at_state = makes.at_state; elsewhere = makes.elsewhere }

module _ (p : ByteProgram) (place : Place) (m : Machine (ℕ × ℕ) Slots) (i : ℕ) (moves : Moves m i p.states place) where
  first_is_node : (r : ℕ × ℕ) → r.1 ≡ 0 → IsNodeIn p.states r
  first_is_node r e = subst (λ s. MayStand (slice_get p.states r.0) s) (sym e) (first_may (slice_get p.states r.0))

  stays_so : (q : ℕ × ℕ) (o : Option State) (move : Move (ℕ × ℕ)) → slice_get p.states q.0 ≡ o → m.move i q ≡ move → ((x : State) × (o ≡ Some x) × Stays i q x move) ⊎ (move ≡ goes [])
  stays_so q None move at is = inr (sym is ∙ moves.elsewhere q at)
  stays_so q (Some x) move at is = inl (x, refl, subst (λ y. Stays i q x y) (sym (moves.at_state q x at) ∙ is) (stays_at place i q x))

  pub edge_stays : (q r : ℕ × ℕ) (rs : List (ℕ × ℕ)) (k : ℕ) → m.move i q ≡ goes rs → slice_get rs k ≡ Some r → IsNodeIn p.states r
  edge_stays q r rs k is at = elim (stays_so q (slice_get p.states q.0) (goes rs) refl is) [
    | inl one ↦ first_is_node r (one.2 k r at)
    | inr none ↦ absurd (no_edge (the_edges none) at)
  ]
    where
      the_edges : goes rs ≡ goes [] → rs ≡ []
      the_edges e = cc e

      no_edge : rs ≡ [] → slice_get rs k ≡ Some r → ⊥
      no_edge e at' = let f : slice_get [] k ≡ Some r = ap (λ xs. slice_get xs k) (sym e) ∙ at' in cc f

  pub read_stays_in : (j : ℕ) (q r : ℕ × ℕ) → IsNodeIn p.states q → m.move i q ≡ reads r j → IsNodeIn p.states r × (j ≡ i + 1)
  read_stays_in j q r may is = elim (stays_so q (slice_get p.states q.0) (reads r j) refl is) [
    | inl one ↦ (
      elim one.2.1 [
        | inl e ↦ first_is_node r e
        | inr both ↦ subst (λ n. MayStand (slice_get p.states n) r.1) (sym both.0) (subst (λ o. MayStand o r.1) (sym one.1) (both.1 r.1))
      ],
      one.2.0,
    )
    | inr none ↦ absurd (cc none)
  ]

  -- a node with a move has an index, and a state
  pub node_index : (q : ℕ × ℕ) → IsNodeIn p.states q → (m.move i q ≡ goes [] → ⊥) → (k : ℕ) × (x : State) × (index_from 0 (widths_of p) q.0 q.1 ≡ Some k) × (slice_get p.states q.0 ≡ Some x)
  node_index q may some = by_state (slice_get p.states q.0) refl
    where
      by_index : (x : State) → slice_get p.states q.0 ≡ Some x → (o : Option ℕ) → index_from 0 (widths_of p) q.0 q.1 ≡ o → (k : ℕ) × (x : State) × (index_from 0 (widths_of p) q.0 q.1 ≡ Some k) × (slice_get p.states q.0 ≡ Some x)
      by_index x at (Some k) is = (k, x, is, at)
      by_index x at None is = absurd (some (moves.at_state q x at ∙ behind_reads place i q x (behind 0 p.states q.0 q.1 x at is) (subst (λ o. MayStand o q.1) at may)))

      by_state : (o : Option State) → slice_get p.states q.0 ≡ o → (k : ℕ) × (x : State) × (index_from 0 (widths_of p) q.0 q.1 ≡ Some k) × (slice_get p.states q.0 ≡ Some x)
      by_state None at = absurd (some (moves.elsewhere q at))
      by_state (Some x) at = by_index x at (index_from 0 (widths_of p) q.0 q.1) refl

-- an edge is a move
pub edge_does : (rs : List (ℕ × ℕ)) (k : ℕ) (r : ℕ × ℕ) → slice_get rs k ≡ Some r → goes rs ≡ goes [] → ⊥
edge_does rs k r at e = no_edge (same e)
  where
    same : goes rs ≡ goes [] → rs ≡ []
    same f = cc f

    no_edge : rs ≡ [] → ⊥
    no_edge f = let g : slice_get [] k ≡ Some r = ap (λ xs. slice_get xs k) (sym f) ∙ at in cc g

-- and so is the start of a path
pub path_does : {N : Type 0} {m : Machine (ℕ × ℕ) N} {i p e : ℕ} {q : ℕ × ℕ} → Path m q i p e → m.move i q ≡ goes [] → ⊥
path_does (at_end is) f = absurd (cc (sym is ∙ f))
path_does (by_edge rs r k is at path) f = edge_does rs k r at (sym is ∙ f)
path_does (by_read r j is path) f = absurd (cc (sym is ∙ f))
