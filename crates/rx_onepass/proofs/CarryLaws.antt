-- A step of a thread with empty slots shows the step of any thread at its node, before the same
-- byte: which threads it leaves, and which slots are written.
use Rattle.std.proofs.Common.{◌≡◌, ℕ, zero, suc, ◌+◌, Bool, true, List, [], ◌∷◌, ◌++◌, length, map, Option, Some, None, option_map, slice_get, refl, sym, ap, subst, ◌∙◌, arith}
use Rattle.rx_program.specs.declared.states.State.{State}
use Rattle.rx_program.specs.Programs.{ByteProgram, character_program}
use Rattle.rx_walks.specs.Machines.{Machine, Outcome, ends, goes, reads}
use Rattle.rx_walks.specs.Looks as walks
use Rattle.rx_walks.specs.Programs.{Node, match, pass, note, look, set, Haystack, is_within, left_from, note_at}
use Rattle.rx_walks.specs.Steps.{Steps, done, passed, met, opened, read}
use Rattle.rx_steps.specs.declared.place.Place.{Place}
use Rattle.rx_steps.specs.Threads.{Slots, Thread, note_slot, no_slots}
use Rattle.rx_steps.specs.Lists.{IsPlace, IsNextList, met_at, move_at, slot_machine}
use Rattle.rx_steps.specs.Alike.{AreReadAlike, AreAlike}
use Rattle.rx_steps.proofs.PlaceLaws.{moves_at_place}
use Rattle.rx_steps.proofs.AlikeLaws.{Carried, SlotMachine, move_carried, sample, is_sample}
use Rattle.rx_onepass.specs.declared.noted.Noted.{Noted}
use Rattle.rx_onepass.specs.declared.edges.Way.{Way}
use Rattle.rx_onepass.specs.declared.edges.Edge.{Edge}
use Rattle.rx_onepass.specs.Edges.{marked, note_if, AreNotedBy, AsksNothing, IsEdge, IsLed, StepsAlone, StepsAloneTo, StepsFresh, StepsFreshTo, GoesToNode}
use Rattle.rx_onepass.proofs.MarkLaws.{mark_written, none_marked}

-- ---- moves and notes

note_marked : {L S : Type 0} (i j : ℕ) (o : Option (Node L S)) (marks slots : Slots) → note_at note_slot j o (marked j marks slots) ≡ marked j (note_at note_slot i o marks) slots
note_marked i j None marks slots = refl
note_marked i j (Some (match k)) marks slots = refl
note_marked i j (Some (pass rs)) marks slots = refl
note_marked i j (Some (note slot r)) marks slots = sym (mark_written i j marks slots slot)
note_marked i j (Some (look l r)) marks slots = refl
note_marked i j (Some (set x r)) marks slots = refl

-- both machines make the same moves, and what one writes into marks, the other writes into slots
record GoMarked (m : SlotMachine) (i : ℕ) (m' : SlotMachine) (j : ℕ) (slots : Slots) : Type 0 where
  moves : (q : ℕ × ℕ) → Carried i j (m.move i q) (m'.move j q)
  notes : (q : ℕ × ℕ) (marks : Slots) → m'.note j q (marked j marks slots) ≡ marked j (m.note i q marks) slots

go_marked : (p : ByteProgram) (h h' : Haystack walks.Look) (i j : ℕ) (first second : Place) (slots : Slots) → IsPlace p.states h i first → IsPlace p.states h' j second → AreAlike p first second
    → GoMarked (slot_machine p h) i (slot_machine p h') j slots
go_marked p h h' i j first second slots here there alike = record {
  moves = λ q. by_state q (slice_get p.states q.0) refl;
  notes = λ q marks. note_marked i j (slice_get (character_program p).nodes q.0) marks slots;
}
  where
    by_state : (q : ℕ × ℕ) (o : Option State) → slice_get p.states q.0 ≡ o → Carried i j ((slot_machine p h).move i q) ((slot_machine p h').move j q)
    by_state q None is = subst (λ x. Carried i j x ((slot_machine p h').move j q)) (sym ((moves_at_place p h i first here).elsewhere q is)) ((moves_at_place p h' j second there).elsewhere q is)
    by_state q (Some x) is =
        subst (λ y. Carried i j y ((slot_machine p h').move j q)) (sym ((moves_at_place p h i first here).at_state q x is))
        (subst (λ y. Carried i j (move_at first i q x) y) (sym ((moves_at_place p h' j second there).at_state q x is)) (move_carried p first second i j q x alike is))

-- ---- the step

abbrev carry : ℕ → Slots → List Thread → List Thread
carry j slots [] = []
carry j slots (t ∷ threads) = (marked j t.0 slots, t.1) ∷ carry j slots threads

abbrev carry_end : ℕ → Slots → Option (Outcome Slots) → Option (Outcome Slots)
carry_end j slots None = None
carry_end j slots (Some t) = Some (record { pattern = t.pattern; end = j; notes = marked j t.notes slots })

carry_opened : (j : ℕ) (slots marks : Slots) (rs : List (ℕ × ℕ)) (others : List Thread)
    → carry j slots (map (λ r. (marks, r)) rs ++ others) ≡ map (λ r. (marked j marks slots, r)) rs ++ carry j slots others
carry_opened j slots marks [] others = refl
carry_opened j slots marks (r ∷ rs) others = ap (λ xs. (marked j marks slots, r) ∷ xs) (carry_opened j slots marks rs others)

steps_marked : {m m' : SlotMachine} {i j : ℕ} {slots : Slots} {seen : List (ℕ × ℕ)} {threads next : List Thread} {ended : Option (Outcome Slots)} → GoMarked m i m' j slots → Steps m i seen threads next ended
    → Steps m' j seen (carry j slots threads) (carry j slots next) (carry_end j slots ended)
steps_marked go done = done
steps_marked go (passed c rest) = passed c (steps_marked go rest)
steps_marked {m' = m'} {i = i} {j = j} go (met {q = q} {p = p} new is) =
    let on : m'.move j q ≡ ends p = subst (λ x. Carried i j x (m'.move j q)) is (go.moves q) in
    met new on
steps_marked {m = m} {m' = m'} {i = i} {j = j} {slots = slots} go (opened {seen = seen} {n = n} {q = q} {others = others} {next = next} {met = ended} rs new is rest) =
    let on : m'.move j q ≡ goes rs = subst (λ x. Carried i j x (m'.move j q)) is (go.moves q) in
    opened rs new on (subst (λ k. Steps m' j (q ∷ seen) (map (λ r. (k, r)) rs ++ carry j slots others) (carry j slots next) (carry_end j slots ended)) (sym (go.notes q n))
    (subst (λ xs. Steps m' j (q ∷ seen) xs (carry j slots next) (carry_end j slots ended)) (carry_opened j slots (m.note i q n) rs others) (steps_marked go rest)))
steps_marked {m' = m'} {i = i} {j = j} go (read {q = q} r new is rest) =
    let on : (i + 1 ≡ i + 1) × (m'.move j q ≡ reads r (j + 1)) = subst (λ x. Carried i j x (m'.move j q)) is (go.moves q) in
    read r new on.1 (steps_marked go rest)

-- ---- edges

read_same : (p : ByteProgram) (o : Option ℕ) → AreReadAlike p o o
read_same p None = tt
read_same p (Some b) = λ q s. refl

-- without assertions, only the byte counts
alike : (p : ByteProgram) (first second : Place) → AsksNothing p.states → first.byte ≡ second.byte → AreAlike p first second
alike p first second nothing same = record {
  reads = subst (λ o. AreReadAlike p first.byte o) same (read_same p first.byte);
  looks = λ l asks. absurd (nothing l asks);
}

-- this position, as far as a program without assertions sees it
abbrev place_at : Place → ℕ → Place
place_at place i = record place { at = i }

is_place_at : (states : List State) (h : Haystack walks.Look) (i : ℕ) (place : Place) → AsksNothing states → is_within h.low h.high i ≡ true → slice_get (left_from h i) 0 ≡ place.byte → IsPlace states h i (place_at place i)
is_place_at states h i place nothing inside byte = record {
  at = refl;
  inside = inside;
  byte = byte;
  looks = λ l asks. absurd (nothing l asks);
}

module _ (p : ByteProgram) (place : Place) (nothing : AsksNothing p.states) (len : ℕ) (q : ℕ × ℕ) where
  carried : (next : List Thread) (ended : Option ℕ) (marks : Slots) → IsNextList p place ((no_slots len, q) ∷ []) next ended marks → (h : Haystack walks.Look) (i : ℕ) (slots : Slots)
      → is_within h.low h.high i ≡ true → slice_get (left_from h i) 0 ≡ place.byte → length slots ≡ len
      → Steps (slot_machine p h) i [] ((slots, q) ∷ []) (carry i slots next) (carry_end i slots (met_at place.at ended marks))
  carried next ended marks list h i slots inside byte e =
      let h0 = sample place place.byte in
      let here : IsPlace p.states h0 place.at place = is_sample p.states place place.byte refl in
      let there = is_place_at p.states h i place nothing inside byte in
      subst (λ xs. Steps (slot_machine p h) i [] ((xs, q) ∷ []) (carry i slots next) (carry_end i slots (met_at place.at ended marks))) (none_marked i len slots e)
      (steps_marked (go_marked p h0 h place.at i place (place_at place i) slots here there (alike p place (place_at place i) nothing refl)) (list h0 place.at here))

  leads_so : (k : ℕ) (to : Option (ℕ × ℕ)) (marks : Slots) → StepsFreshTo p place q len marks k to → (h : Haystack walks.Look) (i : ℕ) (slots : Slots) → is_within h.low h.high i ≡ true → slice_get (left_from h i) 0 ≡ place.byte → length slots ≡ len
      → StepsAloneTo (slot_machine p h) i slots q (marked i marks slots) k to
  leads_so k (Some r) marks led h i slots inside byte e = (carry_end i slots (met_at place.at led.met led.slots), carried ((marks, r) ∷ []) led.met led.slots led.list h i slots inside byte e)
  leads_so k None marks led h i slots inside byte e = carried [] (Some k) marks led h i slots inside byte e

  -- the step of a thread with empty slots is an edge
  pub edge_is : (way : Way) (marks : Slots) (noted : Option Noted) → StepsFresh p place q len marks way → length marks ≡ len → AreNotedBy marks noted → GoesToNode p.states way
      → IsEdge p len (record { from = q; byte = place.byte; way = way; noted = noted })
  edge_is way marks noted led same are stands = record {
    leads = λ h i slots inside byte e. subst (λ xs. StepsAlone (slot_machine p h) i slots q xs way) (are i slots (omega (arith, same, e))) (leads_so way.pattern way.node marks led h i slots inside byte e);
    stands = stands;
  }
