-- Where the step of a single thread leads, from its list.
use Rattle.std.proofs.Common.{◌≡◌, ℕ, zero, suc, ◌+◌, ◌<◌, Bool, true, false, List, [], ◌∷◌, length, Option, Some, None, All, IfSome, IsSomeAnd, is_none, slice_get, refl, sym, ap, subst, ◌∙◌, arith}
use Rattle.std.proofs.lemmas.List.Elements.{All-cons, All-head, All-nil}
use Rattle.rx_program.specs.declared.states.State.{State}
use Rattle.rx_program.specs.Programs.{ByteProgram}
use Rattle.rx_steps.specs.declared.place.Place.{Place}
use Rattle.rx_steps.specs.Nodes.{IsNodeIn}
use Rattle.rx_steps.specs.Threads.{Slots, Thread, IsThreadOf, no_slots}
use Rattle.rx_walks.specs.Finds.{Search}
use Rattle.rx_steps.specs.Lists.{IsNextList, IsPlace}
use Rattle.rx_steps.specs.Searching.{haystack_in}
use Rattle.rx_steps.specs.Coming.{machine_in}
use Rattle.rx_onepass.specs.declared.edges.Edge.{Edge}
use Rattle.rx_onepass.specs.Caches.{IsMadeFor}
use Rattle.rx_onepass.specs.Edges.{AreEdges, IsEdge, IsLed, IsWayTo, StepsAlone, StepsFreshTo, note_if}

-- the only thread of a list
pub single : (threads : List Thread) (r : ℕ × ℕ) → length threads ≡ 1 → IsSomeAnd (slice_get threads 0) (λ t. r ≡ t.1) → (marks : Slots) × (threads ≡ (marks, r) ∷ [])
single [] r one is = absurd (omega (arith, one))
single ((marks, q) ∷ []) r one is = (marks, ap (λ x. (marks, x) ∷ []) (sym is))
single ((marks, q) ∷ t ∷ threads) r one is = absurd (omega (arith, one))

pub no_thread : (threads : List Thread) → length threads ≡ 0 → threads ≡ []
no_thread [] none = refl
no_thread (t ∷ threads) none = absurd (omega (arith, none))

heads : (t u : Thread) (next others : List Thread) → t ∷ next ≡ u ∷ others → t ≡ u
heads t u next others e = cc e

first_slots : (next : List Thread) (slots : Slots) (r : ℕ × ℕ) (marks : Slots) → next ≡ (slots, r) ∷ [] → IsSomeAnd (slice_get next 0) (λ t. marks ≡ t.0) → marks ≡ slots
first_slots [] slots r marks e is = absurd (cc e)
first_slots (t ∷ next) slots r marks e is = is ∙ ap (λ u. u.0) (heads t (slots, r) next [] e)

module _ (p : ByteProgram) (place : Place) (q : ℕ × ℕ) (len : ℕ) (threads next : List Thread) (met : Option ℕ) (k : ℕ) (slots : Slots) (here : threads ≡ (no_slots len, q) ∷ []) (list : IsNextList p place threads next met slots) where
  fresh : IsNextList p place ((no_slots len, q) ∷ []) next met slots
  fresh = subst (λ xs. IsNextList p place xs next met slots) here list

  -- to a single thread, whose slots are the marks
  pub led_on : (o : Option (ℕ × ℕ)) (marks : Slots) → is_none o ≡ false → IsWayTo next met k o → IsSomeAnd (slice_get next 0) (λ t. marks ≡ t.0) → StepsFreshTo p place q len marks k o
  led_on None marks some way is = absurd (cc some)
  led_on (Some r) marks some way is =
      let first : marks ≡ way.0 = first_slots next way.0 r marks way.1 is in
      record { met = met; slots = slots; list = subst (λ xs. IsNextList p place ((no_slots len, q) ∷ []) ((xs, r) ∷ []) met slots) (sym first) (subst (λ xs. IsNextList p place ((no_slots len, q) ∷ []) xs met slots) way.1 fresh) }

  -- to the end of a match, whose slots are the marks
  pub led_end : (o : Option (ℕ × ℕ)) → is_none o ≡ true → IsWayTo next met k o → StepsFreshTo p place q len slots k o
  led_end None none way = subst (λ m. IsNextList p place ((no_slots len, q) ∷ []) [] m slots) way.1 (subst (λ xs. IsNextList p place ((no_slots len, q) ∷ []) xs met slots) way.0 fresh)
  led_end (Some r) none way = absurd (cc none)

pub has_next : (next : List Thread) (met : Option ℕ) (k : ℕ) (o : Option (ℕ × ℕ)) → is_none o ≡ false → IsWayTo next met k o → 0 < length next
has_next next met k None some way = absurd (cc some)
has_next next met k (Some r) some way = omega (arith, ap length way.1)

pub stands_in : (states : List State) (next : List Thread) (met : Option ℕ) (k : ℕ) (o : Option (ℕ × ℕ)) → IsWayTo next met k o → All (IsThreadOf states) next → IfSome o (IsNodeIn states)
stands_in states next met k None way all = tt
stands_in states next met k (Some r) way all = All-head (IsThreadOf states) (way.0, r) [] (subst (All (IsThreadOf states)) way.1 all)

-- the list of a thread with empty slots
pub one_thread : (states : List State) (threads : List Thread) (len : ℕ) (q : ℕ × ℕ) → threads ≡ (no_slots len, q) ∷ [] → IsNodeIn states q → All (IsThreadOf states) threads
one_thread states threads len q is node = subst (All (IsThreadOf states)) (sym is) (All-cons (IsThreadOf states) (no_slots len, q) [] node (All-nil (IsThreadOf states)))

-- what is of a program stays so
pub still : (p : ByteProgram) (widths widths' : List ℕ) (asks asks' : Bool) (len len' : ℕ) (edges edges' : List (Option Edge)) → widths' ≡ widths → asks' ≡ asks → len' ≡ len → edges' ≡ edges
    → IsMadeFor p widths asks len edges → IsMadeFor p widths' asks' len' edges'
still p widths widths' asks asks' len len' edges edges' a b c d made = record {
  widths_are = a ∙ made.widths_are;
  looks = λ none. made.looks (sym b ∙ none);
  are_edges = subst (λ n. AreEdges p n edges') (sym c) (subst (λ es. AreEdges p len es) (sym d) made.are_edges);
}

-- with other edges of the program
pub with_edges : (p : ByteProgram) (widths widths' : List ℕ) (asks asks' : Bool) (len len' : ℕ) (edges edges' : List (Option Edge)) → widths' ≡ widths → asks' ≡ asks → len' ≡ len → AreEdges p len edges'
    → IsMadeFor p widths asks len edges → IsMadeFor p widths' asks' len' edges'
with_edges p widths widths' asks asks' len len' edges edges' a b c are made = record {
  widths_are = a ∙ made.widths_are;
  looks = λ none. made.looks (sym b ∙ none);
  are_edges = subst (λ n. AreEdges p n edges') (sym c) are;
}

-- an edge that is found leads from the node at the position
pub edge_leads : (p : ByteProgram) (s : Search) (len i : ℕ) (slots slots' : Slots) (e : Edge) (node : ℕ × ℕ) (place : Place) → IsEdge p len e → e.from ≡ node → e.byte ≡ place.byte
    → IsPlace p.states (haystack_in p.line_terminator s) i place → length slots ≡ len → slots' ≡ note_if e.noted i slots → StepsAlone (machine_in p s) i slots node slots' e.way
edge_leads p s len i slots slots' e node place edge from byte here same noted =
    subst (λ xs. StepsAlone (machine_in p s) i slots node xs e.way) (sym noted)
    (subst (λ n. StepsAlone (machine_in p s) i slots n (note_if e.noted i slots) e.way) from
    (edge.leads (haystack_in p.line_terminator s) i slots here.inside (here.byte ∙ sym byte) same))
