-- Where matches end, from marks at nodes.
use Rattle.std.proofs.Common.{◌≡◌, ℕ, ◌+◌, ◌<◌, ◌≤◌, Bool, true, List, [], ◌∷◌, length, map, min, take, Option, None, Some, option_map, slice_get, refl, sym, ap, subst, ◌∙◌, arith, inl, inr}
use Rattle.std.proofs.lemmas.Bool.{cases_lt}
use Rattle.std.proofs.lemmas.Option.{same_Some, slice_get-map, slice_get_within}
use Rattle.std.proofs.lemmas.List.{length-take, length-drop}
use Rattle.rx_sets.specs.Sets.{Range}
use Rattle.rx_utf8.specs.Automata.{is_in}
use Rattle.rx_walks.specs.Finds.{Search, IsFind, is_found}
use Rattle.rx_walks.specs.Looks.{Look, start_text, end_text, start_line, end_line, word_boundary, no_word_boundary, is_edge}
use Rattle.rx_walks.specs.Machines.{Outcome}
use Rattle.rx_walks.specs.Programs.{Program, Haystack, Notes, match, pass, note, look, set, fresh_notes, put_note}
use Rattle.rx_walks.specs.ProgramFinds.{IfStarts, after_in, end_of, first_by, haystack_of, holds_in, machine_of}
use Rattle.rx_walks.specs.Trails.{Trail, trail_end, trail_on, by_pass, by_note, by_look, by_set}
use Rattle.rx_walks.proofs.PathLaws.{walk_has_path}
use Rattle.rx_walks.proofs.TrailLaws.{path_trail, trail_within}
use Rattle.rx_program.specs.Programs.{node_of}
use Rattle.rx_program.specs.declared.states.State.{State}
use Rattle.rx_literals.specs.Endings.{MarksAreClosed, EndsWithSlice, LeadsToMarks, MayCome}

none_left : (bytes : List ℕ) → is_edge bytes ≡ true → length bytes ≡ 0
none_left [] e = refl
none_left (b ∷ bytes) e = absurd (cc e)

module _ (is_word : ℕ → Bool) (p : Program Look (List Range)) (s : Search) where
  abbrev H : Haystack Look
  H = haystack_of (holds_in is_word p.line_terminator s) s

  -- an assertion of the slice's end holds at no offset before it
  last_place : (i : ℕ) → H.holds end_text i ≡ true → min s.slice_end (length s.content) ≤ i
  last_place i holds =
      let none = none_left (after_in s i) holds in
      omega (arith, none, length-drop i (take s.slice_end s.content), length-take s.slice_end s.content)

  ends_last : (i e : ℕ) → H.holds end_text i ≡ true → i ≤ e → e ≤ H.high → e ≡ min s.slice_end (length s.content)
  ends_last i e holds on within = omega (arith, last_place i holds, on, within)

  module _ (marks : List Bool) (closed : MarksAreClosed p.nodes marks) where
    ends : {q i k e : ℕ} → MayCome marks q → Trail (first_by is_in) p.nodes H q i k e → e ≡ min s.slice_end (length s.content)
    ends may (trail_end {q = q} {p = k} within at) = absurd (closed q (match k) at may)
    ends may (trail_on within (by_pass {q = q} {r = r} rs k at got) trail) = ends (closed q (pass rs) at may k r got) trail
    ends may (trail_on within (by_note {q = q} {r = r} slot at) trail) = ends (closed q (note slot r) at may) trail
    ends may (trail_on within (by_set {q = q} {r = r} x k at read to) trail) = ends (closed q (set x r) at may) trail
    ends may (trail_on within (by_look {q = q} {r = r} start_text at holds) trail) = ends (closed q (look start_text r) at may) trail
    ends {e = e} may (trail_on {i = i} within (by_look end_text at holds) trail) =
        let on = trail_within (first_by is_in) p.nodes H trail in
        ends_last i e holds on.1 on.2
    ends may (trail_on within (by_look {q = q} {r = r} start_line at holds) trail) = ends (closed q (look start_line r) at may) trail
    ends may (trail_on within (by_look {q = q} {r = r} end_line at holds) trail) = ends (closed q (look end_line r) at may) trail
    ends may (trail_on within (by_look {q = q} {r = r} word_boundary at holds) trail) = ends (closed q (look word_boundary r) at may) trail
    ends may (trail_on within (by_look {q = q} {r = r} no_word_boundary at holds) trail) = ends (closed q (look no_word_boundary r) at may) trail

    found_ends : MayCome marks p.start → (t : Outcome Notes) → IsFind (machine_of is_in is_word p s) fresh_notes s p.start (Some t) → end_of t ≡ min s.slice_end (length s.content)
    found_ends may t (is_found counts before) = ends may (path_trail put_note (first_by is_in) p.nodes H (walk_has_path counts.least.walk))

-- if they are closed and the start is marked, all matches end there
pub closed_ends : (p : Program Look (List Range)) (marks : List Bool) → MarksAreClosed p.nodes marks → MayCome marks p.start → EndsWithSlice p
closed_ends p marks closed may is_word s t starts finds =
    found_ends is_word p s marks closed may t (subst (λ z. IfStarts z (IsFind (machine_of is_in is_word p s) fresh_notes s) (Some t)) starts finds)

-- ---- states so far

-- so far each of them leads on
abbrev pub LeadSoFar : List State → List Bool → ℕ → Type 0
LeadSoFar states marks index = (q : ℕ) (here : State) → q < index → slice_get states q ≡ Some here → MayCome marks q → LeadsToMarks marks (node_of here)

pub one_more : (states : List State) (marks new : List Bool) (index : ℕ) (here : State) → new ≡ marks → slice_get states index ≡ Some here → LeadsToMarks new (node_of here) → LeadSoFar states marks index → LeadSoFar states new (index + 1)
one_more states marks new index here kept at leads so_far q x below at_q may = elim (cases_lt q index) [
  | inl before ↦ subst (λ xs. LeadsToMarks xs (node_of x)) (sym kept) (so_far q x before at_q (subst (λ xs. MayCome xs q) kept may))
  | inr behind ↦ (let same : q ≡ index = omega (arith, below, behind) in
      let is : here ≡ x = same_Some here x (sym at ∙ ap (slice_get states) (sym same) ∙ at_q) in
      subst (λ y. LeadsToMarks new (node_of y)) is leads)
]

pub all_lead : (states : List State) (marks : List Bool) (index : ℕ) → length states ≤ index → LeadSoFar states marks index → MarksAreClosed (map node_of states) marks
all_lead states marks index past so_far q node at may = by (slice_get states q) refl (sym (slice_get-map node_of states q) ∙ at)
  where
    by : (o : Option State) → slice_get states q ≡ o → option_map node_of o ≡ Some node → LeadsToMarks marks node
    by None at e = absurd (cc e)
    by (Some here) at e = subst (LeadsToMarks marks) (same_Some (node_of here) node e) (so_far q here (omega (arith, slice_get_within states q here at, past)) at may)
