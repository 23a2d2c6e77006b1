-- A node that each match passes, from marks at nodes, and what is read from such a node on.
use Rattle.std.proofs.Common.{◌≡◌, ℕ, ◌+◌, ◌<◌, ◌≤◌, Bool, true, List, [], ◌∷◌, ◌++◌, length, map, take, string_bytes, Option, None, Some, IfSome, option_map, slice_get, refl, sym, ap, subst, ◌∙◌, arith, inl, inr, length-append}
use Rattle.std.specs.Char.{IsScalar, encode_utf8}
use Rattle.std.proofs.lemmas.Bool.{cases_eq, cases_lt}
use Rattle.std.proofs.lemmas.Option.{same_Some, slice_get-map, slice_get_within}
use Rattle.std.proofs.lemmas.List.{length-take}
use Rattle.memchr.specs.Find.{OccursAt}
use Rattle.rx_sets.specs.Sets.{Range}
use Rattle.rx_utf8.specs.Automata.{is_in}
use Rattle.rx_util.specs.declared.search.Span.{Span}
use Rattle.rx_walks.specs.Finds.{Search, unanchored, Counts, IsFind, not_found}
use Rattle.rx_walks.specs.Looks.{Look}
use Rattle.rx_walks.specs.Machines.{Machine, Outcome}
use Rattle.rx_walks.specs.Paths.{Path}
use Rattle.rx_walks.specs.Programs.{Program, Haystack, Notes, match, pass, note, look, set, fresh_notes, put_note}
use Rattle.rx_walks.specs.ProgramFinds.{ProgramFinds, IfStarts, first_by, haystack_of, highest, holds_in, machine_of, start_node}
use Rattle.rx_walks.specs.Trails.{Edge, Trail, trail_end, trail_on, by_pass, by_note, by_look, by_set}
use Rattle.rx_walks.proofs.ForwardLaws.{characters_forward}
use Rattle.rx_walks.proofs.InsideLaws.{walk_keeps, inside_of}
use Rattle.rx_walks.proofs.PathLaws.{walk_has_path}
use Rattle.rx_walks.proofs.TrailLaws.{path_trail, trail_path, trail_within}
use Rattle.rx_program.specs.Programs.{node_of}
use Rattle.rx_program.specs.declared.states.State.{State}
use Rattle.rx_literals.specs.Needles.{FoundBetween, nowhere, at_least_place, this_occurs}
use Rattle.rx_literals.specs.Endings.{MayCome}
use Rattle.rx_literals.specs.Spellings.{ReadsOnly}
use Rattle.rx_literals.specs.Ways.{TakesStem}
use Rattle.rx_literals.specs.Requirements.{BeginningsAreContained, LeadsToMarked, MarksStopAt, MatchesContain, NoneContainedNoMatch, OneOccursFrom, PassesNode, PathFrom, ReadsLiteral, ReadsTo}
use Rattle.rx_literals.proofs.SkipLaws.{none_not_one, one_below, one_in_more}
use Rattle.rx_literals.proofs.WayLaws.{reads_at, occurs_longer, occurs_in_fewer, path_grows}

-- ---- a node that each match passes

module _ (is_word : ℕ → Bool) (p : Program Look (List Range)) (s : Search) (stop : ℕ) (marks : List Bool) (closed : MarksStopAt p.nodes stop marks) where
  abbrev H : Haystack Look
  H = haystack_of (holds_in is_word p.line_terminator s) s

  abbrev M : Machine ℕ Notes
  M = machine_of is_in is_word p s

  edge_on : {q i r j : ℕ} → Edge (first_by is_in) p.nodes H q i r j → i ≤ j
  edge_on (by_pass rs k at got) = omega arith
  edge_on (by_note slot at) = omega arith
  edge_on (by_look l at holds) = omega arith
  edge_on (by_set x k at read to) = omega (arith, to)

  leads : {q i r j : ℕ} → Edge (first_by is_in) p.nodes H q i r j → MayCome marks q → (q ≡ stop → ⊥) → MayCome marks r
  leads (by_pass {q = q} {r = r} rs k at got) may apart = closed q (pass rs) at may apart k r got
  leads (by_note {q = q} {r = r} slot at) may apart = closed q (note slot r) at may apart
  leads (by_look {q = q} {r = r} l at holds) may apart = closed q (look l r) at may apart
  leads (by_set {q = q} {r = r} x k at read to) may apart = closed q (set x r) at may apart

  here : {q i k e : ℕ} → q ≡ stop → Trail (first_by is_in) p.nodes H q i k e → PathFrom M stop i k e
  here {i = i} {k = k} {e = e} same trail = record {
    at = i;
    behind = omega arith;
    path = subst (λ x. Path M x i k e) same (trail_path put_note (first_by is_in) p.nodes H trail);
  }

  passes : {q i k e : ℕ} → MayCome marks q → Trail (first_by is_in) p.nodes H q i k e → PathFrom M stop i k e
  passes may (trail_end {q = q} {p = k} within at) = elim (cases_eq q stop) [
    | inl same ↦ here same (trail_end within at)
    | inr apart ↦ absurd (closed q (match k) at may apart)
  ]
  passes may (trail_on {q = q} within edge trail) = elim (cases_eq q stop) [
    | inl same ↦ here same (trail_on within edge trail)
    | inr apart ↦ (let next = passes (leads edge may apart) trail in
        record { at = next.at; behind = omega (arith, edge_on edge, next.behind); path = next.path })
  ]

-- if marks stop at a node, and the start is marked, each match passes the node
pub closed_passes : (p : Program Look (List Range)) (stop : ℕ) (marks : List Bool) → MarksStopAt p.nodes stop marks → MayCome marks p.start → PassesNode p stop
closed_passes p stop marks closed may is_word s i pattern e path =
    passes is_word p s stop marks closed may (path_trail put_note (first_by is_in) p.nodes (haystack_of (holds_in is_word p.line_terminator s) s) path)

-- ---- states so far

-- so far each of them leads on
abbrev pub StopSoFar : List State → ℕ → List Bool → ℕ → Type 0
StopSoFar states stop marks index = (q : ℕ) (here : State) → q < index → slice_get states q ≡ Some here → MayCome marks q → (q ≡ stop → ⊥) → LeadsToMarked marks (node_of here)

pub stop_on : (states : List State) (stop : ℕ) (marks new : List Bool) (index : ℕ) (here : State) → new ≡ marks → slice_get states index ≡ Some here → LeadsToMarked new (node_of here) → StopSoFar states stop marks index → StopSoFar states stop new (index + 1)
stop_on states stop marks new index here kept at leads so_far q x below at_q may apart = elim (cases_lt q index) [
  | inl before ↦ subst (λ xs. LeadsToMarked xs (node_of x)) (sym kept) (so_far q x before at_q (subst (λ xs. MayCome xs q) kept may) apart)
  | inr behind ↦ (let same : q ≡ index = omega (arith, below, behind) in
      let is : here ≡ x = same_Some here x (sym at ∙ ap (slice_get states) (sym same) ∙ at_q) in
      subst (λ y. LeadsToMarked new (node_of y)) is leads)
]

-- one that is left out
pub stop_over : (states : List State) (stop : ℕ) (marks : List Bool) (index : ℕ) → (MayCome marks index → index ≡ stop) → StopSoFar states stop marks index → StopSoFar states stop marks (index + 1)
stop_over states stop marks index out so_far q x below at_q may apart = elim (cases_lt q index) [
  | inl before ↦ so_far q x before at_q may apart
  | inr behind ↦ (let same : q ≡ index = omega (arith, below, behind) in
      absurd (apart (same ∙ out (subst (MayCome marks) same may))))
]

pub all_stop : (states : List State) (stop : ℕ) (marks : List Bool) (index : ℕ) → length states ≤ index → StopSoFar states stop marks index → MarksStopAt (map node_of states) stop marks
all_stop states stop marks index past so_far q node at may apart = by (slice_get states q) refl (sym (slice_get-map node_of states q) ∙ at)
  where
    by : (o : Option State) → slice_get states q ≡ o → option_map node_of o ≡ Some node → LeadsToMarked marks node
    by None at e = absurd (cc e)
    by (Some here) at e = subst (LeadsToMarked marks) (same_Some (node_of here) node e) (so_far q here (omega (arith, slice_get_within states q here at, past)) at may apart)

-- ---- what is read from a node on

pub reads_nothing : (p : Program Look (List Range)) (q : ℕ) → ReadsTo p q [] q
reads_nothing p q is_word s i pattern e path =
    let h = haystack_of (holds_in is_word p.line_terminator s) s in
    let on = trail_within (first_by is_in) p.nodes h (path_trail put_note (first_by is_in) p.nodes h path) in
    let low : i ≤ length (take (highest s) s.content) = omega (arith, length-take (highest s) s.content, on.1, on.2) in
    let at : i ≡ i + 0 = omega arith in (
      record { fits = omega (arith, low); reads = λ j below. absurd (omega (arith, below)) },
      subst (λ n. Path (machine_of is_in is_word p s) q n pattern e) at path,
    )

pub reads_more : (p : Program Look (List Range)) (q next c r : ℕ) (literal more : List ℕ) → ReadsOnly (slice_get p.nodes next) c r → more ≡ literal ++ encode_utf8 c → ReadsTo p q literal next → ReadsTo p q more r
reads_more p q next c r literal more over is reads is_word s i pattern e path =
    let takes = reads is_word s i pattern e path in
    let read = reads_at is_word p s pattern e next (i + length literal) r over.ranges over.here_is takes.1 in
    let same : read.c ≡ c = over.only.only read.c read.scalar read.member in
    let whole : literal ++ encode_utf8 read.c ≡ more = ap (λ d. literal ++ encode_utf8 d) same ∙ sym is in
    let width : i + length literal + length (encode_utf8 read.c) ≡ i + length (literal ++ encode_utf8 read.c) = omega (arith, length-append literal (encode_utf8 read.c)) in
    subst (λ xs. TakesStem p is_word s i pattern e (record { literal = xs; node = r })) whole (
      occurs_longer (take (highest s) s.content) literal (encode_utf8 read.c) read.rest i takes.0 read.stands,
      subst (λ n. Path (machine_of is_in is_word p s) r n pattern e) width read.path,
    )

-- each match contains what is read from a node that it passes
pub contains_it : (p : Program Look (List Range)) (q : ℕ) (literal : List ℕ) → PassesNode p q → ReadsLiteral p q literal → MatchesContain (literal ∷ []) p
contains_it p q literal passes first is_word s i choices t inside walk =
    let from = passes is_word s i t.pattern t.end (walk_has_path walk) in
    let takes = first.reads is_word s from.at t.pattern t.end from.path in
    let far = inside_of s t.end (walk_keeps is_in is_word p s walk).inside in
    let ends_ : from.at + length literal ≤ t.end = path_grows (characters_forward put_note is_in p.nodes (haystack_of (holds_in is_word p.line_terminator s) s)) takes.1 in
    record {
      at = from.at;
      behind = from.behind;
      occurs = this_occurs (occurs_in_fewer s.content literal (highest s) t.end from.at ends_ (omega (arith, far.1, far.3, far.4)) far.4 takes.0);
    }

-- ---- what that means for a search

module _ (needles : List (List ℕ)) (p : Program Look (List Range)) (is_word : ℕ → Bool) (s : Search) (contain : MatchesContain needles p) where
  -- a needle occurs after a start that counts
  needle_from : {i : ℕ} {t : Outcome Notes} → Counts (machine_of is_in is_word p s) fresh_notes s p.start i t → OneOccursFrom (take s.end s.content) i needles
  needle_from {i} {t} counts =
      let kept = walk_keeps is_in is_word p s counts.least.walk in
      let inside = inside_of s t.end kept.inside in
      let one = contain is_word s i counts.least.choices t counts.possible.0 counts.least.walk in
      record { at = one.at; behind = one.behind; occurs = one_in_more s.content inside.3 one.occurs }

pub none_contained_no_match : NoneContainedNoMatch
none_contained_no_match needles p is_word s are contain free first =
    subst (λ o. IfStarts o (IsFind (machine_of is_in is_word p s) fresh_notes s) None) (sym (ap (start_node p) free)) (not_found (λ i t counts. by first refl i counts))
  where
    by : {out : Option Span} → FoundBetween (take s.end s.content) needles s.start s.end out → out ≡ None → (i : ℕ) {t : Outcome Notes} → Counts (machine_of is_in is_word p s) fresh_notes s p.start i t → ⊥
    by (nowhere none) e i counts =
        let one = needle_from needles p is_word s contain counts in
        let below = one_below are.each one.occurs in
        none_not_one (none one.at (omega (arith, counts.possible.0.2, one.behind)) (omega (arith, below, length-take s.end s.content))) refl one.occurs
    by (at_least_place k low high here absent) e i counts = absurd (cc e)

pub beginnings_are_contained : BeginningsAreContained
beginnings_are_contained needles p begins is_word s i choices t inside walk = record {
  at = i;
  behind = omega arith;
  occurs = begins is_word s i choices t inside walk;
}
