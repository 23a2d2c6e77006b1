-- The search loop over the reversed haystack finds what is found backward.
use Rattle.std.proofs.Common.{◌≡◌, ℕ, zero, suc, ◌+◌, ◌-◌, ◌≤◌, Bool, List, [], ◌∷◌, map, length, get_or, IsTrue, Option, Some, None, slice_get, refl, sym, ap, subst, ◌∙◌, arith, inl, inr}
use Rattle.std.proofs.lemmas.Bool.{cases_order}
use Rattle.std.specs.Str.{IsCharBoundary}
use Rattle.rx_walks.specs.Machines.{Machine, reads}
use Rattle.rx_walks.specs.Paths.{Path}
use Rattle.rx_walks.specs.Looks.{Look}
use Rattle.rx_walks.specs.Finds.{Anchoring, unanchored, anchored, anchored_pattern, Search, IsInside, PatternMatch, CountsAmongAll, IsAtLeast, IsFindAll, none_at_all, greatest}
use Rattle.rx_walks.specs.Programs.{pass, Program, IsAbovePatterns, one_pattern, several, Haystack, Notes, fresh_notes, put_note, over_characters}
use Rattle.rx_walks.specs.ProgramFinds.{first_by, haystack_of, holds_in, machine_of, lowest, highest, start_node, IfStarts}
use Rattle.rx_walks.specs.Bytes.{Automaton, over_bytes}
use Rattle.rx_walks.specs.Laws.{ReadsMembers, MayBegin}
use Rattle.rx_walks.specs.StepsAll.{SearchesAll}
use Rattle.rx_walks.proofs.WalkLaws.{same_some}
use Rattle.rx_walks.proofs.PathLaws.{path_has_walk, walk_reaches}
use Rattle.rx_walks.proofs.ForwardLaws.{number_told}
use Rattle.rx_walks.proofs.AllFindLaws.{readers_find_all}
use Rattle.rx_walks.specs.Backward.{CountsBack, IsFindBack, none_back, least_back, FitsContent, mirrored_search, turned_match, IsToldBack, none_found, told, not_told, end_in_content}
use Rattle.rx_walks.specs.Reversed.{mirrored, last_by, back_start, back_program}
use Rattle.rx_walks.specs.Owners.{KeepsPatterns}
use Rattle.rx_walks.specs.BackLaws.{SearchesBack}
use Rattle.rx_walks.specs.Trails.{Edge, by_pass, by_note, by_look, by_set, Trail, trail_end, trail_on}
use Rattle.rx_walks.proofs.TrailLaws.{path_trail, trail_path, took_is, trail_within}
use Rattle.rx_walks.proofs.NodeLaws.{indexed_at}
use Rattle.rx_walks.proofs.TurnLaws.{here}
use Rattle.rx_walks.proofs.ProgramTurnLaws.{start_of_pattern, path_one, path_any, path_back_one, path_back_any}

abbrev zeros : List ℕ → List ℕ
zeros xs = map (λ b. 0) xs

zero_byte : (xs : List ℕ) (i : ℕ) → get_or (zeros xs) i 0 ≡ 0
zero_byte [] i = refl
zero_byte (x ∷ xs) zero = refl
zero_byte (x ∷ xs) (suc i) = zero_byte xs i

length_zeros : (xs : List ℕ) → length (zeros xs) ≡ length xs
length_zeros [] = refl
length_zeros (x ∷ xs) = ap suc (length_zeros xs)

module _ {S : Type 0} (member : S → ℕ → Bool) (is_word : ℕ → Bool) (p : Program Look S) (s : Search) (fits : FitsContent s) where
  abbrev size : ℕ
  size = length s.content

  abbrev h : Haystack Look
  h = haystack_of (holds_in is_word p.line_terminator s) s

  abbrev m : Machine ℕ Notes
  m = machine_of member is_word p s

  abbrev c : Machine ℕ Notes
  c = over_characters put_note (last_by member) (back_program p).nodes (mirrored h)

  low_in : lowest s ≤ size
  low_in = omega (arith, fits.slice_start, fits.start)

  high_in : highest s ≤ size
  high_in = omega arith

  -- reads start where, in a haystack of zeros, a character may begin
  whole : (i j q r : ℕ) → c.move i q ≡ reads r j → IsCharBoundary (mirrored_search s).content i
  whole i j q r e =
      let here = took_is put_note (last_by member) (back_program p).nodes (mirrored h) q i r j _ _ refl refl e in
      (omega (arith, here.0.below, length_zeros s.content), λ below high. absurd (omega (arith, high, zero_byte s.content i)))

  -- paths from a start node, and backward paths to it
  record Links (q r : ℕ) : Type 0 where
    forth : (i k e : ℕ) → i ≤ size → e ≤ size → Path m q i k e → Path c r (size - e) k (size - i)
    back : (k s' e : ℕ) → e ≤ size → Path c r (size - e) k s' → (i : ℕ) × (s' + i ≡ size) × Path m q i k e

  module _ (above : IsAbovePatterns p) (keeps : KeepsPatterns member is_word p s) where
    through : (rs : List ℕ) → slice_get p.nodes p.start ≡ Some (pass rs) → {i k e : ℕ} → Path m p.start i k e → (d : ℕ) × (q : ℕ) × (slice_get rs d ≡ Some q) × Path m q i k e
    through rs is path = by_trail (path_trail put_note (first_by member) p.nodes h path)
      where
        by_edge' : {i k r j e : ℕ} → Edge (first_by member) p.nodes h p.start i r j → Trail (first_by member) p.nodes h r j k e → (d : ℕ) × (q : ℕ) × (slice_get rs d ≡ Some q) × Path m q i k e
        by_edge' {r = r} (by_pass rs' d at got) trail =
            let same : rs' ≡ rs = cc (same_some at is) in (d, r, subst (λ z. slice_get z d ≡ Some r) same got, trail_path put_note (first_by member) p.nodes h trail)
        by_edge' (by_note slot at) trail = absurd (cc (at, is))
        by_edge' (by_look l at holds) trail = absurd (cc (at, is))
        by_edge' (by_set x k at read to) trail = absurd (cc (at, is))

        by_trail : {i k e : ℕ} → Trail (first_by member) p.nodes h p.start i k e → (d : ℕ) × (q : ℕ) × (slice_get rs d ≡ Some q) × Path m q i k e
        by_trail (trail_end within at) = absurd (cc (at, is))
        by_trail (trail_on within edge trail) = by_edge' edge trail

    own_path : {i k e : ℕ} → Path m p.start i k e → (q : ℕ) × (slice_get p.patterns k ≡ Some q) × Path m q i k e
    own_path {i = i} {k = k} {e = e} path = by_above above
      where
        by_above : IsAbovePatterns p → (q : ℕ) × (slice_get p.patterns k ≡ Some q) × Path m q i k e
        by_above (one_pattern is) =
            let at : slice_get p.patterns 0 ≡ Some p.start = ap (λ z. slice_get z 0) is in
            (p.start, ap (slice_get p.patterns) (keeps 0 p.start i k e at path) ∙ at, path)
        by_above (several is) =
            let one = through p.patterns is path in
            (one.1, ap (slice_get p.patterns) (keeps one.0 one.1 i k e one.2 one.3) ∙ one.2, one.3)

    start_path : {k q i e : ℕ} → slice_get p.patterns k ≡ Some q → Path m q i k e → Path m p.start i k e
    start_path {k = k} {q = q} {i = i} {e = e} at path = by_above above
      where
        only : (k : ℕ) → slice_get (p.start ∷ []) k ≡ Some q → q ≡ p.start
        only zero got = sym (same_some refl got)
        only (suc k) got = absurd (cc got)

        by_above : IsAbovePatterns p → Path m p.start i k e
        by_above (one_pattern is) = subst (λ z. Path m z i k e) (only k (subst (λ z. slice_get z k ≡ Some q) is at)) path
        by_above (several is) = let trail = path_trail put_note (first_by member) p.nodes h path in
            trail_path put_note (first_by member) p.nodes h (trail_on (here trail) (by_pass p.patterns k is at) trail)

    links_any : Links p.start (back_program p).start
    links_any = record {
      forth = λ i k e low high path. let one = own_path path in path_any put_note member p h low_in high_in k k one.0 i e one.1 low high one.2;
      back = λ k s' e high path.
          let one = path_back_any put_note member p h low_in high_in k s' e high path in
          let from = one.1 in
          let same = keeps k from.node from.place one.0 e from.at from.path in
          (from.place, from.mirror, start_path from.at (subst (λ z. Path m from.node from.place z e) same from.path));
    }

    links_one : (t q r : ℕ) → slice_get p.patterns t ≡ Some q → slice_get (back_program p).patterns t ≡ Some r → Links q r
    links_one t q r at at_r = record {
      forth = λ i k e low high path.
          let same = keeps t q i k e at path in
          path_one put_note member p h low_in high_in t k q r i e (ap (slice_get p.patterns) same ∙ at) at_r low high (subst (λ z. Path m q i z e) same path);
      back = λ k s' e high path.
          let from = path_back_one put_note member p h low_in high_in t k r s' e at_r high path in
          let same = keeps k from.node from.place t e from.at from.path in
          let node : from.node ≡ q = same_some (ap (slice_get p.patterns) same ∙ from.at) at in
          (from.place, from.mirror, subst (λ z. Path m z from.place k e) node (subst (λ z. Path m from.node from.place z e) same from.path));
    }

  module _ (q r : ℕ) (links : Links q r) where
    path_in : (b : PatternMatch) → CountsBack m fresh_notes s q b → (b.start ≤ size) × (b.end ≤ size) × (b.start ≤ b.end)
    path_in b counts =
        let on = trail_within (first_by member) p.nodes h (path_trail put_note (first_by member) p.nodes h (walk_reaches counts.reaches)) in
        (counts.inside.4, omega (arith, counts.at_end), on.1)

    abbrev mirror : PatternMatch → PatternMatch
    mirror b = turned_match s b

    counts_turned : (b : PatternMatch) → CountsBack m fresh_notes s q b → CountsAmongAll c fresh_notes (mirrored_search s) r (mirror b)
    counts_turned b counts =
        let inside = path_in b counts in
        let start : size - b.end ≡ size - s.end = omega (arith, counts.at_end) in
        record {
          possible = ((omega arith, omega arith, omega (arith, start), omega arith, omega (arith, length_zeros s.content)), λ on. start);
          reaches = path_has_walk number_told (links.forth b.start b.pattern b.end inside.0 inside.1 (walk_reaches counts.reaches)) (fresh_notes (size - b.end));
          may_end = inr (λ on. absurd (cc on));
        }

    record Answer (a : PatternMatch) : Type 0 where
      path : Path m q (turned_match s a).start a.pattern (turned_match s a).end
      end : (turned_match s a).end ≡ end_in_content s
      within : a.end ≤ size
      inside : IsInside s (turned_match s a).start
      ordered : (turned_match s a).start ≤ end_in_content s

    answer_is : (a : PatternMatch) → CountsAmongAll c fresh_notes (mirrored_search s) r a → Answer a
    answer_is a counts =
        let start : a.start ≡ size - end_in_content s = omega (arith, counts.possible.1 refl) in
        let on = links.back a.pattern a.end (end_in_content s) (omega arith) (subst (λ z. Path c r z a.pattern a.end) start (walk_reaches counts.reaches)) in
        let place : on.0 ≡ size - a.end = omega (arith, on.1) in
        let end : end_in_content s ≡ size - a.start = omega (arith, start) in
        let in_trail = trail_within (first_by member) p.nodes h (path_trail put_note (first_by member) p.nodes h on.2) in
        record {
          path = subst (λ z. Path m q (size - a.end) a.pattern z) end (subst (λ z. Path m q z a.pattern (end_in_content s)) place on.2);
          end = sym end;
          within = omega (arith, on.1);
          inside = (omega (arith, place, in_trail.0), omega (arith, place, in_trail.1, in_trail.2), omega (arith, place, in_trail.0), omega (arith, place, in_trail.1), omega arith);
          ordered = omega (arith, place, in_trail.1);
        }

    least : (a b : PatternMatch) → CountsAmongAll c fresh_notes (mirrored_search s) r a → ((b : PatternMatch) → CountsAmongAll c fresh_notes (mirrored_search s) r b → IsAtLeast a b) → CountsBack m fresh_notes s q b
        → ((turned_match s a).start ≤ b.start) × (b.start ≡ (turned_match s a).start → a.pattern ≤ b.pattern)
    least a b counts best counts_b =
        let one = best (mirror b) (counts_turned b counts_b) in
        let inside = path_in b counts_b in
        let is = answer_is a counts in
        let start : a.start ≡ size - s.end = counts.possible.1 refl in
        (omega (arith, one.by_end, inside.0), λ same. one.by_pattern (omega (arith, same, is.within)) (omega (arith, start, counts_b.at_end)))

    answer : (out tell : Option PatternMatch) → IsFindAll c fresh_notes (mirrored_search s) r out → IsToldBack s out tell → IsFindBack m fresh_notes s q tell
    answer _ _ (none_at_all never) none_found = none_back (λ b counts. never (mirror b) (counts_turned b counts))
    answer _ _ (greatest {a = a} counts best) (told may) =
        let is = answer_is a counts in
        least_back (record {
          inside = is.inside;
          reaches = path_has_walk number_told is.path (fresh_notes (size - a.end));
          at_end = is.end;
          may_end = may;
        }) (λ b counts_b. least a b counts best counts_b)
    answer _ _ (greatest {a = a} counts best) (not_told never) = none_back (λ b counts_b.
        let is = answer_is a counts in
        let first = (least a b counts best counts_b).0 in
        let inside = path_in b counts_b in
        elim (cases_order (turned_match s a).end (turned_match s a).start) [
          | inl e ↦
              let same : b.start ≡ (turned_match s a).start = omega (arith, e, is.end, first, inside.2, counts_b.at_end) in
              elim counts_b.may_end [
                | inl other ↦ other (omega (arith, same, e, is.end, counts_b.at_end))
                | inr may ↦ never (inr (subst (λ z. IsTrue s.utf8_empty → IsCharBoundary s.content z) same may))
              ]
          | inr other ↦ never (inl (λ e. elim other [ inl below ↦ omega (arith, e, below) | inr above ↦ omega (arith, e, above) ]))
        ])

  module _ (step : ℕ → Automaton) (above : IsAbovePatterns p) (members : ReadsMembers (last_by member) step (back_program p).nodes) (keeps : KeepsPatterns member is_word p s) where
    found : (r : ℕ) (out : Option PatternMatch) → SearchesAll (over_bytes put_note step (back_program p).nodes (mirrored h)) (MayBegin (mirrored_search s)) (r, 0) (mirrored_search s).start [] None out
        → IsFindAll c fresh_notes (mirrored_search s) r out
    found r out searches = readers_find_all put_note (last_by member) step (back_program p).nodes (mirrored h) (mirrored_search s) fresh_notes r out members whole searches

    searched : (a : Anchoring) (r : ℕ) (out tell : Option PatternMatch) → start_node (back_program p) a ≡ Some r → IsFindAll c fresh_notes (mirrored_search s) r out → IsToldBack s out tell
        → IfStarts (start_node p a) (IsFindBack m fresh_notes s) tell
    searched unanchored r out tell starts finds is_told =
        answer p.start r (subst (λ z. Links p.start z) (same_some refl starts) (links_any above keeps)) out tell finds is_told
    searched anchored r out tell starts finds is_told =
        answer p.start r (subst (λ z. Links p.start z) (same_some refl starts) (links_any above keeps)) out tell finds is_told
    searched (anchored_pattern t) r out tell starts finds is_told =
        let one = start_of_pattern p t r starts in
        subst (λ z. IfStarts z (IsFindBack m fresh_notes s) tell) (sym one.1) (answer one.0 r (links_one above keeps t one.0 r one.1 starts) out tell finds is_told)

-- a pattern unknown to the reverse program is unknown to the program
no_node : {S : Type 0} (p : Program Look S) (a : Anchoring) → start_node (back_program p) a ≡ None → start_node p a ≡ None
no_node p unanchored e = absurd (cc e)
no_node p anchored e = absurd (cc e)
no_node p (anchored_pattern k) e = by_start (slice_get p.patterns k) refl
  where
    by_start : (o : Option ℕ) → slice_get p.patterns k ≡ o → o ≡ None
    by_start None is = refl
    by_start (Some q) is = absurd (cc (e, indexed_at (λ k start. back_start p.nodes p.patterns + 1 + k) 0 p.patterns k q is))

module _ {S : Type 0} (member : S → ℕ → Bool) (is_word : ℕ → Bool) (p : Program Look S) (step : ℕ → Automaton) where
  pub program_is_searched_back : IsAbovePatterns p → ReadsMembers (last_by member) step (back_program p).nodes → (s : Search) → FitsContent s → KeepsPatterns member is_word p s → SearchesBack member is_word p step s
  program_is_searched_back above members s fits keeps = record {
    searched = λ r out tell starts searches is_told.
        searched member is_word p s fits step above members keeps s.anchoring r out tell starts (found member is_word p s fits step above members keeps r out searches) is_told;
    unknown = λ none. subst (λ z. IfStarts z (IsFindBack (machine_of member is_word p s) fresh_notes s) None) (sym (no_node p s.anchoring none)) refl;
  }
