-- From the end of a find, the backward search finds its start.
use Rattle.std.proofs.Common.{◌≡◌, ℕ, ◌<◌, ◌≤◌, ◌⊎◌, Bool, List, [], ◌∷◌, Option, Some, None, slice_get, refl, sym, ap, subst, ◌∙◌, arith, inl, inr}
use Rattle.std.proofs.lemmas.Bool.{cases_order}
use Rattle.std.specs.Str.{IsCharBoundary}
use Rattle.rx_walks.specs.Machines.{Machine, Outcome, goes}
use Rattle.rx_walks.specs.Walks.{Walk, ended, went, took, Before, here, later, IsLeast}
use Rattle.rx_walks.specs.Paths.{Path}
use Rattle.rx_walks.specs.Looks.{Look}
use Rattle.rx_walks.specs.Finds.{Anchoring, unanchored, anchored, anchored_pattern, Search, IsPossible, Counts, IsFind, not_found, is_found, PatternMatch}
use Rattle.rx_walks.specs.Programs.{IsAbovePatterns, one_pattern, several, Node, match, pass, note, look, set, Program, Haystack, Notes, fresh_notes, put_note, note_at, over_characters}
use Rattle.rx_walks.specs.ProgramFinds.{first_by, haystack_of, holds_in, machine_of, highest, start_node, start_of, IfStarts, ProgramFinds}
use Rattle.rx_walks.proofs.PathLaws.{path_has_walk, walk_reaches, walk_has_path}
use Rattle.rx_walks.proofs.ForwardLaws.{number_told}
use Rattle.rx_walks.proofs.WholeLaws.{reads_whole}
use Rattle.rx_walks.proofs.FindLaws.{begins}
use Rattle.rx_walks.proofs.AllFindLaws.{path_read}
use Rattle.rx_walks.specs.Laws.{MayBegin}
use Rattle.rx_walks.specs.Backward.{CountsBack, IsFindBack, none_back, least_back, ProgramFindsBack, FitsContent, back_from, anchored_as}
use Rattle.rx_walks.proofs.WalkLaws.{same_some, same_open, ends_not_goes, goes_not_reads}
use Rattle.rx_walks.specs.BackLaws.{IsStartOf, IsFirstStart, StartsFirst}
use Rattle.rx_walks.specs.Owners.{KeepsPatterns}
use Rattle.rx_walks.proofs.UniqueLaws.{match_is}
use Rattle.rx_walks.proofs.TrailLaws.{path_trail, moves, within_of, trail_within}
use Rattle.rx_walks.proofs.CutLaws.{path_in, path_out}
use Rattle.rx_walks.proofs.ExistLaws.{LeastOrNone, characters_least}

note_start : {S : Type 0} (i : ℕ) (o : Option (Node Look S)) (n : Notes) → (note_at put_note i o n).start ≡ n.start
note_start i None n = refl
note_start i (Some (match p)) n = refl
note_start i (Some (pass rs)) n = refl
note_start i (Some (note slot r)) n = refl
note_start i (Some (look l r)) n = refl
note_start i (Some (set x r)) n = refl

keeps_start : {S : Type 0} (first : S → List ℕ → Option ℕ) (nodes : List (Node Look S)) (h : Haystack Look) {seen : List ℕ} {n : Notes} {q i : ℕ} {cs : List ℕ} {t : Outcome Notes}
    → Walk (over_characters put_note first nodes h) seen n q i cs t → t.notes.start ≡ n.start
keeps_start first nodes h (ended new is) = refl
keeps_start first nodes h (went {n = n} {q = q} {i = i} rs r new is at w) = keeps_start first nodes h w ∙ note_start i (slice_get nodes q) n
keeps_start first nodes h (took r j new is w) = keeps_start first nodes h w

same_node : {L S : Type 0} (p : Program L S) (a : Anchoring) → start_node p (anchored_as a) ≡ start_node p a
same_node p unanchored = refl
same_node p anchored = refl
same_node p (anchored_pattern k) = refl

module _ {S : Type 0} (member : S → ℕ → Bool) (is_word : ℕ → Bool) (p : Program Look S) (s : Search) where
  abbrev h : Haystack Look
  h = haystack_of (holds_in is_word p.line_terminator s) s

  abbrev m : Machine ℕ Notes
  m = machine_of member is_word p s

  abbrev back : ℕ → Machine ℕ Notes
  back e = machine_of member is_word p (back_from s e)

  least : (n : Notes) (q i : ℕ) → LeastOrNone m [] n q i
  least n q i = characters_least put_note member p.nodes h n q i

  -- both have the same paths to that end
  cut_path : {q i k e : ℕ} → Path m q i k e → Path (back e) q i k e
  cut_path {e = e} path =
      let on = trail_within (first_by member) p.nodes h (path_trail put_note (first_by member) p.nodes h path) in
      path_in member p.nodes h (highest (back_from s e)) (omega (arith, on.2)) (omega (arith, on.2)) path

  grown_path : {q i k e : ℕ} → e ≤ h.high → Path (back e) q i k e → Path m q i k e
  grown_path {e = e} within path = path_out member p.nodes h (highest (back_from s e)) (omega (arith, within)) path

  -- a start with a path has a least walk
  least_of : {q i k e : ℕ} → Path m q i k e → (t : Outcome Notes) × IsLeast m [] (fresh_notes i) q i t
  least_of {q = q} {i = i} path = elim (least (fresh_notes i) q i) [
    | inl one ↦ one
    | inr never ↦ (let walk = path_has_walk number_told path (fresh_notes i) in absurd (never walk.choices walk.outcome walk.walk))
  ]

  counting : {q i k e : ℕ} → MayBegin s i → Path m q i k e → (t : Outcome Notes) × Counts m fresh_notes s q i t
  counting b path = let one = least_of path in (one.0, record { possible = b.0; least = one.1; may_end = inr b.1 })

  pub starts_first : (q : ℕ) → start_node p s.anchoring ≡ Some q → StartsFirst member is_word p s q
  starts_first q starts = record {
    found = λ t finds. first t (subst (λ z. IfStarts z (IsFind m fresh_notes s) (Some t)) starts finds);
    not_found = λ finds. none (subst (λ z. IfStarts z (IsFind m fresh_notes s) None) starts finds);
  }
    where
      first : (t : Outcome Notes) → IsFind m fresh_notes s q (Some t) → IsFirstStart m (MayBegin s) q (start_of t)
      first t (is_found {i = i} counts before) = subst (IsFirstStart m (MayBegin s) q) (sym (keeps_start (first_by member) p.nodes h counts.least.walk)) (record {
        here = begins (reads_whole put_note member p.nodes h) counts;
        leads = (t.pattern, t.end, walk_has_path counts.least.walk);
        none_before = λ j k e below b path. (let one = counting b path in before j one.0 below one.1);
      })

      none : IsFind m fresh_notes s q None → (i k e : ℕ) → MayBegin s i → Path m q i k e → ⊥
      none (not_found never) i k e b path = let one = counting b path in never i one.0 one.1

  -- a start before a find's has no walk that counts to its end
  no_earlier : (q i : ℕ) (t : Outcome Notes) → Counts m fresh_notes s q i t → ((j : ℕ) (u : Outcome Notes) → j < i → Counts m fresh_notes s q j u → ⊥)
      → i ≤ t.end → t.end ≤ h.high → (a : PatternMatch) → CountsBack (back t.end) fresh_notes (back_from s t.end) q a → i ≤ a.start
  no_earlier q i t counts before ordered within a back_counts = elim (cases_order a.start i) [
    | inl e ↦ omega (arith, e)
    | inr (inl below) ↦ (let one = counting (possible below, λ on. whole below) path in absurd (before a.start one.0 below one.1))
    | inr (inr above) ↦ omega (arith, above)
  ]
    where
      path : Path m q a.start a.pattern t.end
      path = grown_path within (subst (λ z. Path (back t.end) q a.start a.pattern z) (omega (arith, back_counts.at_end, within)) (walk_reaches back_counts.reaches))

      whole : a.start < i → IsCharBoundary s.content a.start
      whole below = elim (path_read s.content (reads_whole put_note member p.nodes h) path) [ inl e ↦ absurd (omega (arith, e, below, ordered)) | inr boundary ↦ boundary ]

      possible : a.start < i → IsPossible s a.start
      possible below = let inside = back_counts.inside in
          ((inside.0, inside.1, inside.2, omega (arith, below, counts.possible.0.3), inside.4), λ on. absurd (omega (arith, below, inside.2, counts.possible.1 on)))

  start_back : (q : ℕ) (t : Outcome Notes) (out : Option PatternMatch) → IsFind m fresh_notes s q (Some t)
      → IsFindBack (back t.end) fresh_notes (back_from s t.end) q out → IsStartOf t out
  start_back q t out (is_found {i = i} counts before) found = by_answer out found
    where
      own : Path m q i t.pattern t.end
      own = walk_has_path counts.least.walk

      on : (h.low ≤ i) × (i ≤ t.end) × (t.end ≤ h.high)
      on = trail_within (first_by member) p.nodes h (path_trail put_note (first_by member) p.nodes h own)

      start : t.notes.start ≡ i
      start = keeps_start (first_by member) p.nodes h counts.least.walk

      itself : CountsBack (back t.end) fresh_notes (back_from s t.end) q (record { start = i; pattern = t.pattern; end = t.end })
      itself = let inside = counts.possible.0 in record {
        inside = (inside.0, inside.1, inside.2, on.1, inside.4);
        reaches = path_has_walk number_told (cut_path own) (fresh_notes i);
        at_end = omega (arith, on.2);
        may_end = counts.may_end;
      }

      by_answer : (out : Option PatternMatch) → IsFindBack (back t.end) fresh_notes (back_from s t.end) q out → IsStartOf t out
      by_answer None (none_back never) = absurd (never _ itself)
      by_answer (Some a) (least_back back_counts best) =
          let no_later = best _ itself in
          let no_sooner = no_earlier q i t counts before on.1 on.2 a back_counts in
          let same : a.start ≡ i = omega (arith, no_later.0, no_sooner) in
          record { found = a; is = refl; start = same ∙ sym start; end = omega (arith, back_counts.at_end, on.2); pattern = no_later.1 (sym same) }

  pub finds_start_back : (t : Outcome Notes) (out : Option PatternMatch) → ProgramFinds member is_word p s (Some t) → ProgramFindsBack member is_word p (back_from s t.end) out → IsStartOf t out
  finds_start_back t out found back_found =
      by_node (start_node p s.anchoring) found (subst (λ z. IfStarts z (IsFindBack (back t.end) fresh_notes (back_from s t.end)) out) (same_node p s.anchoring) back_found)
    where
      by_node : (o : Option ℕ) → IfStarts o (IsFind m fresh_notes s) (Some t) → IfStarts o (IsFindBack (back t.end) fresh_notes (back_from s t.end)) out → IsStartOf t out
      by_node None e e' = absurd (cc e)
      by_node (Some q) is is' = start_back q t out is is'

-- the least walk from a start has the least pattern
before_first : {k d : ℕ} {cs ds : List ℕ} → Before (k ∷ cs) (d ∷ ds) → k ≤ d
before_first (here below) = omega (arith, below)
before_first (later e b) = omega (arith, e)

module _ {S : Type 0} (member : S → ℕ → Bool) (is_word : ℕ → Bool) (p : Program Look S) (s : Search) (above : IsAbovePatterns p) (keeps : KeepsPatterns member is_word p s) where
  abbrev h' : Haystack Look
  h' = haystack_of (holds_in is_word p.line_terminator s) s

  abbrev m' : Machine ℕ Notes
  m' = machine_of member is_word p s

  -- the first choice of a walk is its pattern
  record Chosen (cs : List ℕ) (t : Outcome Notes) : Type 0 where
    others : List ℕ
    is : cs ≡ t.pattern ∷ others

  chosen_by : {n : Notes} {i : ℕ} {cs : List ℕ} {t : Outcome Notes} → m'.move i p.start ≡ goes p.patterns → Walk m' [] n p.start i cs t → Chosen cs t
  chosen_by moves_on (ended new is) = absurd (ends_not_goes is moves_on)
  chosen_by moves_on (went {i = i} {k = k} {cs = cs} rs r new is at w) =
      let which = keeps k r i _ _ (subst (λ z. slice_get z k ≡ Some r) (same_open is moves_on) at) (walk_has_path w) in
      record { others = cs; is = ap (λ z. z ∷ cs) (sym which) }
  chosen_by moves_on (took r j new is w) = absurd (goes_not_reads moves_on is)

  chosen : slice_get p.nodes p.start ≡ Some (pass p.patterns) → {n : Notes} {i : ℕ} {cs : List ℕ} {t : Outcome Notes} → Walk m' [] n p.start i cs t → Chosen cs t
  chosen at {i = i} w =
      let trail = path_trail put_note (first_by member) p.nodes h' (walk_has_path w) in
      chosen_by (moves put_note (first_by member) p.nodes h' p.start i _ (within_of (first_by member) p.nodes h' trail) at) w

  one_pattern_least : (d q i k e : ℕ) (t : Outcome Notes) → slice_get p.patterns d ≡ Some q → IsLeast m' [] (fresh_notes i) q i t → Path m' q i k e → t.pattern ≤ k
  one_pattern_least d q i k e t at one path = omega (arith, keeps d q i t.pattern t.end at (walk_has_path one.walk), keeps d q i k e at path)

  start_least : (i k e : ℕ) (t : Outcome Notes) → IsLeast m' [] (fresh_notes i) p.start i t → Path m' p.start i k e → t.pattern ≤ k
  start_least i k e t one path = by_above above
    where
      by_choices : {cs ds : List ℕ} {u : Outcome Notes} → Chosen cs t → Chosen ds u → (ds ≡ cs) ⊎ Before cs ds → t.pattern ≤ u.pattern
      by_choices {u = u} first second (inl same) = let e : u.pattern ∷ second.others ≡ t.pattern ∷ first.others = sym second.is ∙ same ∙ first.is in let same' : u.pattern ≡ t.pattern = cc e in omega (arith, same')
      by_choices {cs = cs} {ds = ds} {u = u} first second (inr b) = before_first (subst (λ z. Before z (u.pattern ∷ second.others)) first.is (subst (λ z. Before cs z) second.is b))

      by_above : IsAbovePatterns p → t.pattern ≤ k
      by_above (one_pattern is) = one_pattern_least 0 p.start i k e t (ap (λ z. slice_get z 0) is) one path
      by_above (several at) =
          let reached = path_has_walk number_told path (fresh_notes i) in
          let order = by_choices (chosen at one.walk) (chosen at reached.walk) (one.least reached.choices reached.outcome reached.walk) in
          omega (arith, order, reached.pattern_is)

  least_pattern : (a : Anchoring) (q i k e : ℕ) (t : Outcome Notes) → start_node p a ≡ Some q → IsLeast m' [] (fresh_notes i) q i t → Path m' q i k e → t.pattern ≤ k
  least_pattern unanchored q i k e t starts one path =
      let same : p.start ≡ q = same_some refl starts in
      start_least i k e t (subst (λ z. IsLeast m' [] (fresh_notes i) z i t) (sym same) one) (subst (λ z. Path m' z i k e) (sym same) path)
  least_pattern anchored q i k e t starts one path =
      let same : p.start ≡ q = same_some refl starts in
      start_least i k e t (subst (λ z. IsLeast m' [] (fresh_notes i) z i t) (sym same) one) (subst (λ z. Path m' z i k e) (sym same) path)
  least_pattern (anchored_pattern d) q i k e t starts one path = one_pattern_least d q i k e t starts one path

  match_at : (q : ℕ) (t : Outcome Notes) (out : Option PatternMatch) → start_node p s.anchoring ≡ Some q → IsFind m' fresh_notes s q (Some t) → IsFindBack (machine_of member is_word p (back_from s t.end)) fresh_notes (back_from s t.end) q out
      → out ≡ Some (record { start = start_of t; pattern = t.pattern; end = t.end })
  match_at q t out starts found back_found = by_answer (start_back member is_word p s q t out found back_found) found out refl back_found
    where
      by_answer : IsStartOf t out → IsFind m' fresh_notes s q (Some t) → (out' : Option PatternMatch) → out ≡ out' → IsFindBack (machine_of member is_word p (back_from s t.end)) fresh_notes (back_from s t.end) q out'
          → out ≡ Some (record { start = start_of t; pattern = t.pattern; end = t.end })
      by_answer own found None is (none_back never) = absurd (cc (sym own.is ∙ is))
      by_answer own (is_found {i = i} counts before) (Some a) is (least_back back_counts best) =
          let same : own.found ≡ a = same_some own.is is in
          let start : t.notes.start ≡ i = keeps_start (first_by member) p.nodes h' counts.least.walk in
          let trail = path_trail put_note (first_by member) p.nodes h' (walk_has_path counts.least.walk) in
          let within = trail_within (first_by member) p.nodes h' trail in
          let at_end : a.end ≡ t.end = omega (arith, back_counts.at_end, within.2) in
          let path = grown_path member is_word p s within.2 (subst (λ z. Path (machine_of member is_word p (back_from s t.end)) q a.start a.pattern z) at_end (walk_reaches back_counts.reaches)) in
          let at_i : a.start ≡ i = ap (λ z. z.start) (sym same) ∙ own.start ∙ start in
          let up = least_pattern s.anchoring q i a.pattern t.end t starts counts.least (subst (λ z. Path m' q z a.pattern t.end) at_i path) in
          let down : a.pattern ≤ t.pattern = subst (λ z. z.pattern ≤ t.pattern) same own.pattern in
          is ∙ ap Some (match_is a (record { start = start_of t; pattern = t.pattern; end = t.end }) (at_i ∙ sym start) (omega (arith, up, down)) at_end)

  pub finds_match_back : (t : Outcome Notes) (out : Option PatternMatch) → ProgramFinds member is_word p s (Some t) → ProgramFindsBack member is_word p (back_from s t.end) out
      → out ≡ Some (record { start = start_of t; pattern = t.pattern; end = t.end })
  finds_match_back t out found back_found =
      by_node (start_node p s.anchoring) refl found
      (subst (λ z. IfStarts z (IsFindBack (machine_of member is_word p (back_from s t.end)) fresh_notes (back_from s t.end)) out) (same_node p s.anchoring) back_found)
    where
      by_node : (o : Option ℕ) → start_node p s.anchoring ≡ o → IfStarts o (IsFind m' fresh_notes s) (Some t) → IfStarts o (IsFindBack (machine_of member is_word p (back_from s t.end)) fresh_notes (back_from s t.end)) out
          → out ≡ Some (record { start = start_of t; pattern = t.pattern; end = t.end })
      by_node None starts e e' = absurd (cc e)
      by_node (Some q) starts is is' = match_at q t out starts is is'

module _ {S : Type 0} (member : S → ℕ → Bool) (is_word : ℕ → Bool) (p : Program Look S) (s : Search) where
  must_fit : (q : ℕ) (a : PatternMatch) → CountsBack (machine_of member is_word p s) fresh_notes s q a → FitsContent s
  must_fit q a counts =
      let inside = counts.inside in
      record { slice_start = omega (arith, inside.0, inside.4); start = omega (arith, inside.2, inside.4) }

  pub nothing_is_found_outside : (FitsContent s → ⊥) → ProgramFindsBack member is_word p s None
  nothing_is_found_outside outside = by_node (start_node p s.anchoring)
    where
      by_node : (o : Option ℕ) → IfStarts o (IsFindBack (machine_of member is_word p s) fresh_notes s) None
      by_node None = refl
      by_node (Some q) = none_back (λ a counts. outside (must_fit q a counts))
