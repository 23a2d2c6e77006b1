-- The results of a program whose matches are one literal.
use Rattle.std.proofs.Common.{◌≡◌, ℕ, ◌+◌, ◌<◌, ◌≤◌, Bool, true, IsTrue, List, [], ◌∷◌, take, length, Option, Some, None, refl, sym, ap, subst, ◌∙◌, arith, inl}
use Rattle.std.proofs.lemmas.List.{length-take, get_or-take}
use Rattle.std.proofs.lemmas.List.Elements.{All-head, All-same}
use Rattle.memchr.specs.Find.{OccursAt}
use Rattle.rx_sets.specs.Sets.{Range}
use Rattle.rx_utf8.specs.Automata.{is_in}
use Rattle.rx_util.specs.declared.search.Span.{Span}
use Rattle.rx_walks.specs.Looks.{Look}
use Rattle.rx_walks.specs.Machines.{Machine, Outcome}
use Rattle.rx_walks.specs.Finds.{Search, unanchored, anchored, IsInside, IsPossible, Counts, IsFind, not_found, is_found, is_anchored}
use Rattle.rx_walks.specs.Programs.{Program, Notes, fresh_notes}
use Rattle.rx_walks.specs.ProgramFinds.{ProgramFinds, machine_of, highest, start_node, IfStarts}
use Rattle.rx_literals.specs.Needles.{AreNeedles, IsNeedle, FoundAt, no_needle, this_needle, other_needle, FoundBetween, nowhere, at_least_place}
use Rattle.rx_literals.specs.Beginnings.{FirstNeedle}
use Rattle.rx_literals.specs.Literals.{FindsLiteral, MatchesOnly, literal_match, within, IsLiteralOf, LiesInSlice, LiteralsFind}
use Rattle.rx_literals.proofs.SkipLaws.{occurs_in_more}

-- a single needle: the find at an offset decides whether it occurs there
record IsThere (bytes literal : List ℕ) (i : ℕ) (span : Span) : Type 0 where
  pub occurs : OccursAt bytes literal i
  pub span_is : record { start = i; end = i + length literal } ≡ span

some_there : {bytes literal : List ℕ} {i : ℕ} {needles : List (List ℕ)} {out : Option Span} {span : Span} → FoundAt bytes i needles out → needles ≡ literal ∷ [] → out ≡ Some span → IsThere bytes literal i span
some_there no_needle one e = absurd (cc e)
some_there {bytes = bytes} {literal = literal} {i = i} {span = span} (this_needle {needle = needle} {needles = others} occurs) one e =
    let same : needle ≡ literal = cc one in
    record { occurs = subst (λ n. OccursAt bytes n i) same occurs; span_is = subst (λ n. record { start = i; end = i + length n } ≡ span) same (span_is e) }
  where
    span_is : {a b : Span} → Some a ≡ Some b → a ≡ b
    span_is e = cc e
some_there (other_needle {needles = others} absent found) one e = absurd (none_left found (cc one) e)
  where
    none_left : {bytes : List ℕ} {i : ℕ} {needles : List (List ℕ)} {out : Option Span} {span : Span} → FoundAt bytes i needles out → needles ≡ [] → out ≡ Some span → ⊥
    none_left no_needle none e = cc e
    none_left (this_needle occurs) none e = cc none
    none_left (other_needle absent found) none e = cc none

none_there : {bytes literal : List ℕ} {i : ℕ} {needles : List (List ℕ)} {out : Option Span} → FoundAt bytes i needles out → needles ≡ literal ∷ [] → out ≡ None → OccursAt bytes literal i → ⊥
none_there no_needle one e occurs = absurd (cc one)
none_there (this_needle here) one e occurs = absurd (cc e)
none_there {bytes} {literal} {i} (other_needle {needle = needle} absent found) one e occurs =
    let same : literal ≡ needle = cc one in
    absent (subst (λ n. OccursAt bytes n i) same occurs)

-- an occurrence that ends before a split is in the bytes up to it
occurs_before : (content literal : List ℕ) (n m i : ℕ) → i + length literal ≤ n → n ≤ m → OccursAt (take m content) literal i → OccursAt (take n content) literal i
occurs_before content literal n m i ends_ fewer occurs = record {
  fits = omega (arith, length-take n content, length-take m content, ends_, occurs.fits);
  reads = λ j below.
      let low : i + j < n = omega (arith, ends_, below) in
      get_or-take n content (i + j) 0 low ∙ sym (get_or-take m content (i + j) 0 (omega (arith, low, fewer))) ∙ occurs.reads j below;
}

module _ (literal : List ℕ) (p : Program Look (List Range)) (is_word : ℕ → Bool) (s : Search) (some : 1 ≤ length literal) (only : MatchesOnly literal p) where
  abbrev M : Machine ℕ Notes
  M = machine_of is_in is_word p s

  abbrev Bytes : List ℕ
  Bytes = take s.end s.content

  -- it occurs at a start that counts
  occurs_there : {i : ℕ} {t : Outcome Notes} → Counts M fresh_notes s p.start i t → OccursAt Bytes literal i
  occurs_there {i} {t} counts =
      let told = (only is_word s i t counts.possible.0).0 counts.least in
      let high : highest s ≤ s.end = omega arith in
      occurs_in_more s.content literal (highest s) s.end i high told.0

  -- and a start counts if it occurs there in the slice
  counts_there : (i : ℕ) → s.start ≤ i → (IsTrue (is_anchored s.anchoring) → i ≡ s.start) → s.slice_start ≤ i → i + length literal ≤ s.slice_end → OccursAt Bytes literal i
      → Counts M fresh_notes s p.start i (literal_match (record { start = i; end = i + length literal }))
  counts_there i from at_start low high occurs =
      let ends_ : i + length literal ≤ highest s = omega (arith, high, occurs.fits, length-take s.end s.content) in
      let fewer : highest s ≤ s.end = omega arith in
      let inside : IsInside s i = (low, omega (arith, high), from, omega (arith, ends_, fewer), omega (arith, occurs.fits, length-take s.end s.content)) in
      record {
        possible = (inside, at_start);
        least = (only is_word s i (literal_match (record { start = i; end = i + length literal })) inside).1 (occurs_before s.content literal (highest s) s.end i ends_ fewer occurs, refl);
        may_end = inl (λ e. omega (arith, e, some));
      }

  starts : (out : Option (Outcome Notes)) → start_node p s.anchoring ≡ Some p.start → IsFind M fresh_notes s p.start out → ProgramFinds is_in is_word p s out
  starts out at finds = subst (λ o. IfStarts o (IsFind M fresh_notes s) out) (sym at) finds

  find_none : start_node p s.anchoring ≡ Some p.start → ((i : ℕ) → IsPossible s i → OccursAt Bytes literal i → ⊥) → ProgramFinds is_in is_word p s None
  find_none at absent = starts None at (not_found (λ i t counts. absent i counts.possible (occurs_there counts)))

  find_first : (i : ℕ) (span : Span) → start_node p s.anchoring ≡ Some p.start → s.start ≤ i → (IsTrue (is_anchored s.anchoring) → i ≡ s.start) → ((j : ℕ) → IsPossible s j → j < i → OccursAt Bytes literal j → ⊥)
      → IsThere Bytes literal i span → LiesInSlice s span → ProgramFinds is_in is_word p s (Some (literal_match span))
  find_first i span at from at_start absent there lies =
      let low : s.slice_start ≤ i = subst (λ x. s.slice_start ≤ x) (sym (ap (λ (x : Span). x.start) there.span_is)) lies.from in
      let high : i + length literal ≤ s.slice_end = subst (λ x. x ≤ s.slice_end) (sym (ap (λ (x : Span). x.end) there.span_is)) lies.to in
      let found : ProgramFinds is_in is_word p s (Some (literal_match (record { start = i; end = i + length literal }))) =
      starts (Some (literal_match (record { start = i; end = i + length literal }))) at (is_found (counts_there i from at_start low high there.occurs) (λ j u below counts. absent j counts.possible below (occurs_there counts))) in
      subst (λ (x : Span). ProgramFinds is_in is_word p s (Some (literal_match x))) there.span_is found

-- so the literal's match is found in the span, and in the part that it takes
literal_found : (literal : List ℕ) (p : Program Look (List Range)) (is_word : ℕ → Bool) (s : Search) → 1 ≤ length literal → MatchesOnly literal p → (i : ℕ) (span : Span)
    → start_node p s.anchoring ≡ Some p.start → s.start ≤ i → (IsTrue (is_anchored s.anchoring) → i ≡ s.start)
    → ((j : ℕ) → IsPossible s j → j < i → OccursAt (take s.end s.content) literal j → ⊥) → IsThere (take s.end s.content) literal i span → LiesInSlice s span → FindsLiteral p is_word s span
literal_found literal p is_word s some only i span at from at_start absent there lies =
    subst (FindsLiteral p is_word s) there.span_is (record {
      some = omega (arith, some);
      finds = find_first literal p is_word s some only i here at from at_start absent (record { occurs = there.occurs; span_is = refl }) lies_here;
      alone = find_first literal p is_word (within s here) some only i here at (omega arith) (λ told. refl) (λ j possible below occurs. omega (arith, possible.0.2, below)) (record { occurs = occurs_before s.content literal (i + length literal) s.end i (omega arith) fewer there.occurs; span_is = refl }) (record { from = lies_here.from; to = lies_here.to });
    })
  where
    here : Span
    here = record { start = i; end = i + length literal }

    lies_here : LiesInSlice s here
    lies_here = subst (LiesInSlice s) (sym there.span_is) lies

    fewer : i + length literal ≤ s.end
    fewer = omega (arith, there.occurs.fits, length-take s.end s.content)

-- ---- the law

module _ (needles : List (List ℕ)) (p : Program Look (List Range)) (is_word : ℕ → Bool) (s : Search) (are : AreNeedles needles) (is : IsLiteralOf needles p) where
  abbrev SpanBytes : List ℕ
  SpanBytes = take s.end s.content

  some : 1 ≤ length is.literal
  some = let own : IsNeedle is.literal = All-head IsNeedle is.literal [] (All-same IsNeedle (is.literal ∷ []) needles (sym is.needles_are) are.each) in own.0

  free_start : s.anchoring ≡ unanchored → start_node p s.anchoring ≡ Some p.start
  free_start free = ap (start_node p) free

  not_anchored : s.anchoring ≡ unanchored → IsTrue (is_anchored s.anchoring) → ⊥
  not_anchored free at_start = let told : is_anchored s.anchoring ≡ true = at_start in absurd (cc (told, ap is_anchored free))

  kept_start : s.anchoring ≡ anchored → start_node p s.anchoring ≡ Some p.start
  kept_start kept = ap (start_node p) kept

  at_its_start : s.anchoring ≡ anchored → (j : ℕ) → IsPossible s j → j ≡ s.start
  at_its_start kept j possible = possible.1 (ap is_anchored kept)

  no_first : s.anchoring ≡ unanchored → FirstNeedle needles s None → ProgramFinds is_in is_word p s None
  no_first free first = by first refl
    where
      by : {out : Option Span} → FoundBetween SpanBytes needles s.start s.end out → out ≡ None → ProgramFinds is_in is_word p s None
      by (nowhere none) e =
          find_none is.literal p is_word s some is.matches_only (free_start free)
          (λ i possible occurs. none_there (none i possible.0.2 (omega (arith, occurs.fits, length-take s.end s.content, some))) is.needles_are refl occurs)
      by (at_least_place i low high here absent) e = absurd (cc e)

  first_there : (span : Span) → s.anchoring ≡ unanchored → FirstNeedle needles s (Some span) → LiesInSlice s span → FindsLiteral p is_word s span
  first_there span free first lies = by first refl
    where
      by : {out : Option Span} → FoundBetween SpanBytes needles s.start s.end out → out ≡ Some span → FindsLiteral p is_word s span
      by (nowhere none) e = absurd (cc e)
      by (at_least_place i low high here absent) e =
          literal_found is.literal p is_word s some is.matches_only i span (free_start free) low (λ told. absurd (not_anchored free told))
          (λ j possible below occurs. none_there (absent j possible.0.2 below) is.needles_are refl occurs)
          (some_there here is.needles_are e) lies

  none_at_start : s.anchoring ≡ anchored → FoundAt SpanBytes s.start needles None → ProgramFinds is_in is_word p s None
  none_at_start kept found =
      find_none is.literal p is_word s some is.matches_only (kept_start kept)
      (λ i possible occurs. none_there found is.needles_are refl (subst (λ x. OccursAt SpanBytes is.literal x) (at_its_start kept i possible) occurs))

  there_at_start : (span : Span) → s.anchoring ≡ anchored → FoundAt SpanBytes s.start needles (Some span) → LiesInSlice s span → FindsLiteral p is_word s span
  there_at_start span kept found lies =
      literal_found is.literal p is_word s some is.matches_only s.start span (kept_start kept) (omega arith) (λ told. refl)
      (λ j possible below occurs. omega (arith, at_its_start kept j possible, below))
      (some_there found is.needles_are refl) lies

pub literals_find : LiteralsFind
literals_find needles p is_word s are is = record {
  nowhere = no_first needles p is_word s are is;
  first = first_there needles p is_word s are is;
  not_at_start = none_at_start needles p is_word s are is;
  at_start = there_at_start needles p is_word s are is;
}
