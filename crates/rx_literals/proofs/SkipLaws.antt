-- A search may begin at the first needle of its span.
use Rattle.std.proofs.Common.{◌≡◌, ℕ, ◌+◌, ◌<◌, ◌≤◌, Bool, List, take, length, Option, Some, None, refl, sym, subst, ◌∙◌, arith, inl, inr}
use Rattle.std.proofs.lemmas.Bool.{cases_lt}
use Rattle.std.proofs.lemmas.List.{length-take, get_or-take}
use Rattle.std.proofs.lemmas.List.Elements.{All-head, All-tail}
use Rattle.std.specs.List.{All}
use Rattle.memchr.specs.Find.{OccursAt}
use Rattle.rx_sets.specs.Sets.{Range}
use Rattle.rx_utf8.specs.Automata.{is_in}
use Rattle.rx_util.specs.declared.search.Span.{Span}
use Rattle.rx_walks.specs.Looks.{Look}
use Rattle.rx_walks.specs.Machines.{Outcome}
use Rattle.rx_walks.specs.Finds.{Search, unanchored, from_place_on, Counts, not_found}
use Rattle.rx_walks.specs.Programs.{Program, Notes, fresh_notes}
use Rattle.rx_walks.specs.ProgramFinds.{ProgramFinds, machine_of}
use Rattle.rx_walks.proofs.InsideLaws.{walk_keeps, inside_of}
use Rattle.rx_literals.specs.Needles.{AreNeedles, IsNeedle, FoundAt, no_needle, this_needle, other_needle, FoundBetween, nowhere, at_least_place, OneOccursAt, this_occurs, other_occurs}
use Rattle.rx_literals.specs.Beginnings.{MatchesBeginWith, FirstNeedle, NoNeedleNoMatch, MatchesComeBehind}
use Rattle.rx_literals.proofs.NeedleLaws.{found_start}
use Rattle.rx_literals.proofs.BehindLaws.{found_all, starting}

-- a needle that occurs in bytes that are cut occurs in all
pub occurs_in_more : (content needle : List ℕ) (n m i : ℕ) → n ≤ m → OccursAt (take n content) needle i → OccursAt (take m content) needle i
occurs_in_more content needle n m i fewer occurs = record {
  fits = omega (arith, occurs.fits, length-take n content, length-take m content, fewer);
  reads = λ j below.
      let low : i + j < n = omega (arith, occurs.fits, length-take n content, below) in
      get_or-take m content (i + j) 0 (omega (arith, low, fewer)) ∙ sym (get_or-take n content (i + j) 0 low) ∙ occurs.reads j below;
}

pub one_in_more : (content : List ℕ) {n m i : ℕ} {needles : List (List ℕ)} → n ≤ m → OneOccursAt (take n content) i needles → OneOccursAt (take m content) i needles
one_in_more content {n} {m} {i} fewer (this_occurs {needle = needle} occurs) = this_occurs (occurs_in_more content needle n m i fewer occurs)
one_in_more content fewer (other_occurs one) = other_occurs (one_in_more content fewer one)

pub none_not_one : {bytes : List ℕ} {i : ℕ} {needles : List (List ℕ)} {out : Option Span} → FoundAt bytes i needles out → out ≡ None → OneOccursAt bytes i needles → ⊥
none_not_one (this_needle occurs) e one = absurd (cc e)
none_not_one (other_needle absent found) e (this_occurs occurs) = absent occurs
none_not_one (other_needle absent found) e (other_occurs one) = none_not_one found e one
none_not_one no_needle e one = elim one [ ]

pub one_below : {bytes : List ℕ} {i : ℕ} {needles : List (List ℕ)} → All IsNeedle needles → OneOccursAt bytes i needles → i < length bytes
one_below all (this_occurs {needle = needle} {needles = needles} occurs) = let some = All-head IsNeedle needle needles all in omega (arith, occurs.fits, some.0)
one_below all (other_occurs {needle = needle} {needles = needles} one) = one_below (All-tail IsNeedle needle needles all) one

module _ (needles : List (List ℕ)) (p : Program Look (List Range)) (is_word : ℕ → Bool) (s : Search) (begins : MatchesBeginWith needles p) where
  -- a needle occurs where a start counts
  needle_there : {i : ℕ} {t : Outcome Notes} → Counts (machine_of is_in is_word p s) fresh_notes s p.start i t → OneOccursAt (take s.end s.content) i needles
  needle_there {i} {t} counts =
      let kept = walk_keeps is_in is_word p s counts.least.walk in
      let inside = inside_of s t.end kept.inside in
      one_in_more s.content inside.3 (begins is_word s i counts.least.choices t counts.possible.0 counts.least.walk)

  pub no_match : AreNeedles needles → s.anchoring ≡ unanchored → FirstNeedle needles s None → ProgramFinds is_in is_word p s None
  no_match are free first = starting p is_word s None free (not_found (λ i t counts. by first refl i counts))
    where
      by : {out : Option Span} → FoundBetween (take s.end s.content) needles s.start s.end out → out ≡ None → (i : ℕ) {t : Outcome Notes} → Counts (machine_of is_in is_word p s) fresh_notes s p.start i t → ⊥
      by (nowhere none) e i counts =
          let one = needle_there counts in
          let below = one_below are.each one in
          none_not_one (none i counts.possible.0.2 (omega (arith, below, length-take s.end s.content))) refl one
      by (at_least_place k low high here absent) e i counts = absurd (cc e)

  module _ (place : ℕ) (free : s.anchoring ≡ unanchored) (high : s.start ≤ place) (absent : (j : ℕ) → s.start ≤ j → j < place → FoundAt (take s.end s.content) j needles None) where
    counts_behind : {i : ℕ} {t : Outcome Notes} → Counts (machine_of is_in is_word p s) fresh_notes s p.start i t → place ≤ i
    counts_behind {i} counts = elim (cases_lt i place) [ inl below ↦ absurd (none_not_one (absent i counts.possible.0.2 below) refl (needle_there counts)) | inr above ↦ above ]

    pub found_there : (out : Option (Outcome Notes)) → ProgramFinds is_in is_word p (from_place_on s place) out → ProgramFinds is_in is_word p s out
    found_there out finds = found_all p is_word s place free high (λ i t counts. counts_behind counts) out finds

  pub match_behind : (span : Span) (out : Option (Outcome Notes)) → s.anchoring ≡ unanchored → FirstNeedle needles s (Some span) → ProgramFinds is_in is_word p (from_place_on s span.start) out → ProgramFinds is_in is_word p s out
  match_behind span out free first finds = by first refl
    where
      by : {o : Option Span} → FoundBetween (take s.end s.content) needles s.start s.end o → o ≡ Some span → ProgramFinds is_in is_word p s out
      by (nowhere none) e = absurd (cc e)
      by (at_least_place i low high here absent) e =
          let same : span.start ≡ i = found_start (subst (λ o. FoundAt (take s.end s.content) i needles o) e here) in
          found_there i free low absent out (subst (λ k. ProgramFinds is_in is_word p (from_place_on s k) out) same finds)

pub no_needle_no_match : NoNeedleNoMatch
no_needle_no_match needles p is_word s are begins free first = no_match needles p is_word s begins are free first

pub matches_come_behind : MatchesComeBehind
matches_come_behind needles p is_word s span out begins free first finds = match_behind needles p is_word s begins span out free first finds
