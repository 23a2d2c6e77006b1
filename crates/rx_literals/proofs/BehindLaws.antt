-- A search finds what it finds from a place on, where no start before the place counts.
use Rattle.std.proofs.Common.{◌≡◌, ℕ, ◌≤◌, Bool, true, IsTrue, List, Option, sym, ap, subst, arith}
use Rattle.rx_sets.specs.Sets.{Range}
use Rattle.rx_utf8.specs.Automata.{is_in}
use Rattle.rx_walks.specs.Looks.{Look}
use Rattle.rx_walks.specs.Machines.{Outcome}
use Rattle.rx_walks.specs.Finds.{Search, unanchored, from_place_on, IsInside, Counts, IsFind, not_found, is_found, is_anchored}
use Rattle.rx_walks.specs.Programs.{Program, Notes, fresh_notes}
use Rattle.rx_walks.specs.ProgramFinds.{ProgramFinds, machine_of, haystack_of, holds_in, lowest, start_node, IfStarts}
use Rattle.rx_literals.proofs.LowLaws.{least_from}

module _ (p : Program Look (List Range)) (is_word : ℕ → Bool) (s : Search) where
  abbrev CountsIn : ℕ → Outcome Notes → Type 0
  CountsIn i t = Counts (machine_of is_in is_word p s) fresh_notes s p.start i t

  pub starting : (out : Option (Outcome Notes)) → s.anchoring ≡ unanchored → IsFind (machine_of is_in is_word p s) fresh_notes s p.start out → ProgramFinds is_in is_word p s out
  starting out free finds = subst (λ o. IfStarts o (IsFind (machine_of is_in is_word p s) fresh_notes s) out) (sym (ap (start_node p) free)) finds

  module _ (place : ℕ) (free : s.anchoring ≡ unanchored) (high : s.start ≤ place) (behind : (i : ℕ) (t : Outcome Notes) → CountsIn i t → place ≤ i) where
    abbrev On : Search
    On = from_place_on s place

    low_there : (i : ℕ) → IsInside s i → place ≤ i → (lowest s ≤ i) × (lowest On ≤ i)
    low_there i inside above = (omega (arith, inside.0, inside.2), omega (arith, inside.0, above))

    counts_on : {i : ℕ} {t : Outcome Notes} → CountsIn i t → Counts (machine_of is_in is_word p On) fresh_notes On p.start i t
    counts_on {i} {t} counts =
        let above = behind i t counts in
        let inside = counts.possible.0 in
        let low = low_there i inside above in
        record {
          possible = ((inside.0, inside.1, above, inside.3, inside.4), λ told. absurd (not_anchored told));
          least = least_from is_in p.nodes (haystack_of (holds_in is_word p.line_terminator s) s) 0 (lowest s) (lowest On) low.0 low.1 counts.least;
          may_end = counts.may_end;
        }
      where
        not_anchored : IsTrue (is_anchored s.anchoring) → ⊥
        not_anchored at_start = let told : is_anchored s.anchoring ≡ true = at_start in absurd (cc (told, ap is_anchored free))

    counts_all : {i : ℕ} {t : Outcome Notes} → Counts (machine_of is_in is_word p On) fresh_notes On p.start i t → CountsIn i t
    counts_all {i} counts =
        let inside = counts.possible.0 in
        let whole : IsInside s i = (inside.0, inside.1, omega (arith, inside.2, high), inside.3, inside.4) in
        let low = low_there i whole inside.2 in
        record {
          possible = (whole, λ told. absurd (not_anchored told));
          least = least_from is_in p.nodes (haystack_of (holds_in is_word p.line_terminator s) s) 0 (lowest On) (lowest s) low.1 low.0 counts.least;
          may_end = counts.may_end;
        }
      where
        not_anchored : IsTrue (is_anchored s.anchoring) → ⊥
        not_anchored at_start = let told : is_anchored s.anchoring ≡ true = at_start in absurd (cc (told, ap is_anchored free))

    find_all : {out : Option (Outcome Notes)} → IsFind (machine_of is_in is_word p On) fresh_notes On p.start out → IsFind (machine_of is_in is_word p s) fresh_notes s p.start out
    find_all (not_found none) = not_found (λ i t counts. none i t (counts_on counts))
    find_all (is_found counts before) = is_found (counts_all counts) (λ j u below counts'. before j u below (counts_on counts'))

    pub found_all : (out : Option (Outcome Notes)) → ProgramFinds is_in is_word p On out → ProgramFinds is_in is_word p s out
    found_all out finds = starting out free (find_all (subst (λ o. IfStarts o (IsFind (machine_of is_in is_word p On) fresh_notes On) out) (ap (start_node p) free) finds))
