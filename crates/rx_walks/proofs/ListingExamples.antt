-- A list of matches made from the nodes that lead to a match; and searches for one pattern of several, where all matches
-- are wanted.
use Rattle.std.proofs.Common.{◌≡◌, ℕ, ◌+◌, ◌≤◌, Bool, true, false, ◌==◌, List, [], ◌∷◌, Some, None, refl, sym, subst, ◌∙◌, arith}
use Rattle.std.proofs.Math.Utf8.{encode}
use Rattle.std.specs.Str.{is_utf8, chars}
use Rattle.rx_walks.specs.Finds.{Search, Anchoring, unanchored, anchored_pattern, from_place_on}
use Rattle.rx_walks.specs.Laws.{MayBegin}
use Rattle.rx_walks.specs.Leading.{LeadsToMatch, matched, read}
use Rattle.rx_walks.specs.LeadLaws.{begins_from}
use Rattle.rx_walks.specs.Listings.{Listing, over, listed}
use Rattle.rx_walks.specs.Looks.{Look}
use Rattle.rx_walks.specs.Machines.{Machine, Outcome, goes}
use Rattle.rx_walks.specs.Paths.{Path, at_end, by_edge, by_read}
use Rattle.rx_walks.specs.ProgramFinds.{ProgramFindsAll, ProgramMatches, machine_of}
use Rattle.rx_walks.specs.Programs.{Program, Notes, fresh_notes, match, pass, set}
use Rattle.rx_walks.specs.StepsAll as all
use Rattle.rx_walks.specs.StepsAll.{StepsAll, Met, met_first, met_other}
use Rattle.rx_walks.proofs.Evaluation.{is_seen_false, begins_at_true, found_by_all}
use Rattle.rx_walks.proofs.InsideLaws.{none_there, same_goes}
use Rattle.rx_walks.proofs.ListingLaws.{listings_are_matches}

abbrev is_letter : ℕ → ℕ → Bool
is_letter x c = x == c

-- `x` is the one word character
abbrev is_x : ℕ → Bool
is_x c = c == 120

abbrev all_of : List ℕ → Anchoring → Search
all_of content anchoring = record {
  content = content;
  slice_start = 0;
  slice_end = 100;
  start = 0;
  end = 100;
  anchoring = anchoring;
  utf8_empty = true;
}

-- ---- the list of `a` in `aa`

abbrev a_once : Program Look ℕ
a_once = record { nodes = set 97 1 ∷ match 0 ∷ []; start = 0; patterns = 0 ∷ []; line_terminator = 10 }

abbrev aa : Search
aa = all_of (97 ∷ 97 ∷ []) unanchored

abbrev of_aa : Machine ℕ Notes
of_aa = machine_of is_letter is_x a_once aa

abbrev match_at : ℕ → ℕ → Outcome Notes
match_at start end = record { pattern = 0; end = end; notes = fresh_notes start }

leads_at_0 : LeadsToMatch of_aa 0 0
unfolding is_utf8 chars encode
leads_at_0 = record { pattern = 0; end = 1; path = by_read 1 1 refl (at_end refl) }

leads_at_1 : LeadsToMatch of_aa 0 1
unfolding is_utf8 chars encode
leads_at_1 = record { pattern = 0; end = 2; path = by_read 1 2 refl (at_end refl) }

-- no path goes on from a node without edges
no_path : (q i p e : ℕ) → of_aa.move i q ≡ goes [] → Path of_aa q i p e → ⊥
no_path q i p e still (at_end is) = absurd (cc (still, is))
no_path q i p e still (by_edge rs r k is at path) = none_there rs k (same_goes rs [] (sym is ∙ still)) at
no_path q i p e still (by_read r j is path) = absurd (cc (still, is))

leads_not_at_2 : LeadsToMatch of_aa 0 2 → ⊥
unfolding is_utf8 chars encode
leads_not_at_2 leads = no_path 0 2 leads.pattern leads.end refl leads.path

none_from_2 : (j : ℕ) → 2 ≤ j → begins_from aa 2 j → LeadsToMatch of_aa 0 j → ⊥
none_from_2 j from begins leads =
    leads_not_at_2 (subst (λ i. LeadsToMatch of_aa 0 i) (omega (arith, from, begins.0.0.4)) leads)

list_of_a : Listing of_aa (begins_from aa) fresh_notes 0 false 0 0 (match_at 0 1 ∷ match_at 1 2 ∷ [])
unfolding is_utf8 chars encode
list_of_a =
    listed (begins_at_true aa 0 refl) (read 1 (is_seen_false [] 0 refl) leads_at_0 refl (matched (is_seen_false [] 1 refl) refl))
    (λ after same at. omega (arith, at)) (
    listed (begins_at_true (from_place_on aa 1) 1 refl) (read 1 (is_seen_false [] 0 refl) leads_at_1 refl (matched (is_seen_false [] 1 refl) refl))
    (λ after same at. omega (arith, at)) (
    over none_from_2))

matches_of_a : ProgramMatches is_letter is_x a_once aa (match_at 0 1 ∷ match_at 1 2 ∷ [])
matches_of_a = listings_are_matches is_letter is_x a_once aa 0 (match_at 0 1 ∷ match_at 1 2 ∷ []) refl list_of_a

-- ---- one of `b`, `ab??` and `ab` in `ab`, where all matches are wanted

abbrev three : Program Look ℕ
three = record {
  nodes = pass (1 ∷ 3 ∷ 7 ∷ []) ∷ set 98 2 ∷ match 0 ∷ set 97 4 ∷ pass (6 ∷ 5 ∷ []) ∷ set 98 6 ∷ match 1 ∷ set 97 8 ∷ set 98 9 ∷ match 2 ∷ [];
  start = 0;
  patterns = 1 ∷ 3 ∷ 7 ∷ [];
  line_terminator = 10;
}

abbrev ab_of : ℕ → Search
ab_of pattern = all_of (97 ∷ 98 ∷ []) (anchored_pattern pattern)

abbrev machine : ℕ → Machine ℕ Notes
machine pattern = machine_of is_letter is_x three (ab_of pattern)

none_further : (pattern i : ℕ) → MayBegin (ab_of pattern) (i + 1) → ⊥
none_further pattern i begins = omega (arith, begins.0.1 refl)

none_past : (pattern j : ℕ) → 3 ≤ j → MayBegin (ab_of pattern) j → ⊥
none_past pattern j from begins = omega (arith, from, begins.0.0.4)

none_met : (s p : ℕ) → Met s p [] → ⊥
none_met s p met = elim met [ ]

-- the third is found, though the second has the same match
third_at_2 : (s p : ℕ) → Met s p ((0, 2) ∷ []) → (0 ≤ s) × (s ≡ 0 → 2 ≤ p)
third_at_2 s p (met_first e e') = (omega arith, λ same. omega (arith, e'))
third_at_2 s p (met_other met) = absurd (none_met s p met)

third : ProgramFindsAll is_letter is_x three (ab_of 2) (Some (record { start = 0; pattern = 2; end = 2 }))
unfolding is_utf8 chars encode
third = found_by_all is_letter is_x three (ab_of 2) 7 (Some (record { start = 0; pattern = 2; end = 2 })) refl (
    all.started (begins_at_true (ab_of 2) 0 refl) (all.read 8 (is_seen_false [] 7 refl) refl all.done) (all.none_met none_met) (
    all.stepped (none_further 2 0) (all.read 9 (is_seen_false [] 8 refl) refl all.done) (all.none_met none_met) (
    all.stepped (none_further 2 1) (all.met (is_seen_false [] 9 refl) refl all.done) (all.some_met (met_first refl refl) third_at_2) (
    all.over (none_past 2)))))

-- the first isn't: its match would start past the span's start
no_first : ProgramFindsAll is_letter is_x three (ab_of 0) None
unfolding is_utf8 chars encode
no_first = found_by_all is_letter is_x three (ab_of 0) 1 None refl (
    all.started (begins_at_true (ab_of 0) 0 refl) (all.opened [] (is_seen_false [] 1 refl) refl all.done) (all.none_met none_met) (
    all.stepped (none_further 0 0) all.done (all.none_met none_met) (
    all.stepped (none_further 0 1) all.done (all.none_met none_met) (
    all.over (none_past 0)))))

-- there is no fourth
no_fourth : ProgramFindsAll is_letter is_x three (ab_of 3) None
no_fourth = refl
