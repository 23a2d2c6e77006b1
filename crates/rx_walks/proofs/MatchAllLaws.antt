-- The list of matches for `MatchKind::All`.
use Rattle.std.proofs.Common.{◌≡◌, ◌↔◌, ℕ, Bool, IsTrue, List, [], ◌∷◌, length, All, Option, Some, None, append_assoc, refl, sym, subst}
use Rattle.std.specs.Str.{IsUtf8}
use Rattle.std.specs.List.{last_or}
use Rattle.std.proofs.lemmas.List.{append-nil}
use Rattle.rx_walks.specs.Machines.{Outcome}
use Rattle.rx_walks.specs.Looks.{Look}
use Rattle.rx_walks.specs.Finds.{Search, from_place_on, PatternMatch, IsFind, IsFindAll, is_found, none_at_all}
use Rattle.rx_walks.specs.Matches.{RepeatedFinds}
use Rattle.rx_walks.specs.Programs.{Program, Notes, fresh_notes, put_note}
use Rattle.rx_walks.specs.ProgramFinds.{ProgramFinds, ProgramFindsAll, ProgramMatchesAll, finds_all_on, IfStarts, haystack_of, holds_in, machine_of, start_node}
use Rattle.rx_walks.specs.MatchesAll.{HasFirstMatchesAll, StandsWhole}
use Rattle.rx_walks.proofs.ExistLaws.{program_find_exists}
use Rattle.rx_walks.proofs.FindBackLaws.{starts_first}
use Rattle.rx_walks.proofs.PathLaws.{walk_reaches}
use Rattle.rx_walks.proofs.WholeLaws.{reads_whole}
use Rattle.rx_walks.proofs.AllFindLaws.{begins_all}
use Rattle.rx_walks.proofs.AllExistLaws.{program_find_all_exists}
use Rattle.rx_walks.proofs.UniqueLaws.{program_find_all_unique}
use Rattle.rx_walks.proofs.BoundaryLaws.{finds_all_stand_at_boundaries}
use Rattle.rx_walks.proofs.MatchLaws.{members, lies_all, one_more_first, comes_next, all_first, none_comes_next, comes_next_exists, comes_next_once, matches_exist}

module _ {S : Type 0} (member : S → ℕ → Bool) (is_word : ℕ → Bool) (p : Program Look S) (s : Search) where
  abbrev FoundAll : ℕ → Option PatternMatch → Type 0
  FoundAll i out = ProgramFindsAll member is_word p (from_place_on s i) out

  abbrev repeated_all : RepeatedFinds PatternMatch
  repeated_all = finds_all_on (ProgramFindsAll member is_word p) s

  exists : (i : ℕ) → (out : Option PatternMatch) × FoundAll i out
  exists i = program_find_all_exists member is_word p (from_place_on s i)

  is_one : (i : ℕ) (out out' : Option PatternMatch) → FoundAll i out → FoundAll i out' → out ≡ out'
  is_one i out out' f f' = program_find_all_unique member is_word p (from_place_on s i) out out' f f'

  pub program_first_matches_all : HasFirstMatchesAll member is_word p s
  program_first_matches_all = record {
    none = matches_exist repeated_all exists (length s.content) (lies_all member is_word p s) s.start;
    one_more = λ ms t. (
      (λ h. one_more_first repeated_all is_one s.start ms h.0.0 t h.0.1 h.1),
      (λ h. let is = subst (λ xs. ProgramMatchesAll member is_word p s xs) (append_assoc ms (t ∷ []) h.0) h.1 in ((t ∷ h.0, is), comes_next repeated_all s.start ms t h.0 is)),
    );
    all = λ ms. (
      (λ h. all_first repeated_all is_one s.start ms h.0.0 h.0.1 h.1),
      (λ is. (([], subst (λ xs. ProgramMatchesAll member is_word p s xs) (sym (append-nil ms)) is), none_comes_next repeated_all s.start ms is)),
    );
    next = λ ms. comes_next_exists repeated_all exists s.start (last_or None ms);
    next_is_one = λ ms out out' next next'. comes_next_once repeated_all is_one s.start (last_or None ms) out out' next next';
  }

  pub matches_all_stand_at_boundaries : (ms : List PatternMatch) → IsUtf8 s.content → IsTrue s.utf8_empty → ProgramMatchesAll member is_word p s ms → All (StandsWhole s.content) ms
  matches_all_stand_at_boundaries ms utf8 on is =
      members repeated_all (length s.content) (lies_all member is_word p s) (StandsWhole s.content)
      (λ i a from f. finds_all_stand_at_boundaries member is_word p (from_place_on s i) utf8 on a f) is

-- ---- whether something is found

module _ {S : Type 0} (member : S → ℕ → Bool) (is_word : ℕ → Bool) (p : Program Look S) (s : Search) where
  abbrev First : ℕ → Option (Outcome Notes) → Type 0
  First q out = IsFind (machine_of member is_word p s) fresh_notes s q out

  abbrev Greatest : ℕ → Option PatternMatch → Type 0
  Greatest q out = IsFindAll (machine_of member is_word p s) fresh_notes s q out

  none_of_all : (q : ℕ) → start_node p s.anchoring ≡ Some q → ProgramFinds member is_word p s None → Greatest q None
  none_of_all q starts finds = none_at_all (λ a counts. (starts_first member is_word p s q starts).not_found finds a.start a.pattern a.end
      (begins_all (reads_whole put_note member p.nodes (haystack_of (holds_in is_word p.line_terminator s) s)) counts) (walk_reaches counts.reaches))

  none_first : (q : ℕ) (out : Option (Outcome Notes)) → First q out → Greatest q None → First q None
  none_first q None finds all = finds
  none_first q (Some t) (is_found {i = i} counts before) (none_at_all never) = absurd (never (record { start = i; pattern = t.pattern; end = t.end }) (record {
    possible = counts.possible;
    reaches = record { choices = counts.least.choices; outcome = t; walk = counts.least.walk; pattern_is = refl; end_is = refl };
    may_end = counts.may_end;
  }))

  pub finds_agree : ProgramFinds member is_word p s None ↔ ProgramFindsAll member is_word p s None
  finds_agree = by_start (start_node p s.anchoring) refl
    where
      by_start : (o : Option ℕ) → start_node p s.anchoring ≡ o → ProgramFinds member is_word p s None ↔ ProgramFindsAll member is_word p s None
      by_start None e = ((λ f. subst (λ z. IfStarts z Greatest None) (sym e) refl), (λ f. subst (λ z. IfStarts z First None) (sym e) refl))
      by_start (Some q) e = (
        (λ f. subst (λ z. IfStarts z Greatest None) (sym e) (none_of_all q e f)),
        (λ f. let one = program_find_exists member is_word p s in
            subst (λ z. IfStarts z First None) (sym e) (none_first q one.0 (subst (λ z. IfStarts z First one.0) e one.1) (subst (λ z. IfStarts z Greatest None) e f))),
      )
