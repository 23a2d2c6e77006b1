-- Lists of matches: there is one, its matches are in order, and with the next match its first ones
-- are one more.
use Rattle.std.proofs.Common.{◌≡◌, ℕ, zero, suc, ◌+◌, ◌<◌, ◌≤◌, Bool, List, [], ◌∷◌, ◌++◌, length, Option, Some, None, append_assoc, refl, sym, ap, subst, ◌∙◌, arith, inl, inr}
use Rattle.std.specs.List.{All, AllPairs, last_or}
use Rattle.std.proofs.lemmas.Bool.{cases_lt, cases_eq}
use Rattle.std.proofs.lemmas.List.{append-nil}
use Rattle.std.proofs.lemmas.List.Elements.{All-nil, All-cons, All-weaker}
use Rattle.std.proofs.lemmas.List.Kept.{AllPairs-cons}
use Rattle.rx_walks.specs.Machines.{Outcome}
use Rattle.rx_walks.specs.Looks.{Look}
use Rattle.rx_walks.specs.Finds.{Search, from_place_on, IsInside, PatternMatch}
use Rattle.rx_walks.specs.Matches.{RepeatedFinds, Next, no_more, at_once, moved, Further, last, one_more, Matches, no_match, first, FollowEachOther, BehindLast, ComesNext, FirstMatches}
use Rattle.rx_walks.specs.Programs.{Program, Notes}
use Rattle.rx_walks.specs.ProgramFinds.{ProgramFinds, ProgramFindsAll, ProgramMatches, ProgramMatchesAll, finds_on, finds_all_on, start_of, end_of}
use Rattle.rx_walks.specs.MatchLaws.{IsFoundBehind, LiesBetween, AreInOrder, HasFirstMatches}
use Rattle.rx_walks.proofs.WalkLaws.{same_some}
use Rattle.rx_walks.proofs.FindLaws.{next_unique}
use Rattle.rx_walks.proofs.InsideLaws.{finds_lie_inside, finds_all_lie_inside}
use Rattle.rx_walks.proofs.UniqueLaws.{program_find_unique}
use Rattle.rx_walks.proofs.ExistLaws.{program_find_exists}

all_pairs_none : {X : Type 0} (R : X → X → Type 0) → AllPairs R []
all_pairs_none R i j d below within = absurd (omega (arith, within))

module _ {A : Type 0} (finds : RepeatedFinds A) where
  -- ---- each match is a find from some offset on

  found_next : (P : A → Type 0) {e : ℕ} {a : A} → ((i : ℕ) → e ≤ i → finds.find i (Some a) → P a) → Next finds e (Some a) → P a
  found_next P {e = e} each (at_once f not) = each e (omega arith) f
  found_next P {e = e} each (moved f is is' f') = each (e + 1) (omega arith) f'

  -- a find from an offset on starts there or after it, and ends at its start or after it, up to n
  module _ (n : ℕ) (lies : (i : ℕ) (a : A) → finds.find i (Some a) → (i ≤ finds.start_of a) × (finds.start_of a ≤ finds.end_of a) × (finds.end_of a ≤ n)) where
    ends_behind : {e : ℕ} {a : A} → Next finds e (Some a) → (e ≤ finds.start_of a) × (e < finds.end_of a) × (finds.end_of a ≤ n) × (finds.start_of a ≤ finds.end_of a)
    ends_behind {e = e} {a = a} (at_once f not) = let at = lies e a f in elim (cases_lt e (finds.end_of a)) [
      | inl behind ↦ (at.0, behind, at.2, at.1)
      | inr there ↦ absurd (not (omega (arith, at, there)) (omega (arith, at, there)))
    ]
    ends_behind {e = e} {a = a} (moved f is is' f') = let at = lies (e + 1) a f' in (omega (arith, at), omega (arith, at), at.2, at.1)

    members_further : (P : A → Type 0) {start e : ℕ} {ms : List A} → ((i : ℕ) (a : A) → start ≤ i → finds.find i (Some a) → P a) → start ≤ e → Further finds e ms → All P ms
    members_further P each from (last nothing) = All-nil P
    members_further P each from (one_more {a = a} {others = others} next further) =
        let at = ends_behind next in
        All-cons P a others (found_next P (λ i behind f. each i a (omega (arith, from, behind)) f) next) (members_further P each (omega (arith, from, at.1)) further)

    pub members : (P : A → Type 0) {start : ℕ} {ms : List A} → ((i : ℕ) (a : A) → start ≤ i → finds.find i (Some a) → P a) → Matches finds start ms → All P ms
    members P each (no_match nothing) = All-nil P
    members P {start = start} each (first {a = a} {others = others} f further) =
        All-cons P a others (each start a (omega arith) f) (members_further P each (let at = lies start a f in omega (arith, at)) further)

    -- ---- they are in order

    abbrev Behind : ℕ → A → Type 0
    Behind e a = (e ≤ finds.start_of a) × (e < finds.end_of a)

    all_behind : {e : ℕ} {ms : List A} → Further finds e ms → All (Behind e) ms
    all_behind {e = e} (last nothing) = All-nil (Behind e)
    all_behind {e = e} (one_more {a = a} {others = others} next further) =
        let at = ends_behind next in
        All-cons (Behind e) a others (at.0, at.1) (All-weaker (Behind (finds.end_of a)) (Behind e) (λ b on. (omega (arith, at, on), omega (arith, at, on))) others (all_behind further))

    rising_further : {e : ℕ} {ms : List A} → Further finds e ms → AllPairs (λ a b. Behind (finds.end_of a) b) ms
    rising_further (last nothing) = all_pairs_none (λ a b. Behind (finds.end_of a) b)
    rising_further (one_more {a = a} {others = others} next further) = AllPairs-cons (λ a b. Behind (finds.end_of a) b) a others (all_behind further) (rising_further further)

    pub rising : {start : ℕ} {ms : List A} → Matches finds start ms → AllPairs (λ a b. Behind (finds.end_of a) b) ms
    rising (no_match nothing) = all_pairs_none (λ a b. Behind (finds.end_of a) b)
    rising (first {a = a} {others = others} f further) = AllPairs-cons (λ a b. Behind (finds.end_of a) b) a others (all_behind further) (rising_further further)

    follow_further : {e : ℕ} {ms : List A} → Further finds e ms → FollowEachOther finds.start_of finds.end_of e ms
    follow_further (last nothing) = tt
    follow_further (one_more next further) = let at = ends_behind next in (at.0, at.3, follow_further further)

    pub follow : {start : ℕ} {ms : List A} → Matches finds start ms → FollowEachOther finds.start_of finds.end_of start ms
    follow (no_match nothing) = tt
    follow {start = start} (first {a = a} f further) = let at = lies start a f in (at.0, at.1, follow_further further)

    few_further : {e : ℕ} {ms : List A} → e ≤ n → Further finds e ms → length ms + e ≤ n
    few_further within (last nothing) = omega (arith, within)
    few_further within (one_more next further) = let at = ends_behind next in omega (arith, at, few_further at.2 further)

    pub few : {start : ℕ} {ms : List A} → Matches finds start ms → length ms ≤ n + 1
    few (no_match nothing) = omega arith
    few {start = start} (first {a = a} f further) = let at = lies start a f in omega (arith, few_further at.2 further)

  -- ---- there is a list

  module _ (each : (i : ℕ) → (out : Option A) × finds.find i out) where
    pub next_exists : (e : ℕ) → (out : Option A) × Next finds e out
    next_exists e = by (each e).0 (each e).1
      where
        by : (out : Option A) → finds.find e out → (out : Option A) × Next finds e out
        by None f = (None, no_more f)
        by (Some a) f = elim (cases_eq (finds.start_of a) e) [
          | inr not ↦ (Some a, at_once f (λ is is'. not is))
          | inl is ↦ elim (cases_eq (finds.end_of a) e) [
            | inr not ↦ (Some a, at_once f (λ _ is'. not is'))
            | inl is' ↦ let on = each (e + 1) in (on.0, moved f is is' on.1)
          ]
        ]

    pub comes_next_exists : (start : ℕ) (o : Option A) → (out : Option A) × BehindLast finds start o out
    comes_next_exists start None = each start
    comes_next_exists start (Some a) = next_exists (finds.end_of a)

    stops_or_goes_on : {e : ℕ} → ((a : A) → Next finds e (Some a) → (ms : List A) × Further finds (finds.end_of a) ms) → (out : Option A) → Next finds e out
        → (ms : List A) × Further finds e ms
    stops_or_goes_on on None next = ([], last next)
    stops_or_goes_on on (Some a) next = let others = on a next in (a ∷ others.0, one_more next others.1)

    module _ (n : ℕ) (lies : (i : ℕ) (a : A) → finds.find i (Some a) → (i ≤ finds.start_of a) × (finds.start_of a ≤ finds.end_of a) × (finds.end_of a ≤ n)) where
      further_exists : (count e : ℕ) → n < e + count → (ms : List A) × Further finds e ms
      further_exists zero e past = stops_or_goes_on (λ a next. absurd (omega (arith, past, ends_behind n lies next))) (next_exists e).0 (next_exists e).1
      further_exists (suc count) e past = stops_or_goes_on (λ a next. further_exists count (finds.end_of a) (omega (arith, past, ends_behind n lies next))) (next_exists e).0 (next_exists e).1

      pub matches_exist : (start : ℕ) → (ms : List A) × Matches finds start ms
      matches_exist start = by (each start).0 (each start).1
        where
          by : (out : Option A) → finds.find start out → (ms : List A) × Matches finds start ms
          by None f = ([], no_match f)
          by (Some a) f = let others = further_exists (suc n) (finds.end_of a) (omega arith) in (a ∷ others.0, first f others.1)

  -- ---- the first matches

  next_of_more : (start : ℕ) (ms : List A) (a t : A) (others : List A) → Further finds (finds.end_of a) (ms ++ t ∷ others) → BehindLast finds start (last_or (Some a) ms) (Some t)
  next_of_more start [] a t others (one_more next further) = next
  next_of_more start (b ∷ ms) a t others (one_more next further) = next_of_more start ms b t others further

  none_next : (start : ℕ) (ms : List A) (a : A) → Further finds (finds.end_of a) ms → BehindLast finds start (last_or (Some a) ms) None
  none_next start [] a (last nothing) = nothing
  none_next start (b ∷ ms) a (one_more next further) = none_next start ms b further

  pub comes_next : (start : ℕ) (ms : List A) (t : A) (others : List A) → Matches finds start (ms ++ t ∷ others) → ComesNext finds start ms (Some t)
  comes_next start [] t others (first f further) = f
  comes_next start (a ∷ ms) t others (first f further) = next_of_more start ms a t others further

  pub none_comes_next : (start : ℕ) (ms : List A) → Matches finds start ms → ComesNext finds start ms None
  none_comes_next start [] (no_match nothing) = nothing
  none_comes_next start (a ∷ ms) (first f further) = none_next start ms a further

  module _ (one : (i : ℕ) (out out' : Option A) → finds.find i out → finds.find i out' → out ≡ out') where
    pub comes_next_once : (start : ℕ) (o out out' : Option A) → BehindLast finds start o out → BehindLast finds start o out' → out ≡ out'
    comes_next_once start None out out' f f' = one start out out' f f'
    comes_next_once start (Some a) out out' next next' = next_unique one next next'

    more_further : (start : ℕ) (ms : List A) (a t : A) (others : List A) → Further finds (finds.end_of a) (ms ++ others) → BehindLast finds start (last_or (Some a) ms) (Some t)
        → (left : List A) × Further finds (finds.end_of a) (ms ++ t ∷ left)
    more_further start [] a t [] (last nothing) next = absurd (cc (next_unique one nothing next))
    more_further start [] a t (b ∷ others) (one_more next' further) next = (others, one_more next (subst (λ x. Further finds (finds.end_of x) others) (same_some refl (next_unique one next' next)) further))
    more_further start (b ∷ ms) a t others (one_more next' further) next = let on = more_further start ms b t others further next in (on.0, one_more next' on.1)

    pub one_more_first : (start : ℕ) (ms others : List A) (t : A) → Matches finds start (ms ++ others) → ComesNext finds start ms (Some t) → FirstMatches finds start (ms ++ t ∷ [])
    one_more_first start [] [] t (no_match nothing) f = absurd (cc (one start None (Some t) nothing f))
    one_more_first start [] (b ∷ others) t (first f' further) f = (others, first f (subst (λ x. Further finds (finds.end_of x) others) (same_some refl (one start (Some b) (Some t) f' f)) further))
    one_more_first start (a ∷ ms) others t (first f further) next =
        let on = more_further start ms a t others further next in
        (on.0, subst (λ xs. Matches finds start (a ∷ xs)) (sym (append_assoc ms (t ∷ []) on.0)) (first f on.1))

    no_more_further : (start : ℕ) (ms : List A) (a : A) (others : List A) → Further finds (finds.end_of a) (ms ++ others) → BehindLast finds start (last_or (Some a) ms) None → others ≡ []
    no_more_further start [] a [] further nothing = refl
    no_more_further start [] a (b ∷ others) (one_more next further) nothing = absurd (cc (next_unique one next nothing))
    no_more_further start (b ∷ ms) a others (one_more next further) nothing = no_more_further start ms b others further nothing

    no_others : (start : ℕ) (ms others : List A) → Matches finds start (ms ++ others) → ComesNext finds start ms None → others ≡ []
    no_others start [] [] is nothing = refl
    no_others start [] (b ∷ others) (first f further) nothing = absurd (cc (one start (Some b) None f nothing))
    no_others start (a ∷ ms) others (first f further) nothing = no_more_further start ms a others further nothing

    pub all_first : (start : ℕ) (ms others : List A) → Matches finds start (ms ++ others) → ComesNext finds start ms None → Matches finds start ms
    all_first start ms others is nothing = subst (λ xs. Matches finds start xs) (ap (λ xs. ms ++ xs) (no_others start ms others is nothing) ∙ append-nil ms) is

-- ---- of programs

inside_before : (s : Search) (i j : ℕ) → s.start ≤ i → IsInside (from_place_on s i) j → IsInside s j
inside_before s i j from inside = (inside.0, inside.1, omega (arith, from, inside.2), inside.3, inside.4)

module _ {S : Type 0} (member : S → ℕ → Bool) (is_word : ℕ → Bool) (p : Program Look S) (s : Search) where
  abbrev Found : ℕ → Option (Outcome Notes) → Type 0
  Found i out = ProgramFinds member is_word p (from_place_on s i) out

  abbrev FoundAll : ℕ → Option PatternMatch → Type 0
  FoundAll i out = ProgramFindsAll member is_word p (from_place_on s i) out

  abbrev repeated : RepeatedFinds (Outcome Notes)
  repeated = finds_on (ProgramFinds member is_word p) s

  abbrev repeated_all : RepeatedFinds PatternMatch
  repeated_all = finds_all_on (ProgramFindsAll member is_word p) s

  exists : (i : ℕ) → (out : Option (Outcome Notes)) × Found i out
  exists i = program_find_exists member is_word p (from_place_on s i)

  is_one : (i : ℕ) (out out' : Option (Outcome Notes)) → Found i out → Found i out' → out ≡ out'
  is_one i out out' f f' = program_find_unique member is_word p (from_place_on s i) out out' f f'

  lies : (i : ℕ) (t : Outcome Notes) → Found i (Some t) → (i ≤ start_of t) × (start_of t ≤ end_of t) × (end_of t ≤ length s.content)
  lies i t f = let at = (finds_lie_inside member is_word p (from_place_on s i) t f).found in (at.possible.0.2, at.ordered, at.inside.4)

  pub lies_all : (i : ℕ) (a : PatternMatch) → FoundAll i (Some a) → (i ≤ a.start) × (a.start ≤ a.end) × (a.end ≤ length s.content)
  lies_all i a f = let at = finds_all_lie_inside member is_word p (from_place_on s i) a f in (at.possible.0.2, at.ordered, at.inside.4)

  pub program_matches_exist : (ms : List (Outcome Notes)) × ProgramMatches member is_word p s ms
  program_matches_exist = matches_exist repeated exists (length s.content) lies s.start

  pub program_matches_found : (ms : List (Outcome Notes)) → ProgramMatches member is_word p s ms → All (IsFoundBehind member is_word p s) ms
  program_matches_found ms is = members repeated (length s.content) lies (IsFoundBehind member is_word p s) (λ i t from f. (i, from, f)) is

  pub program_matches_rise : (ms : List (Outcome Notes)) → ProgramMatches member is_word p s ms → AreInOrder start_of end_of s ms
  program_matches_rise ms is =
      let turns = rising repeated (length s.content) lies is in record {
        inside = members repeated (length s.content) lies (λ t. LiesBetween s (start_of t) (end_of t))
            (λ i t from f. let at = (finds_lie_inside member is_word p (from_place_on s i) t f).found in (inside_before s i (start_of t) from at.possible.0, at.ordered, inside_before s i (end_of t) from at.inside)) is;
        in_turn = follow repeated (length s.content) lies is;
        apart = λ i j d below within. (turns i j d below within).0;
        rise = λ i j d below within. (turns i j d below within).1;
        few = few repeated (length s.content) lies is;
      }

  pub program_matches_all_rise : (ms : List PatternMatch) → ProgramMatchesAll member is_word p s ms → AreInOrder (λ a. a.start) (λ a. a.end) s ms
  program_matches_all_rise ms is =
      let turns = rising repeated_all (length s.content) lies_all is in record {
        inside = members repeated_all (length s.content) lies_all (λ a. LiesBetween s a.start a.end)
            (λ i a from f. let at = finds_all_lie_inside member is_word p (from_place_on s i) a f in (inside_before s i a.start from at.possible.0, at.ordered, inside_before s i a.end from at.inside)) is;
        in_turn = follow repeated_all (length s.content) lies_all is;
        apart = λ i j d below within. (turns i j d below within).0;
        rise = λ i j d below within. (turns i j d below within).1;
        few = few repeated_all (length s.content) lies_all is;
      }

  pub program_first_matches : HasFirstMatches member is_word p s
  program_first_matches = record {
    none = program_matches_exist;
    one_more = λ ms t. (
      (λ h. one_more_first repeated is_one s.start ms h.0.0 t h.0.1 h.1),
      (λ h. let is = subst (λ xs. ProgramMatches member is_word p s xs) (append_assoc ms (t ∷ []) h.0) h.1 in ((t ∷ h.0, is), comes_next repeated s.start ms t h.0 is)),
    );
    all = λ ms. (
      (λ h. all_first repeated is_one s.start ms h.0.0 h.0.1 h.1),
      (λ is. (([], subst (λ xs. ProgramMatches member is_word p s xs) (sym (append-nil ms)) is), none_comes_next repeated s.start ms is)),
    );
    next = λ ms. comes_next_exists repeated exists s.start (last_or None ms);
    next_is_one = λ ms out out' next next'. comes_next_once repeated is_one s.start (last_or None ms) out out' next next';
  }
