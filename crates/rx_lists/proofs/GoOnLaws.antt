-- The list of matches, offset by offset.
use Rattle.std.proofs.Common.{◌≡◌, ℕ, ◌+◌, ◌-◌, ◌*◌, ◌<◌, ◌≤◌, ◌++◌, Bool, true, false, cond, max, IfSome, IsSomeAnd, IfOk, Result, Ok, Err, List, [], ◌∷◌, length, map, Option, Some, None, refl, sym, ap, ap₂, subst, ◌∙◌, arith, inl, inr}
use Rattle.std.proofs.lemmas.Bool.{cases_eq}
use Rattle.std.proofs.lemmas.List.{append-nil}
use Rattle.unicode.specs.Perl.{is_word_char}
use Rattle.rx_sets.specs.Sets.{Range}
use Rattle.rx_utf8.specs.Automata.{is_in}
use Rattle.rx_walks.specs.Machines.{Outcome}
use Rattle.rx_walks.specs.Looks as walks
use Rattle.rx_walks.specs.Programs.{Program, Notes, fresh_notes}
use Rattle.rx_walks.specs.Finds.{Search, IsInside, IsFind, from_place_on}
use Rattle.rx_walks.specs.ProgramFinds.{start_node, lowest, highest, machine_of, IfStarts}
use Rattle.rx_walks.specs.Matches.{no_match}
use Rattle.rx_walks.specs.Bytes.{Automaton}
use Rattle.rx_walks.specs.Likenesses.{noted_by, Keeping}
use Rattle.rx_walks.specs.Leading.{LeadsToMatch, Follows}
use Rattle.rx_walks.specs.Listings.{Listing, over, no_start, passed_over, listed}
use Rattle.rx_walks.specs.LeadLaws.{ByteListingsAreMatches, begins_from}
use Rattle.rx_program.specs.Programs.{ByteProgram, IsByteProgram, character_program, automata_of}
use Rattle.rx_steps.specs.Threads.{Slots, note_slot, no_slots, first_node}
use Rattle.rx_steps.specs.Searching.{slots_from}
use Rattle.rx_steps.specs.Coming.{machine_in}
use Rattle.rx_steps.proofs.SlotLaws.{slots_keep, slots_of_noted, empty_slots}
use Rattle.rx_lists.specs.Lists.{Listed, listed_of, AreAllMatches, outcome_of_listed, Lists, AreListedTo, IsFoundOnward, IsTaken, places_left, reads_for, read_before, places_in, end_or}
use Rattle.rx_lists.specs.declared.pass_back.Block.{Block}
use Rattle.rx_lists.specs.Blocks.{BlockReaches}
use Rattle.rx_lists.specs.declared.walk.Ending.{Ending}
use Rattle.rx_lists.specs.Passes.{outcome_of}
use Rattle.rx_walks.proofs.ForwardLaws.{pair_told}
use Rattle.rx_lists.proofs.LeadLaws.{follows_never}
use Rattle.rx_lists.proofs.ListedLaws.{behind_end, none_between}

module _ (p : ByteProgram) (s : Search) (q len : ℕ) where
  abbrev Leads : ℕ → Type 0
  Leads i = LeadsToMatch (machine_in p s) (first_node q) i

  abbrev Never : ℕ → ℕ → Type 0
  Never from i = begins_from s from i → Leads i → ⊥

  begins_inside : (from i : ℕ) → begins_from s from i → i ≤ highest s
  begins_inside from i b = omega (arith, b.0.0.1, b.0.0.3, b.0.0.4)

  -- no start counts at an offset: the list goes on at the next one
  pub pass_none : (found : List Listed) (after : Bool) (from i : ℕ) → (after ≡ true → from ≡ i) → from ≤ i → Never from i → AreListedTo p s q len found after from i → AreListedTo p s q len found false from (i + 1)
  pass_none found true from i at le never so_far ms on = so_far ms (no_start never (behind_end (machine_in p s) (begins_from s) (λ j. no_slots len) (first_node q) (omega (arith, le)) on))
  pass_none found false from i at le never so_far ms on = so_far ms (no_start never on)

  last_over : (from i : ℕ) → highest s < i + 1 → Never from i → (j : ℕ) → i ≤ j → begins_from s from j → Leads j → ⊥
  last_over from i past never j above b leads = elim (cases_eq j i) [
    | inl same ↦ never (subst (λ x. begins_from s from x) same b) (subst (λ x. Leads x) same leads)
    | inr other ↦ omega (arith, begins_inside from j b, past, above, other)
  ]

  all_listed : (found : List Listed) → Lists p s q len false s.start s.start (map outcome_of_listed found ++ []) → Lists p s q len false s.start s.start (map outcome_of_listed found)
  all_listed found on = subst (λ ms. Lists p s q len false s.start s.start ms) (append-nil (map outcome_of_listed found)) on

  -- or is over, at the last one
  pub over_none : (found : List Listed) (after : Bool) (from i : ℕ) → highest s < i + 1 → Never from i → AreListedTo p s q len found after from i → Lists p s q len false s.start s.start (map outcome_of_listed found)
  over_none found after from i past never so_far = all_listed found (so_far [] (over (last_over from i past never)))

  -- an empty match where one ended is skipped
  pub pass_empty : (found : List Listed) (from i : ℕ) (t : Outcome Slots) → from ≡ i → t.end ≡ i → begins_from s from i → Follows (machine_in p s) i [] ((no_slots len, first_node q) ∷ []) (Some t)
      → AreListedTo p s q len found true from i → AreListedTo p s q len found false (i + 1) (i + 1)
  pass_empty found from i t at end b follows so_far ms on =
      so_far ms (subst (λ j. Lists p s q len true j i ms) (sym at) (passed_over (subst (λ j. begins_from s j i) at b) follows end on))

  pub over_empty : (found : List Listed) (from i : ℕ) (t : Outcome Slots) → from ≡ i → t.end ≡ i → highest s < i + 1 → begins_from s from i → Follows (machine_in p s) i [] ((no_slots len, first_node q) ∷ []) (Some t)
      → AreListedTo p s q len found true from i → Lists p s q len false s.start s.start (map outcome_of_listed found)
  over_empty found from i t at end past b follows so_far =
      all_listed found (pass_empty found from i t at end b follows so_far [] (over (λ j above b' leads. omega (arith, begins_inside (i + 1) j b', past, above))))

  with_last : (found : List Listed) (x : Listed) (ms : List (Outcome Slots)) → map outcome_of_listed found ++ (outcome_of_listed x ∷ ms) ≡ map outcome_of_listed (found ++ x ∷ []) ++ ms
  with_last [] x ms = refl
  with_last (y ∷ found) x ms = ap (λ zs. outcome_of_listed y ∷ zs) (with_last found x ms)

  -- a match is listed
  pub list_one : (found found' : List Listed) (after : Bool) (from i end : ℕ) (x : Listed) → found' ≡ found ++ x ∷ [] → x.end ≡ end → (after ≡ true → x.end ≡ i → ⊥) → begins_from s from i
      → Follows (machine_in p s) i [] ((no_slots len, first_node q) ∷ []) (Some (outcome_of_listed x)) → AreListedTo p s q len found after from i → AreListedTo p s q len found' true end end
  list_one found found' after from i end x more same not b follows so_far ms on =
      subst (λ xs. Lists p s q len false s.start s.start (map outcome_of_listed xs ++ ms)) (sym more)
      (subst (λ xs. Lists p s q len false s.start s.start xs) (with_last found x ms)
      (so_far (outcome_of_listed x ∷ ms) (listed b follows (λ is at at'. not is at') (subst (λ e. Lists p s q len true e e ms) (sym same) on))))

  -- and so is the one that was found
  pub list_told : (found found' : List Listed) (after : Bool) (from i : ℕ) (x : Listed) (t : Outcome Slots) → found' ≡ found ++ x ∷ [] → Some (outcome_of_listed x) ≡ Some t → (after ≡ true → t.end ≡ i → ⊥) → IsFoundOnward p s q len from i (Some t)
      → AreListedTo p s q len found after from i → AreListedTo p s q len found' true t.end t.end
  list_told found found' after from i x t more told not is so_far =
      let same : outcome_of_listed x ≡ t = one told in
      let end : x.end ≡ t.end = ap (λ (o : Outcome Slots). o.end) same in
      list_one found found' after from i t.end x more end (λ yes' at. not yes' (sym end ∙ at)) is.0 (subst (λ o. Follows (machine_in p s) i [] ((no_slots len, first_node q) ∷ []) (Some o)) (sym same) is.1) so_far
    where
      one : Some (outcome_of_listed x) ≡ Some t → outcome_of_listed x ≡ t
      one e = cc e

  -- nothing is listed yet
  pub list_begun : (i : ℕ) → i ≡ max s.slice_start s.start → AreListedTo p s q len [] false s.start i
  list_begun i first ms on = none_between (machine_in p s) (begins_from s) (λ j. no_slots len) (first_node q) (i - s.start)
      (λ j above below b leads. omega (arith, first, above, below, b.0.0.0))
      (subst (λ j. Lists p s q len false s.start j ms) (omega (arith, first)) on)

  -- nothing if no offset is inside
  pub none_inside : ((i : ℕ) → IsInside s i → ⊥) → Lists p s q len false s.start s.start []
  none_inside never = over (λ j above b leads. never j b.0.0)

-- ---- the list is that of the program

abbrev kept : ℕ → Notes → Slots
kept len n = slots_from 0 len (record { start = 0; noted = n.noted })

abbrev keeping_slots : ℕ → Keeping Slots
keeping_slots len = record { put = note_slot; kept = kept len; alike = λ slot i n. slots_keep len slot i (record { start = 0; noted = n.noted }) }

abbrev pub ListingLaw : Type 0
ListingLaw = (keeping : Keeping Slots) (member : List Range → ℕ → Bool) (is_word : ℕ → Bool) (c : Program walks.Look (List Range)) (step : ℕ → Automaton)
    → ByteListingsAreMatches keeping member is_word c step

abbrev listed_from : Outcome Slots → Listed
listed_from t = record { pattern = t.pattern; end = t.end; slots = t.notes }

back : (found : List Listed) → map listed_from (map outcome_of_listed found) ≡ found
back [] = refl
back (x ∷ found) = ap (λ xs. x ∷ xs) (back found)

forth : (len : ℕ) (own : List (Outcome Notes)) → map listed_from (map (noted_by (kept len)) own) ≡ map (listed_of len) own
forth len [] = refl
forth len (t ∷ own) = ap₂ (λ xs ys. record { pattern = t.pattern; end = t.end; slots = xs } ∷ ys) (slots_of_noted 0 len 0 t.notes) (forth len own)

pub are_all : (p : ByteProgram) (s : Search) (q len : ℕ) (found : List Listed) → IsByteProgram p → ListingLaw → start_node (character_program p) s.anchoring ≡ Some q → Lists p s q len false s.start s.start (map outcome_of_listed found) → AreAllMatches p s len found
are_all p s q len found reads law starts lists =
    let empty : no_slots len ≡ slots_from 0 len (fresh_notes 0) = sym (empty_slots 0 len) in
    let on = law (keeping_slots len) is_in is_word_char (character_program p) (automata_of p) reads s q (map outcome_of_listed found) starts
    (subst (λ xs. Listing (machine_in p s) (begins_from s) (λ j. xs) (first_node q) false s.start s.start (map outcome_of_listed found)) empty lists) in
    record { matches = on.0; are_all = on.2; found_are = sym (back found) ∙ ap (λ ms. map listed_from ms) (sym on.1) ∙ forth len on.0 }

-- if no walk starts, there is no match
pub no_walks : (p : ByteProgram) (s : Search) (len : ℕ) (found : List Listed) → found ≡ [] → start_node (character_program p) s.anchoring ≡ None → AreAllMatches p s len found
no_walks p s len found none starts = record {
  matches = [];
  are_all = no_match (subst (λ o. IfStarts o (IsFind (machine_of is_in is_word_char (character_program p) (from_place_on s s.start)) fresh_notes (from_place_on s s.start)) None) (sym starts) refl);
  found_are = none;
}

-- ---- the number of offsets left

pub fewer_none : (content : List ℕ) (i : ℕ) (after : Bool) → i ≤ length content → places_left content (i + 1) false < places_left content i after
fewer_none content i true within = omega (arith, within)
fewer_none content i false within = omega (arith, within)

pub fewer_listed : (content : List ℕ) (i end : ℕ) (after : Bool) → i ≤ length content → i ≤ end → (after ≡ true → end ≡ i → ⊥) → places_left content end true < places_left content i after
fewer_listed content i end true within on not = elim (cases_eq end i) [ inl same ↦ absurd (not refl same) | inr other ↦ omega (arith, within, on, other) ]
fewer_listed content i end false within on not = omega (arith, within, on)

-- ---- the number of offsets read

two_at_most : (after : Bool) → cond after 2 0 ≤ 2
two_at_most true = omega arith
two_at_most false = omega arith

reads_passed : (i : ℕ) (out : Option Ending) → IfSome out (λ x. x.end ≡ i) → reads_for i out ≤ 2
reads_passed i None there = omega arith
reads_passed i (Some x) there = omega (arith, there)

read_past : (s : Search) (r r' r'' i : ℕ) (after : Bool) (out : Option Ending) → r' ≤ r + read_before s i after → r'' ≤ r' + reads_for i out → lowest s ≤ i → IfSome out (λ x. x.end ≡ i) → r'' ≤ r + read_before s (i + 1) false
read_past s r r' r'' i after out so_far more above there = omega (arith, so_far, more, above, two_at_most after, reads_passed i out there)

read_found : (s : Search) (r r' r'' i e : ℕ) (after : Bool) → r' ≤ r + read_before s i after → r'' ≤ r' + (1 + (e + 1 - i)) → lowest s ≤ i → i ≤ e → (after ≡ true → e ≡ i → ⊥) → r'' ≤ r + read_before s e true
read_found s r r' r'' i e true so_far more above on further = elim (cases_eq e i) [ inl same ↦ absurd (further refl same) | inr other ↦ omega (arith, so_far, more, above, on, other) ]
read_found s r r' r'' i e false so_far more above on further = omega (arith, so_far, more, above, on)

pub read_all : (s : Search) (r r' r'' i : ℕ) (after : Bool) (out : Option Ending) → r' ≤ r + read_before s i after → r'' ≤ r' + reads_for i out → (lowest s ≤ i) × (i ≤ highest s) → IfSome out (λ x. x.end ≡ i) → r'' ≤ r + 4 * places_in s
read_all s r r' r'' i after out so_far more inside there = omega (arith, read_past s r r' r'' i after out so_far more inside.0 there, inside.0, inside.1)

pub read_refused : (s : Search) (r r' r'' i : ℕ) (after : Bool) → r' ≤ r + read_before s i after → r'' + i ≤ r' + highest s + 2 → (lowest s ≤ i) × (i ≤ highest s) → r'' ≤ r + 4 * places_in s
read_refused s r r' r'' i after so_far more inside = omega (arith, so_far, more, inside.0, inside.1, two_at_most after)

pub found_counted : (p : ByteProgram) (s : Search) (q len i r r' : ℕ) (found : Option Ending) (slots : Slots) → LeadsToMatch (machine_in p s) (first_node q) i → Follows (machine_in p s) i [] ((no_slots len, first_node q) ∷ []) (outcome_of found slots)
    → IfSome found (λ x. r' + i ≤ r + 1 + x.end + 1) → r' ≤ r + reads_for i found
found_counted p s q len i r r' None slots leads follows counted = absurd (follows_never pair_told follows leads)
found_counted p s q len i r r' (Some x) slots leads follows counted = omega (arith, counted)

pub found_reached : (p : ByteProgram) (s : Search) (q len i : ℕ) (found : Option Ending) (slots : Slots) (block : Block) → LeadsToMatch (machine_in p s) (first_node q) i → Follows (machine_in p s) i [] ((no_slots len, first_node q) ∷ []) (outcome_of found slots)
    → IfSome found (λ x. BlockReaches block x.end) → BlockReaches block (end_or found i)
found_reached p s q len i None slots block leads follows reaches = absurd (follows_never pair_told follows leads)
found_reached p s q len i (Some x) slots block leads follows reaches = reaches

-- ---- what is found at an offset

pub found_by : (p : ByteProgram) (s : Search) (q len from i : ℕ) (out : Option (Outcome Slots)) → begins_from s from i → Follows (machine_in p s) i [] ((no_slots len, first_node q) ∷ []) out → IsFoundOnward p s q len from i out
found_by p s q len from i None b follows = λ b'. follows_never pair_told follows
found_by p s q len from i (Some t) b follows = (b, follows)

pub not_begun : (p : ByteProgram) (s : Search) (q len from i : ℕ) → (begins_from s from i → ⊥) → IsFoundOnward p s q len from i None
not_begun p s q len from i never b leads = never b

-- ---- where the list goes on

module _ (p : ByteProgram) (s : Search) (q len : ℕ) where
  pub went_on : (i pos : ℕ) (found : List Listed) (after : Bool) (from : ℕ) (end : Option ℕ) → IsTaken p s q len i found after from end → IfSome end (λ e. pos ≡ e) → (end ≡ None → pos ≡ i + 1)
      → (from ≤ pos) × (after ≡ true → from ≡ pos) × AreListedTo p s q len found after from pos
  went_on i pos found after from None taken at next = (
    omega (arith, taken.1, next refl),
    (λ yes'. absurd (cc (sym yes' ∙ taken.0))),
    subst (λ b. AreListedTo p s q len found b from pos) (sym taken.0) (subst (λ j. AreListedTo p s q len found false from j) (sym (next refl)) taken.2),
  )
  went_on i pos found after from (Some e) taken at next = (
    omega (arith, taken.1, at),
    (λ yes'. taken.1 ∙ sym at),
    subst (λ b. AreListedTo p s q len found b from pos) (sym taken.0) (subst (λ j. AreListedTo p s q len found true j pos) (sym taken.1) (subst (λ j. AreListedTo p s q len found true e j) (sym at) taken.2)),
  )

  pub went_less : (content : List ℕ) (i pos : ℕ) (found : List Listed) (after after' : Bool) (from : ℕ) (end : Option ℕ) → IsTaken p s q len i found after' from end → IfSome end (λ e. pos ≡ e) → (end ≡ None → pos ≡ i + 1)
      → IfSome end (λ e. i ≤ e) → IfSome end (λ e. after ≡ true → e ≡ i → ⊥) → i ≤ length content → places_left content pos after' < places_left content i after
  went_less content i pos found after after' from None taken at next on further within =
      subst (λ b. places_left content pos b < places_left content i after) (sym taken.0) (subst (λ j. places_left content j false < places_left content i after) (sym (next refl)) (fewer_none content i after within))
  went_less content i pos found after after' from (Some e) taken at next on further within =
      subst (λ b. places_left content pos b < places_left content i after) (sym taken.0) (subst (λ j. places_left content j true < places_left content i after) (sym at) (fewer_listed content i e after within on further))

  -- and the number of offsets read until then
  pub read_on : (s' : Search) (r r' r'' i pos : ℕ) (found : List Listed) (after after' : Bool) (from : ℕ) (out : Option Ending) (end : Option ℕ) → IsTaken p s q len i found after' from end → r' ≤ r + read_before s' i after → r'' ≤ r' + reads_for i out → lowest s' ≤ i
      → IfSome end (λ e. pos ≡ e) → (end ≡ None → pos ≡ i + 1) → IfSome end (λ e. IsSomeAnd out (λ x. x.end ≡ e)) → (end ≡ None → IfSome out (λ x. x.end ≡ i)) → IfSome end (λ e. i ≤ e) → IfSome end (λ e. after ≡ true → e ≡ i → ⊥)
      → r'' ≤ r + read_before s' pos after'
  read_on s' r r' r'' i pos found after after' from out None taken so_far more above at next is passed on further =
      subst (λ b. r'' ≤ r + read_before s' pos b) (sym taken.0) (subst (λ j. r'' ≤ r + read_before s' j false) (sym (next refl)) (read_past s' r r' r'' i after out so_far more above (passed refl)))
  read_on s' r r' r'' i pos found after after' from None (Some e) taken so_far more above at next is passed on further = absurd is
  read_on s' r r' r'' i pos found after after' from (Some x) (Some e) taken so_far more above at next is passed on further =
      subst (λ b. r'' ≤ r + read_before s' pos b) (sym taken.0) (subst (λ j. r'' ≤ r + read_before s' j true) (sym at) (read_found s' r r' r'' i e after so_far (subst (λ j. r'' ≤ r' + (1 + (j + 1 - i))) is more) above on further))

  -- the current block reaches back there
  pub reached_on : (i pos : ℕ) (out : Option Ending) (end : Option ℕ) (block : Block) → BlockReaches block (end_or out i) → IfSome end (λ e. pos ≡ e) → (end ≡ None → pos ≡ i + 1) → IfSome end (λ e. IsSomeAnd out (λ x. x.end ≡ e)) → (end ≡ None → IfSome out (λ x. x.end ≡ i)) → BlockReaches block pos
  reached_on i pos None None block reaches at next is passed = omega (arith, reaches, next refl)
  reached_on i pos (Some x) None block reaches at next is passed = omega (arith, reaches, next refl, passed refl)
  reached_on i pos None (Some e) block reaches at next is passed = absurd is
  reached_on i pos (Some x) (Some e) block reaches at next is passed = omega (arith, reaches, at, is)

  pub ended_list : (i : ℕ) (found : List Listed) (after : Bool) (from : ℕ) (end : Option ℕ) → IsTaken p s q len i found after from end → end ≡ None → highest s < i + 1 → Lists p s q len false s.start s.start (map outcome_of_listed found)
  ended_list i found after from None taken none past = taken.3 past
  ended_list i found after from (Some e) taken none past = absurd (cc none)

  -- what was found at an offset is taken there
  pub taken_at : (s' : Search) (from i at : ℕ) (out : Option Ending) (slots slots' : Slots) (found found' : List Listed) (after after' : Bool) (from' : ℕ) (end : Option ℕ)
      → ((p : ByteProgram) → (s : Search) → (q : ℕ) → (len : ℕ) → IsFoundOnward p s q len from at (outcome_of out slots') → from ≤ at → (after ≡ true → from ≡ at) → AreListedTo p s q len found after from at → IsTaken p s q len at found' after' from' end)
      → s' ≡ s → at ≡ i → slots' ≡ slots → IsFoundOnward p s' q len from i (outcome_of out slots) → from ≤ i → (after ≡ true → from ≡ i) → AreListedTo p s q len found after from i → IsTaken p s q len i found' after' from' end
  taken_at s' from i at out slots slots' found found' after after' from' end taken same there kept' is le stands so_far =
      let here : IsFoundOnward p s q len from at (outcome_of out slots') = subst (λ x. IsFoundOnward p x q len from at (outcome_of out slots')) same
      (subst (λ j. IsFoundOnward p s' q len from j (outcome_of out slots')) (sym there) (subst (λ x. IsFoundOnward p s' q len from i (outcome_of out x)) (sym kept') is)) in
      subst (λ j. IsTaken p s q len j found' after' from' end) there
      (taken p s q len here (omega (arith, le, there)) (λ yes'. stands yes' ∙ sym there) (subst (λ j. AreListedTo p s q len found after from j) (sym there) so_far))

-- the input is inside then, if it is when nothing was listed
pub inside_on : (s : Search) (end : Option ℕ) (pos : ℕ) → IfSome end (λ e. pos ≡ e) → IfSome end (λ e. IsInside s e) → (end ≡ None → IsInside s pos) → IsInside s pos
inside_on s None pos at inside on = on refl
inside_on s (Some e) pos at inside on = subst (λ j. IsInside s j) (sym at) inside

pub some_so : {A : Type 0} (P Q : A → Type 0) (o : Option A) → ((x : A) → P x → Q x) → IfSome o P → IfSome o Q
some_so P Q None so has = tt
some_so P Q (Some x) so has = so x has

-- of the ends of a match that was found
pub some_end : (found : Option Ending) (end : Option ℕ) (P : ℕ → Type 0) → IfSome end (λ e. IsSomeAnd found (λ x. x.end ≡ e)) → IfSome found (λ x. P x.end) → IfSome end (λ e. P e)
some_end found None P is has = tt
some_end None (Some e) P is has = absurd is
some_end (Some x) (Some e) P is has = subst (λ j. P j) is has

pub some_is : (end : Option ℕ) (result : Bool) (pos : ℕ) (P : ℕ → Type 0) → IfSome end (λ e. P e → (result ≡ true) × (pos ≡ e)) → IfSome end (λ e. P e) → IfSome end (λ e. pos ≡ e)
some_is None result pos P is has = tt
some_is (Some e) result pos P is has = (is has).1

pub none_was : (end : Option ℕ) (result : Bool) (pos : ℕ) (P : ℕ → Type 0) → IfSome end (λ e. P e → (result ≡ true) × (pos ≡ e)) → IfSome end (λ e. P e) → result ≡ false → end ≡ None
none_was None result pos P is has failed = refl
none_was (Some e) result pos P is has failed = absurd (cc (sym (is has).0 ∙ failed))

pub if_ok_both : {A E : Type 0} {P Q R : A → Type 0} (r : Result A E) → ((x : A) → P x → Q x → R x) → IfOk r P → IfOk r Q → IfOk r R
if_ok_both (Ok x) f h h' = f x h h'
if_ok_both (Err e) f h h' = h
