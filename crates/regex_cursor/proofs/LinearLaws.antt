-- Lists of the matches after one, and the next match.
use Rattle.std.proofs.Common.{◌≡◌, ℕ, zero, suc, ◌+◌, ◌-◌, ◌*◌, ◌≤◌, ◌==◌, Bool, true, false, cond, List, [], ◌∷◌, length, map, take, drop, Option, Some, None, is_some, IfSome, option_map, refl, sym, ap, ap₂, subst, ◌∙◌, arith}
use Rattle.std.proofs.lemmas.Bool.{eqb-true, eqb-false}
use Rattle.std.proofs.lemmas.Option.{same_Some}
use Rattle.std.specs.Option.{ForSome}
use Rattle.rx_util.specs.Search.{HalfFound}
use Rattle.rx_util.specs.Captured.{span_between}
use Rattle.rx_util.specs.declared.search.Span.{Span}
use Rattle.rx_input.specs.Inputs.{Asked, InputState}
use Rattle.rx_walks.specs.Finds.{Search, from_place_on}
use Rattle.rx_walks.specs.Iterating as iterating
use Rattle.rx_walks.specs.Iterating.{Finding, FindsNext, MatchesLeft}
use Rattle.rx_walks.specs.Machines.{Outcome}
use Rattle.rx_walks.specs.Matches as matches
use Rattle.rx_walks.specs.Matches.{Further, Matches, Next}
use Rattle.rx_walks.specs.ProgramFinds.{finds_on, highest, start_of, end_of}
use Rattle.rx_walks.specs.Programs.{Notes, slot_of}
use Rattle.rx_steps.specs.Searching.{answer_slots, search_of, slots_from}
use Rattle.rx_steps.specs.Threads.{Slots, no_slots}
use Rattle.rx_steps.proofs.SlotLaws.{slots_from_len}
use Rattle.rx_lists.specs.Lists.{AreAllMatches, Listed, listed_of}
use Rattle.rx_chunk.specs.Engines.{Engine, EngineFinds, IsEngine, match_of, whole_span}
use Rattle.rx_chunk.specs.Iterating.{ComesNext, EndsAhead, IsNextAnswer, StartsFrom, left_behind}
use Rattle.rx_chunk.proofs.FoundLaws.{notes_places, two_places}
use Rattle.rx_chunk.proofs.IterLaws.{found_ends, moved_search}
use Rattle.rx_chunk.proofs.KindLaws.{inside_of}
use Rattle.regex_cursor.specs.Linear.{AreBehind, GivesSlots, IsLeftBehind, IsRestOf, LinearState, FurtherMatches, TellsWhatComes, all_places, left_of, passed_over, places_read}
use Rattle.regex_cursor.proofs.FurtherLaws.{found_on}
use Rattle.regex_cursor.proofs.StrategyLaws.{IsFirst, by_engine}

-- ---- what is listed from an offset on

module _ (e : Engine) (s : Search) where
  behind_first : (len : ℕ) (t : Outcome Notes) (ms : List (Outcome Notes)) (b : Bool) → (end_of t == s.start) ≡ b → EngineFinds e (from_place_on s s.start) (Some t) → Further (finds_on (EngineFinds e) s) (end_of t) ms
      → AreBehind e s s.start len (drop (cond b 1 0) (map (listed_of len) (t ∷ ms)))
  behind_first len t ms true here found further = record {
    matches = ms;
    further = subst (λ k. Further (finds_on (EngineFinds e) s) k ms) (eqb-true (end_of t) s.start here) further;
    found_are = refl;
  }
  behind_first len t ms false apart found further = record {
    matches = t ∷ ms;
    further = matches.one_more (matches.at_once found (λ starts ends. eqb-false (end_of t) s.start apart ends)) further;
    found_are = refl;
  }

  behind_by : (len : ℕ) (ms : List (Outcome Notes)) → Matches (finds_on (EngineFinds e) s) s.start ms → AreBehind e s s.start len (drop (passed_over s.start (map (listed_of len) ms)) (map (listed_of len) ms))
  behind_by len [] (matches.no_match none) = record { matches = []; further = matches.last (matches.no_more none); found_are = refl }
  behind_by len (t ∷ ms) (matches.first found further) = behind_first len t ms (end_of t == s.start) refl found further

pub behind_listed : (e : Engine) → IsFirst e → (s : Search) (len : ℕ) (listed : List Listed) → AreAllMatches e.program s len listed → AreBehind e s s.start len (drop (passed_over s.start listed) listed)
behind_listed e leftmost s len listed all =
    subst (λ xs. AreBehind e s s.start len (drop (passed_over s.start xs) xs)) (sym all.found_are)
    (behind_by e s len all.matches (by_engine e leftmost (λ finding. Matches (finds_on finding s) s.start all.matches) all.are_all))

-- ---- the next match in it

module _ (e : Engine) (s : Search) where
  next_by : (out : Option (Outcome Notes)) → Next (finds_on (EngineFinds e) s) s.start out → FindsNext (EngineFinds e) s (Some s.start) out
  next_by out (matches.no_more none) = iterating.nothing none
  next_by out (matches.at_once {a = t} found not) = iterating.at_once found (λ empty.
      let same : s.start ≡ end_of t = same_Some s.start (end_of t) empty.1 in
      not (empty.0 ∙ sym same) (sym same))
  next_by out (matches.moved {a = t} found starts ends further) = iterating.passed found (starts ∙ sym ends, ap Some (sym ends)) further

  -- none, if the list is empty
  pub nothing_behind : (len : ℕ) → AreBehind e s s.start len [] → ComesNext (EngineFinds e) s (Some s.start) None
  nothing_behind len behind = by behind.matches behind.further behind.found_are
    where
      by : (ms : List (Outcome Notes)) → Further (finds_on (EngineFinds e) s) s.start ms → [] ≡ map (listed_of len) ms → ComesNext (EngineFinds e) s (Some s.start) None
      by [] (matches.last none) are = next_by None none
      by (t ∷ ms) further are = absurd (cc are)

  -- otherwise its first member, and the others are after that
  pub record IsHead (len : ℕ) (l : Listed) (others : List Listed) : Type 0 where
    pub outcome : Outcome Notes
    pub comes : ComesNext (EngineFinds e) s (Some s.start) (Some outcome)
    pub is : l ≡ listed_of len outcome
    pub behind : AreBehind e s (end_of outcome) len others

  pub head_behind : (len : ℕ) (l : Listed) (others : List Listed) → AreBehind e s s.start len (l ∷ others) → IsHead len l others
  head_behind len l others behind = by behind.matches behind.further behind.found_are
    where
      by : (ms : List (Outcome Notes)) → Further (finds_on (EngineFinds e) s) s.start ms → l ∷ others ≡ map (listed_of len) ms → IsHead len l others
      by [] further are = absurd (cc are)
      by (t ∷ ms) (matches.one_more next further) are = record {
        outcome = t;
        comes = next_by (Some t) next;
        is = cc are;
        behind = record { matches = ms; further = further; found_are = cc are };
      }

-- this number of slots are the first ones of more
pub first_slots : (n first len : ℕ) (notes : Notes) → n ≤ len → take n (slots_from first len notes) ≡ slots_from first n notes
first_slots zero first len notes few = refl
first_slots (suc n) first zero notes few = absurd (omega (arith, few))
first_slots (suc n) first (suc len) notes few = ap (λ xs. slot_of notes first ∷ xs) (first_slots n (suc first) len notes (omega (arith, few)))

-- ---- for a search with the same request, and for an engine that finds the same

pub behind_moved : (e : Engine) (s t : Search) (start end len : ℕ) (found : List Listed) → t ≡ from_place_on s start → AreBehind e s end len found → AreBehind e t end len found
behind_moved e s t start end len found same behind = record {
  matches = behind.matches;
  further = subst (λ x. Further (finds_on (EngineFinds e) x) end behind.matches) (sym same) behind.further;
  found_are = behind.found_are;
}

-- ---- where it ends

pub comes_ahead : (e : Engine) (s : Search) (last : Option ℕ) (t : Outcome Notes) → ComesNext (EngineFinds e) s last (Some t) → EndsAhead last s (end_of t)
comes_ahead e s last t comes = found_ends (EngineFinds e) last s (match_of t) (inside_of e) (Some t, comes, refl)

-- ---- a step

pub gives_slots : (finding : Finding) (m n : MatchesLeft) (half : Option HalfFound) (pattern : Option ℕ) (slots : Slots) → TellsWhatComes finding m.search m.last_end half slots → pattern ≡ option_map (λ (h : HalfFound). h.pattern) half
    → (half ≡ None → n.is_over ≡ true) → IfSome half (λ h. n ≡ left_behind m h.offset) → GivesSlots finding m pattern slots n
gives_slots finding m n half pattern slots tells pattern_is over left = by tells.out tells.comes tells.half_is tells.slots_are
  where
    by : (out : Option (Outcome Notes)) → ComesNext finding m.search m.last_end out → half ≡ option_map (λ (t : Outcome Notes). record { pattern = t.pattern; offset = end_of t }) out → slots ≡ answer_slots (length slots) out → GivesSlots finding m pattern slots n
    by None comes is are = record { out = None; comes = comes; pattern_is = pattern_is ∙ ap (option_map (λ (h : HalfFound). h.pattern)) is; slots_are = are; left_is = over is }
    by (Some t) comes is are = record {
      out = Some t;
      comes = comes;
      pattern_is = pattern_is ∙ ap (option_map (λ (h : HalfFound). h.pattern)) is;
      slots_are = are;
      left_is = subst (λ o. IfSome o (λ h. n ≡ left_behind m h.offset)) is left;
    }

pub left_on : (e : Engine) (m n : LinearState) (end : ℕ) → StartsFrom m.input n.input end → n.last_end ≡ Some end → n.is_over ≡ false → left_of e n ≡ left_behind (left_of e m) end
left_on e m n end starts last on =
    ap₂ (λ s (o : Option ℕ). record { search = s; last_end = o; is_over = n.is_over }) (moved_search e.utf8_empty m.input n.input end starts) last
    ∙ ap (λ b. record { search = from_place_on (search_of e.utf8_empty m.input) end; last_end = Some end; is_over = b }) on

-- ---- the next match, by its offsets in slots

module _ (e : Engine) (of_trees : IsEngine e) (s : Search) (last : Option ℕ) (k : ℕ) (slots : Slots) (room : 2 * length e.groups ≤ length slots) where
  record HasPlaces : Type 0 where
    outcome : Outcome Notes
    comes : ComesNext (EngineFinds e) s last (Some outcome)
    pattern : k ≡ outcome.pattern
    slots_are : slots ≡ answer_slots (length slots) (Some outcome)
    span : whole_span k slots ≡ Some (match_of outcome).span
    ordered : start_of outcome ≤ end_of outcome

  has_places : IsNextAnswer (EngineFinds e) s last (Some k) slots → HasPlaces
  has_places answer = by answer.out answer.comes answer.pattern_is answer.slots_are
    where
      by : (out : Option (Outcome Notes)) → ComesNext (EngineFinds e) s last out → Some k ≡ option_map (λ (t : Outcome Notes). t.pattern) out → slots ≡ answer_slots (length slots) out → HasPlaces
      by None comes is are = absurd (cc is)
      by (Some t) comes is are =
          let on = found_on (EngineFinds e) s last t (Some t) comes refl in
          let notes = notes_places e of_trees on.search t on.finds in
          let same : k ≡ t.pattern = same_Some k t.pattern is in
          let places = two_places t (length slots) slots (omega (arith, notes.1, room)) are notes.0 in
          record {
            outcome = t;
            comes = comes;
            pattern = same;
            slots_are = are;
            span = ap (λ j. whole_span j slots) same ∙ ap₂ (λ i j. span_between i j) places.0 places.1;
            ordered = (inside_of e on.search t on.finds).ordered;
          }

  pub places_ordered : IsNextAnswer (EngineFinds e) s last (Some k) slots → ForSome (whole_span k slots) (λ (x : Span). x.start ≤ x.end)
  places_ordered answer = λ x is.
      let has = has_places answer in
      subst (λ (y : Span). y.start ≤ y.end) (same_Some (match_of has.outcome).span x (sym has.span ∙ is)) has.ordered

  pub tells_next : (end : ℕ) → ((x : Span) → whole_span k slots ≡ Some x → end ≡ x.end) → IsNextAnswer (EngineFinds e) s last (Some k) slots → TellsWhatComes (EngineFinds e) s last (Some (record { pattern = k; offset = end })) slots
  tells_next end ends answer =
      let has = has_places answer in
      record {
        out = Some has.outcome;
        comes = has.comes;
        half_is = ap₂ (λ j x. Some (record { pattern = j; offset = x })) has.pattern (ends (match_of has.outcome).span has.span);
        slots_are = has.slots_are;
      }

pub tells_none : (finding : Finding) (s : Search) (last : Option ℕ) (slots : Slots) → IsNextAnswer finding s last None slots → TellsWhatComes finding s last None slots
tells_none finding s last slots answer = by answer.out answer.comes answer.pattern_is answer.slots_are
  where
    by : (out : Option (Outcome Notes)) → ComesNext finding s last out → None ≡ option_map (λ (t : Outcome Notes). t.pattern) out → slots ≡ answer_slots (length slots) out → TellsWhatComes finding s last None slots
    by None comes is are = record { out = None; comes = comes; half_is = refl; slots_are = are }
    by (Some t) comes is are = absurd (cc is)

-- ---- taking from a list

pub so : {A : Type 0} (P Q : A → Type 0) (o : Option A) → ((a : A) → P a → Q a) → IfSome o P → IfSome o Q
so P Q None f p = tt
so P Q (Some a) f p = f a p

-- a match was taken, with its offsets in slots
abbrev pub IsTakenFrom : FurtherMatches → FurtherMatches → Slots → Slots → HalfFound → Type 0
IsTakenFrom old new before after half = (l : Listed) × (old.found ≡ l ∷ new.found) × (half.pattern ≡ l.pattern) × (half.offset ≡ l.end) × (after ≡ take (length before) l.slots)

module _ (m : LinearState) (old new : FurtherMatches) (before after : Slots) (half : HalfFound) (is : IsRestOf m old) (taken : IsTakenFrom old new before after half) where
  abbrev S : Search
  S = search_of old.engine.utf8_empty m.input

  taken_head : IsHead old.engine S old.slot_len taken.0 new.found
  taken_head =
      head_behind old.engine S old.slot_len taken.0 new.found
      (subst (λ xs. AreBehind old.engine S S.start old.slot_len xs) taken.1 (subst (λ k. AreBehind old.engine S k old.slot_len old.found) (sym is.starts) is.behind))

  offset_is : half.offset ≡ end_of taken_head.outcome
  offset_is = taken.3 ∙ ap (λ (l : Listed). l.end) taken_head.is

  pub taken_ends : EndsAhead (Some S.start) S half.offset
  taken_ends = subst (λ k. EndsAhead (Some S.start) S k) (sym offset_is) (comes_ahead old.engine S (Some S.start) taken_head.outcome taken_head.comes)

  pub taken_tells : length before ≤ old.slot_len → TellsWhatComes (EngineFinds old.engine) S (Some S.start) (Some half) after
  taken_tells few =
      let t = taken_head.outcome in
      let n = length before in
      let slots : after ≡ slots_from 0 n t.notes = taken.4 ∙ ap (λ (l : Listed). take n l.slots) taken_head.is ∙ first_slots n 0 old.slot_len t.notes few in
      let len : length after ≡ n = ap length slots ∙ slots_from_len 0 n t.notes in
      record {
        out = Some t;
        comes = taken_head.comes;
        half_is = ap₂ (λ k x. Some (record { pattern = k; offset = x })) (taken.2 ∙ ap (λ (l : Listed). l.pattern) taken_head.is) offset_is;
        slots_are = slots ∙ ap (λ k. slots_from 0 k t.notes) (sym len);
      }

  -- the others are after it
  pub taken_rest : (n : LinearState) → StartsFrom m.input n.input half.offset → n.last_end ≡ Some half.offset → new.engine ≡ old.engine → new.slot_len ≡ old.slot_len → IsRestOf n new
  taken_rest n starts last engine slot_len =
      let T : Search = search_of old.engine.utf8_empty n.input in
      let behind : AreBehind old.engine T half.offset old.slot_len new.found =
      behind_moved old.engine S T half.offset half.offset old.slot_len new.found (moved_search old.engine.utf8_empty m.input n.input half.offset starts)
      (subst (λ k. AreBehind old.engine S k old.slot_len new.found) (sym offset_is) taken_head.behind) in
      record {
        leftmost = ap (λ (e : Engine). e.match_kind) engine ∙ is.leftmost;
        end = half.offset;
        last_is = last;
        starts = ap (λ (a : Asked). a.span.start) starts.asked;
        behind = subst (λ (e : Engine). AreBehind e (search_of e.utf8_empty n.input) half.offset new.slot_len new.found) (sym engine)
            (subst (λ k. AreBehind old.engine T half.offset k new.found) (sym slot_len) behind);
      }

-- or none was left
pub none_taken : (m : LinearState) (old : FurtherMatches) (before after : Slots) → IsRestOf m old → (old.found ≡ []) × (after ≡ before) → before ≡ no_slots (length before)
    → TellsWhatComes (EngineFinds old.engine) (search_of old.engine.utf8_empty m.input) (Some m.input.asked.span.start) None after
none_taken m old before after is none clear =
    let s : Search = search_of old.engine.utf8_empty m.input in
    record {
      out = None;
      comes = nothing_behind old.engine s old.slot_len (subst (λ xs. AreBehind old.engine s s.start old.slot_len xs) none.0 (subst (λ k. AreBehind old.engine s k old.slot_len old.found) (sym is.starts) is.behind));
      half_is = refl;
      slots_are = none.1 ∙ clear ∙ ap no_slots (ap length (sym none.1));
    }

-- the next match in the list
pub tells_taken : (m : LinearState) (old new : FurtherMatches) (before after : Slots) (half : Option HalfFound) → IsRestOf m old → length before ≤ old.slot_len → before ≡ no_slots (length before)
    → (half ≡ None → (old.found ≡ []) × (after ≡ before)) → IfSome half (IsTakenFrom old new before after) → TellsWhatComes (EngineFinds old.engine) (search_of old.engine.utf8_empty m.input) m.last_end half after
tells_taken m old new before after half is few clear none some =
    subst (λ o. TellsWhatComes (EngineFinds old.engine) (search_of old.engine.utf8_empty m.input) o half after) (ap Some is.starts ∙ sym is.last_is) (by half none some)
  where
    by : (half : Option HalfFound) → (half ≡ None → (old.found ≡ []) × (after ≡ before)) → IfSome half (IsTakenFrom old new before after) → TellsWhatComes (EngineFinds old.engine) (search_of old.engine.utf8_empty m.input) (Some m.input.asked.span.start) half after
    by None none some = none_taken m old before after is (none refl) clear
    by (Some h) none some = taken_tells m old new before after h is some few

-- and what is left then
pub left_by : (e : Engine) (m n : LinearState) (half : Option HalfFound) → IfSome half (λ h. StartsFrom m.input n.input h.offset) → IfSome half (λ h. n.last_end ≡ Some h.offset) → IfSome half (λ h. n.is_over ≡ false)
    → IfSome half (λ h. left_of e n ≡ left_behind (left_of e m) h.offset)
left_by e m n None starts last on = tt
left_by e m n (Some h) starts last on = left_on e m n h.offset starts last on

pub rest_moved : (m n : LinearState) (old new : FurtherMatches) (before after : Slots) (half : Option HalfFound) → IsRestOf m old → (half ≡ None → (old.found ≡ []) × (after ≡ before)) → IfSome half (IsTakenFrom old new before after)
    → new.engine ≡ old.engine → new.slot_len ≡ old.slot_len → IfSome half (λ h. StartsFrom m.input n.input h.offset) → IfSome half (λ h. n.last_end ≡ Some h.offset)
    → (half ≡ None → new ≡ old) → (half ≡ None → IsRestOf n old) → IsRestOf n new
rest_moved m n old new before after None is none some engine slot_len starts last same stays = subst (λ r. IsRestOf n r) (sym (same refl)) (stays refl)
rest_moved m n old new before after (Some h) is none some engine slot_len starts last same stays = taken_rest m old new before after h is some n starts last engine slot_len

-- the same list, of a state with the same input that ended its last match there too
pub rest_as : (m n : LinearState) (r : FurtherMatches) → n.input ≡ m.input → n.last_end ≡ m.last_end → IsRestOf m r → IsRestOf n r
rest_as m n r input last is = record {
  leftmost = is.leftmost;
  end = is.end;
  last_is = last ∙ is.last_is;
  starts = ap (λ (i : InputState). i.asked.span.start) input ∙ is.starts;
  behind = subst (λ (i : InputState). AreBehind r.engine (search_of r.engine.utf8_empty i) is.end r.slot_len r.found) (sym input) is.behind;
}

-- ---- a match that was returned

-- a match was returned: its offsets, and what is left after it
pub record IsGiven (e : Engine) (m n : MatchesLeft) (k : ℕ) (slots : Slots) : Type 0 where
  pub outcome : Outcome Notes
  pub comes : ComesNext (EngineFinds e) m.search m.last_end (Some outcome)
  pub span : whole_span k slots ≡ Some (match_of outcome).span
  pub pattern : k ≡ outcome.pattern
  pub ordered : start_of outcome ≤ end_of outcome
  pub left : n ≡ left_behind m (end_of outcome)

pub given : (e : Engine) → IsEngine e → (m n : MatchesLeft) (k : ℕ) (slots : Slots) → 2 * length e.groups ≤ length slots → GivesSlots (EngineFinds e) m (Some k) slots n → IsGiven e m n k slots
given e of_trees m n k slots room gives = by gives.out gives.comes gives.pattern_is gives.slots_are gives.left_is
  where
    by : (out : Option (Outcome Notes)) → ComesNext (EngineFinds e) m.search m.last_end out → Some k ≡ option_map (λ (t : Outcome Notes). t.pattern) out → slots ≡ answer_slots (length slots) out → IsLeftBehind m out n → IsGiven e m n k slots
    by None comes is are left = absurd (cc is)
    by (Some t) comes is are left =
        let on = found_on (EngineFinds e) m.search m.last_end t (Some t) comes refl in
        let notes = notes_places e of_trees on.search t on.finds in
        let same : k ≡ t.pattern = same_Some k t.pattern is in
        let places = two_places t (length slots) slots (omega (arith, notes.1, room)) are notes.0 in
        record {
          outcome = t;
          comes = comes;
          span = ap (λ j. whole_span j slots) same ∙ ap₂ (λ i j. span_between i j) places.0 places.1;
          pattern = same;
          ordered = (inside_of e on.search t on.finds).ordered;
          left = left;
        }

pub given_ordered : (e : Engine) (m n : MatchesLeft) (k : ℕ) (slots : Slots) → IsGiven e m n k slots → ForSome (whole_span k slots) (λ (x : Span). x.start ≤ x.end)
given_ordered e m n k slots is = λ x at. subst (λ (y : Span). y.start ≤ y.end) (same_Some (match_of is.outcome).span x (sym is.span ∙ at)) is.ordered

pub given_none : (finding : Finding) (m n : MatchesLeft) (slots : Slots) → GivesSlots finding m None slots n → ComesNext finding m.search m.last_end None
given_none finding m n slots gives = by gives.out gives.comes gives.pattern_is
  where
    by : (out : Option (Outcome Notes)) → ComesNext finding m.search m.last_end out → None ≡ option_map (λ (t : Outcome Notes). t.pattern) out → ComesNext finding m.search m.last_end None
    by None comes is = comes
    by (Some t) comes is = absurd (cc is)

-- the number of all offsets stays
pub same_places : (m n : LinearState) (start : ℕ) → StartsFrom m.input n.input start → n.first ≡ m.first → all_places n ≡ all_places m
same_places m n start starts first =
    ap (λ s. highest s + 1 - n.first) (moved_search true m.input n.input start starts) ∙ ap (λ k. highest (search_of true m.input) + 1 - k) first

-- ---- a step by finds

pub tells_ahead : (e : Engine) (s : Search) (last : Option ℕ) (half : Option HalfFound) (slots : Slots) → TellsWhatComes (EngineFinds e) s last half slots → IfSome half (λ h. EndsAhead last s h.offset)
tells_ahead e s last half slots tells = by tells.out tells.comes tells.half_is
  where
    by : (out : Option (Outcome Notes)) → ComesNext (EngineFinds e) s last out → half ≡ option_map (λ (t : Outcome Notes). record { pattern = t.pattern; offset = end_of t }) out → IfSome half (λ h. EndsAhead last s h.offset)
    by None comes is = subst (λ o. IfSome o (λ (h : HalfFound). EndsAhead last s h.offset)) (sym is) tt
    by (Some t) comes is = subst (λ o. IfSome o (λ (h : HalfFound). EndsAhead last s h.offset)) (sym is) (comes_ahead e s last t comes)

-- ---- offsets read

read_alone : (o : Option FurtherMatches) (n k : ℕ) → o ≡ None → n + cond (is_some o) (6 * k) 0 ≡ n
read_alone None n k none = omega arith
read_alone (Some r) n k none = absurd (cc none)

-- finds only, or the list too
pub places_alone : (m : LinearState) → m.rest ≡ None → places_read m ≡ m.finds_read
places_alone m none = read_alone m.rest m.finds_read (all_places m) none

-- what isn't something is nothing
pub is_none : (o : Option FurtherMatches) → is_some o ≡ false → o ≡ None
is_none None none = refl
is_none (Some r) none = absurd (cc none)

-- what finds read is within the bound on all
pub bound_by_finds : (m : LinearState) (found before after : ℕ) → m.rest ≡ None → found ≤ 4 * all_places m + 10 → after + m.finds_read ≡ before + found → after + places_read m ≤ before + 10 * all_places m + 10
bound_by_finds m found before after none few counted = subst (λ k. after + k ≤ before + 10 * all_places m + 10) (sym (places_alone m none)) (omega (arith, few, counted))
