-- The lists of matches of engines: there is one, and an iterator gives its matches in order.
use Rattle.std.proofs.Common.{◌≡◌, ℕ, ◌≤◌, true, false, List, [], ◌∷◌, ◌++◌, map, length, Option, Some, None, Result, Ok, Err, append_assoc, refl, sym, ap, ap₂, subst, ◌∙◌, arith}
use Rattle.std.specs.List.{last_or}
use Rattle.std.specs.Iterator.{Yields}
use Rattle.std.proofs.lemmas.List.{append-nil}
use Rattle.rx_util.specs.declared.search.MatchError.{MatchError}
use Rattle.rx_walks.specs.Machines.{Outcome}
use Rattle.rx_walks.specs.Programs.{Notes}
use Rattle.rx_walks.specs.Finds.{Search, from_place_on, IsInside}
use Rattle.rx_walks.specs.Matches.{RepeatedFinds, Next, no_more, at_once, moved, BehindLast}
use Rattle.rx_walks.specs.MatchLaws.{AreInOrder, LiesBetween}
use Rattle.rx_walks.specs.ProgramFinds.{finds_on, start_of, end_of}
use Rattle.rx_walks.specs.Iterating as walks
use Rattle.rx_walks.specs.Iterating.{Finding, FindsNext, nothing, passed, MatchesLeft, matches_from, GivesFound, GivesMatch, not_refused}
use Rattle.rx_walks.proofs.FindLaws.{matches_unique}
use Rattle.rx_walks.proofs.MatchLaws as lists
use Rattle.rx_chunk.specs.Engines.{Engine, EngineFinds}
use Rattle.rx_chunk.specs.Iterating.{EngineComesNext, EngineMatches, FirstEngineMatches, GivesInOrder}
use Rattle.rx_chunk.specs.Lists.{HasFinds, HasFirstMatches}
use Rattle.rx_chunk.proofs.KindLaws.{exist_of, inside_of, one_of}

-- ---- the list

inside_before : (s : Search) (i j : ℕ) → s.start ≤ i → IsInside (from_place_on s i) j → IsInside s j
inside_before s i j from inside = (inside.0, inside.1, omega (arith, from, inside.2), inside.3, inside.4)

module _ (e : Engine) (s : Search) where
  abbrev Found : ℕ → Option (Outcome Notes) → Type 0
  Found i out = EngineFinds e (from_place_on s i) out

  abbrev repeated : RepeatedFinds (Outcome Notes)
  repeated = finds_on (EngineFinds e) s

  exists : (i : ℕ) → (out : Option (Outcome Notes)) × Found i out
  exists i = exist_of e (from_place_on s i)

  is_one : (i : ℕ) (out out' : Option (Outcome Notes)) → Found i out → Found i out' → out ≡ out'
  is_one i out out' f f' = one_of e (from_place_on s i) out out' f f'

  lies : (i : ℕ) (t : Outcome Notes) → Found i (Some t) → (i ≤ start_of t) × (start_of t ≤ end_of t) × (end_of t ≤ length s.content)
  lies i t f = let at = inside_of e (from_place_on s i) t f in (at.possible.0.2, at.ordered, at.inside.4)

  matches_rise : (ms : List (Outcome Notes)) → EngineMatches e s ms → AreInOrder start_of end_of s ms
  matches_rise ms is =
      let turns = lists.rising repeated (length s.content) lies is in record {
        inside = lists.members repeated (length s.content) lies (λ t. LiesBetween s (start_of t) (end_of t))
            (λ i t from f. let at = inside_of e (from_place_on s i) t f in (inside_before s i (start_of t) from at.possible.0, at.ordered, inside_before s i (end_of t) from at.inside)) is;
        in_turn = lists.follow repeated (length s.content) lies is;
        apart = λ i j d below within. (turns i j d below within).0;
        rise = λ i j d below within. (turns i j d below within).1;
        few = lists.few repeated (length s.content) lies is;
      }

  pub first_matches : HasFirstMatches e s
  first_matches = record {
    none = lists.matches_exist repeated exists (length s.content) lies s.start;
    one_more = λ ms t. (
      (λ h. lists.one_more_first repeated is_one s.start ms h.0.0 t h.0.1 h.1),
      (λ h. let is = subst (λ xs. EngineMatches e s xs) (append_assoc ms (t ∷ []) h.0) h.1 in ((t ∷ h.0, is), lists.comes_next repeated s.start ms t h.0 is)),
    );
    all = λ ms. (
      (λ h. lists.all_first repeated is_one s.start ms h.0.0 h.0.1 h.1),
      (λ is. (([], subst (λ xs. EngineMatches e s xs) (sym (append-nil ms)) is), lists.none_comes_next repeated s.start ms is)),
    );
    next = λ ms. lists.comes_next_exists repeated exists s.start (last_or None ms);
    next_is_one = λ ms out out' next next'. lists.comes_next_once repeated is_one s.start (last_or None ms) out out' next next';
  }

pub finds_of : (e : Engine) → HasFinds e
finds_of e = record {
  one_find = λ s out out' finds finds'. one_of e s out out' finds finds';
  has_find = λ s. exist_of e s;
  inside = λ s t finds. inside_of e s t finds;
  one_list = λ s ms ms' are are'. matches_unique (λ i out out' f f'. is_one e s i out out' f f') are are';
  has_list = λ s. lists.matches_exist (repeated e s) (exists e s) (length s.content) (lies e s) s.start;
  rise = λ s ms are. matches_rise e s ms are;
  first = λ s. first_matches e s;
}

same-some : {A : Type 0} (a b : A) → Some a ≡ Some b → a ≡ b
same-some a b e = cc

-- ---- the match after the last one

-- what is left after it
abbrev pub left_behind : Search → Option (Outcome Notes) → MatchesLeft
left_behind s None = matches_from s
left_behind s (Some t) = record { search = from_place_on s (end_of t); last_end = Some (end_of t); is_over = false }

next_at_first : (finds : Finding) (s : Search) (out : Option (Outcome Notes)) → FindsNext finds s None out → finds s out
next_at_first finds s None (nothing f) = f
next_at_first finds s (Some t) (walks.at_once f not) = f
next_at_first finds s out (passed f empty f') = absurd (cc empty.1)

next_behind : (finds : Finding) (s : Search) (e : ℕ) (out : Option (Outcome Notes)) → FindsNext finds (from_place_on s e) (Some e) out → Next (finds_on finds s) e out
next_behind finds s e None (nothing f) = no_more f
next_behind finds s e (Some t) (walks.at_once f not) = at_once f (λ is is'. not (is ∙ sym is', ap Some (sym is')))
next_behind finds s e out (passed f empty f') = let same = same-some _ _ empty.1 in moved f (empty.0 ∙ sym same) (sym same) f'

behind_last : (finds : Finding) (s : Search) (last out : Option (Outcome Notes)) → FindsNext finds (left_behind s last).search (left_behind s last).last_end out
    → BehindLast (finds_on finds s) s.start last out
behind_last finds s None out next = next_at_first finds s out next
behind_last finds s (Some t) out next = next_behind finds s (end_of t) out next

pub never_over : (s : Search) (last : Option (Outcome Notes)) → (left_behind s last).is_over ≡ false
never_over s None = refl
never_over s (Some t) = refl

from_there : (s : Search) (last : Option (Outcome Notes)) (e : ℕ) → from_place_on (left_behind s last).search e ≡ from_place_on s e
from_there s None e = refl
from_there s (Some t) e = refl

pub last_of_more : (o : Option (Outcome Notes)) (xs : List (Outcome Notes)) (x : Outcome Notes) → last_or o (xs ++ x ∷ []) ≡ Some x
last_of_more o [] x = refl
last_of_more o (y ∷ xs) x = last_of_more (Some y) xs x

module _ (e : Engine) (s : Search) where
  abbrev pub AreFirst : List (Outcome Notes) → Type 0
  AreFirst ms = FirstEngineMatches e s ms

  abbrev pub AreAll : List (Outcome Notes) → Type 0
  AreAll ms = EngineMatches e s ms

  pub comes_next : (ms : List (Outcome Notes)) (l : MatchesLeft) (out : Option (Outcome Notes)) → l ≡ left_behind s (last_or None ms) → FindsNext (EngineFinds e) l.search l.last_end out
      → EngineComesNext e s ms out
  comes_next ms l out stands next = behind_last (EngineFinds e) s (last_or None ms) out (subst (λ x. FindsNext (EngineFinds e) x.search x.last_end out) stands next)

  -- one match more
  pub one_more : (ms : List (Outcome Notes)) (l : MatchesLeft) (t : Outcome Notes) → AreFirst ms → l ≡ left_behind s (last_or None ms) → FindsNext (EngineFinds e) l.search l.last_end (Some t) → AreFirst (ms ++ t ∷ [])
  one_more ms l t are stands next = ((first_matches e s).one_more ms t).0 (are, comes_next ms l (Some t) stands next)

  pub stands_behind : (ms : List (Outcome Notes)) (l k : MatchesLeft) (t : Outcome Notes) → l ≡ left_behind s (last_or None ms)
      → k ≡ record { search = from_place_on l.search (end_of t); last_end = Some (end_of t); is_over = false } → k ≡ left_behind s (last_or None (ms ++ t ∷ []))
  stands_behind ms l k t stands left_is =
      let search_is : from_place_on l.search (end_of t) ≡ from_place_on s (end_of t) = ap (λ x. from_place_on x.search (end_of t)) stands ∙ from_there s (last_or None ms) (end_of t) in
      left_is ∙ ap (λ x. record { search = x; last_end = Some (end_of t); is_over = false }) search_is ∙ ap (left_behind s) (sym (last_of_more None ms t))

  -- no more
  pub all_of : (ms : List (Outcome Notes)) (l : MatchesLeft) → AreFirst ms → l ≡ left_behind s (last_or None ms) → FindsNext (EngineFinds e) l.search l.last_end None → AreAll ms
  all_of ms l are stands next = ((first_matches e s).all ms).0 (are, comes_next ms l None stands next)

  -- ---- iterators over matches, as long as they search with this engine

  module _ {A F : Type 0} (item_of : Outcome Notes → A) (left : F → MatchesLeft) (gives : F → Option (Result A MatchError) → F → Type 0) (Searches : F → Type 0)
      (steps : (m n : F) (item : Option (Result A MatchError)) → Searches m → gives m item n → Searches n × GivesMatch (EngineFinds e) item_of (left m) item (left n)) where
    -- what it has given from a state before which it gave the first matches, and what it has left
    record HasGiven (ms : List (Outcome Notes)) (items : List A) (n : F) : Type 0 where
      more : List (Outcome Notes)
      searches : Searches n
      are_first : AreFirst (ms ++ more)
      items_are : items ≡ map item_of more
      left_is : left n ≡ left_behind s (last_or None (ms ++ more))

    given : (ms : List (Outcome Notes)) (m n : F) (items : List A) → Searches m → AreFirst ms → left m ≡ left_behind s (last_or None ms) → Yields gives m (not_refused items) n → HasGiven ms items n
    given ms m n [] searches are stands run = record {
      more = [];
      searches = subst Searches run searches;
      are_first = subst AreFirst (sym (append-nil ms)) are;
      items_are = refl;
      left_is = ap left (sym run) ∙ stands ∙ ap (λ xs. left_behind s (last_or None xs)) (sym (append-nil ms));
    }
    given ms m n (item ∷ items) searches are stands run =
        let j = run.0 in
        let there = steps m j (Some (Ok item)) searches run.1 in
        let step : GivesFound (EngineFinds e) item_of (left m) item (left j) = there.1 in
        let t = step.found in
        let on = given (ms ++ t ∷ []) j n items there.0 (one_more ms (left m) t are stands step.next) (stands_behind ms (left m) (left j) t stands step.left_is) run.2 in
        let same : (ms ++ t ∷ []) ++ on.more ≡ ms ++ t ∷ on.more = append_assoc ms (t ∷ []) on.more in
        record {
          more = t ∷ on.more;
          searches = on.searches;
          are_first = subst AreFirst same on.are_first;
          items_are = ap₂ (λ x xs. x ∷ xs) step.item_is on.items_are;
          left_is = on.left_is ∙ ap (λ xs. left_behind s (last_or None xs)) same;
        }

    over_gives_none : (m n : F) (items : List (Result A MatchError)) → Searches m → (left m).is_over ≡ true → Yields gives m items n → items ≡ []
    over_gives_none m n [] searches done run = refl
    over_gives_none m n (Ok item ∷ items) searches done run =
        let step : GivesFound (EngineFinds e) item_of (left m) item (left run.0) = (steps m run.0 (Some (Ok item)) searches run.1).1 in
        absurd (cc (done, step.goes_on))
    over_gives_none m n (Err error ∷ items) searches done run = absurd (cc (done, (steps m run.0 (Some (Err error)) searches run.1).1.0))

    after_refusal : (m n : F) (items : List A) (error : MatchError) (others : List (Result A MatchError)) → Searches m → Yields gives m (not_refused items ++ Err error ∷ others) n → others ≡ []
    after_refusal m n [] error others searches run =
        let there = steps m run.0 (Some (Err error)) searches run.1 in
        over_gives_none run.0 n others there.0 there.1.1 run.2
    after_refusal m n (item ∷ items) error others searches run =
        after_refusal run.0 n items error others (steps m run.0 (Some (Ok item)) searches run.1).0 run.2

    pub in_order : (m : F) → Searches m → left m ≡ matches_from s → GivesInOrder e item_of gives s m
    in_order m searches stands = record {
      first = λ n items run. let g = given [] m n items searches (first_matches e s).none stands run in (g.more, g.are_first, g.items_are);
      all = λ items all.
          let end = all.1.0 in
          let g = given [] m end items searches (first_matches e s).none stands all.1.1 in
          let none = (steps end all.0 None g.searches all.1.2).1.0 (ap (λ l. l.is_over) g.left_is ∙ never_over s (last_or None g.more)) in
          (g.more, all_of g.more (left end) g.are_first g.left_is none, g.items_are);
      refused = λ n items error others run. after_refusal m n items error others searches run;
    }
