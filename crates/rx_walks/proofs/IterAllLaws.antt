-- An iterator over matches gives them in order, for `MatchKind::All`.
use Rattle.std.proofs.Common.{◌≡◌, ℕ, Bool, true, false, List, [], ◌∷◌, ◌++◌, map, Option, Some, None, Result, Ok, Err, append_assoc, refl, sym, ap, ap₂, subst, ◌∙◌}
use Rattle.std.specs.List.{last_or}
use Rattle.std.specs.Iterator.{Yields}
use Rattle.std.proofs.lemmas.List.{append-nil}
use Rattle.rx_walks.specs.Looks.{Look}
use Rattle.rx_walks.specs.Finds.{Search, from_place_on, PatternMatch}
use Rattle.rx_walks.specs.Matches.{Next, no_more, at_once, moved, BehindLast}
use Rattle.rx_walks.specs.Programs.{Program}
use Rattle.rx_walks.specs.ProgramFinds.{ProgramFindsAll, finds_all_on}
use Rattle.rx_walks.specs.Iterating.{MatchesLeft, matches_from, not_refused}
use Rattle.rx_walks.specs.MatchesAll as iterating
use Rattle.rx_walks.specs.MatchesAll.{ProgramFirstMatchesAll, ProgramComesNextAll, FindingAll, FindsNextAll, nothing, passed, GivesFoundAll, GivesMatchAll, GivesAllInOrder, IteratorsGiveAllInOrder}
use Rattle.rx_walks.proofs.WalkLaws.{same_some}
use Rattle.rx_walks.proofs.MatchAllLaws.{program_first_matches_all}

-- what is left after the last match
abbrev left_behind : Search → Option PatternMatch → MatchesLeft
left_behind s None = matches_from s
left_behind s (Some t) = record { search = from_place_on s t.end; last_end = Some t.end; is_over = false }

next_at_first : (finds : FindingAll) (s : Search) (out : Option PatternMatch) → FindsNextAll finds s None out → finds s out
next_at_first finds s None (nothing f) = f
next_at_first finds s (Some t) (iterating.at_once f not) = f
next_at_first finds s out (passed f empty f') = absurd (cc empty.1)

next_behind : (finds : FindingAll) (s : Search) (e : ℕ) (out : Option PatternMatch) → FindsNextAll finds (from_place_on s e) (Some e) out → Next (finds_all_on finds s) e out
next_behind finds s e None (nothing f) = no_more f
next_behind finds s e (Some t) (iterating.at_once f not) = at_once f (λ is is'. not (is ∙ sym is', ap Some (sym is')))
next_behind finds s e out (passed f empty f') = let same = same_some refl empty.1 in moved f (empty.0 ∙ sym same) (sym same) f'

behind_last : (finds : FindingAll) (s : Search) (last : Option PatternMatch) (out : Option PatternMatch) → FindsNextAll finds (left_behind s last).search (left_behind s last).last_end out
    → BehindLast (finds_all_on finds s) s.start last out
behind_last finds s None out next = next_at_first finds s out next
behind_last finds s (Some t) out next = next_behind finds s t.end out next

never_over : (s : Search) (last : Option PatternMatch) → (left_behind s last).is_over ≡ false
never_over s None = refl
never_over s (Some t) = refl

from_there : (s : Search) (last : Option PatternMatch) (e : ℕ) → from_place_on (left_behind s last).search e ≡ from_place_on s e
from_there s None e = refl
from_there s (Some t) e = refl

last_of_more : {A : Type 0} (o : Option A) (xs : List A) (x : A) → last_or o (xs ++ x ∷ []) ≡ Some x
last_of_more o [] x = refl
last_of_more o (y ∷ xs) x = last_of_more (Some y) xs x

module _ {S A E F : Type 0} (member : S → ℕ → Bool) (is_word : ℕ → Bool) (p : Program Look S) (item_of : PatternMatch → A) (left : F → MatchesLeft) (gives : F → Option (Result A E) → F → Type 0)
    (steps : (m n : F) (item : Option (Result A E)) → gives m item n → GivesMatchAll (ProgramFindsAll member is_word p) item_of (left m) item (left n)) (s : Search) where
  -- what it has given from a state before which it gave the first matches, and what it has left
  record HasGiven (ms : List PatternMatch) (items : List A) (n : F) : Type 0 where
    more : List PatternMatch
    are_first : ProgramFirstMatchesAll member is_word p s (ms ++ more)
    items_are : items ≡ map item_of more
    left_is : left n ≡ left_behind s (last_or None (ms ++ more))

  comes_next : (ms : List PatternMatch) (m : F) (out : Option PatternMatch) → left m ≡ left_behind s (last_or None ms) → FindsNextAll (ProgramFindsAll member is_word p) (left m).search (left m).last_end out → ProgramComesNextAll member is_word p s ms out
  comes_next ms m out stands next = behind_last (ProgramFindsAll member is_word p) s (last_or None ms) out (subst (λ l. FindsNextAll (ProgramFindsAll member is_word p) l.search l.last_end out) stands next)

  given : (ms : List PatternMatch) (m n : F) (items : List A) → ProgramFirstMatchesAll member is_word p s ms → left m ≡ left_behind s (last_or None ms) → Yields gives m (not_refused items) n → HasGiven ms items n
  given ms m n [] are stands run = record {
    more = [];
    are_first = subst (ProgramFirstMatchesAll member is_word p s) (sym (append-nil ms)) are;
    items_are = refl;
    left_is = ap left (sym run) ∙ stands ∙ ap (λ xs. left_behind s (last_or None xs)) (sym (append-nil ms));
  }
  given ms m n (item ∷ items) are stands run =
      let j = run.0 in
      let step : GivesFoundAll (ProgramFindsAll member is_word p) item_of (left m) item (left j) = steps m j (Some (Ok item)) run.1 in
      let t = step.found in
      let are' : ProgramFirstMatchesAll member is_word p s (ms ++ t ∷ []) = ((program_first_matches_all member is_word p s).one_more ms t).0 (are, comes_next ms m (Some t) stands step.next) in
      let search_is : from_place_on (left m).search t.end ≡ from_place_on s t.end = ap (λ l. from_place_on l.search t.end) stands ∙ from_there s (last_or None ms) t.end in
      let stands' : left j ≡ left_behind s (last_or None (ms ++ t ∷ [])) =
      step.left_is ∙ ap (λ x. record { search = x; last_end = Some t.end; is_over = false }) search_is ∙ ap (left_behind s) (sym (last_of_more None ms t)) in
      let on = given (ms ++ t ∷ []) j n items are' stands' run.2 in
      let same : (ms ++ t ∷ []) ++ on.more ≡ ms ++ t ∷ on.more = append_assoc ms (t ∷ []) on.more in
      record {
        more = t ∷ on.more;
        are_first = subst (ProgramFirstMatchesAll member is_word p s) same on.are_first;
        items_are = ap₂ (λ x xs. x ∷ xs) step.item_is on.items_are;
        left_is = on.left_is ∙ ap (λ xs. left_behind s (last_or None xs)) same;
      }

  over_gives_none : (m n : F) (items : List (Result A E)) → (left m).is_over ≡ true → Yields gives m items n → items ≡ []
  over_gives_none m n [] over run = refl
  over_gives_none m n (Ok item ∷ items) over run =
      let step : GivesFoundAll (ProgramFindsAll member is_word p) item_of (left m) item (left run.0) = steps m run.0 (Some (Ok item)) run.1 in
      absurd (cc (over, step.goes_on))
  over_gives_none m n (Err error ∷ items) over run = absurd (cc (over, (steps m run.0 (Some (Err error)) run.1).0))

  after_refusal : (m n : F) (items : List A) (error : E) (others : List (Result A E)) → Yields gives m (not_refused items ++ Err error ∷ others) n → others ≡ []
  after_refusal m n [] error others run = over_gives_none run.0 n others (steps m run.0 (Some (Err error)) run.1).1 run.2
  after_refusal m n (item ∷ items) error others run = after_refusal run.0 n items error others run.2

  in_order : (m : F) → left m ≡ matches_from s → GivesAllInOrder member is_word p item_of gives s m
  in_order m stands = record {
    first = λ n items run. let g = given [] m n items (program_first_matches_all member is_word p s).none stands run in (g.more, g.are_first, g.items_are);
    all = λ items all.
        let end = all.1.0 in
        let g = given [] m end items (program_first_matches_all member is_word p s).none stands all.1.1 in
        let none = (steps end all.0 None all.1.2).0 (ap (λ l. l.is_over) g.left_is ∙ never_over s (last_or None g.more)) in
        (g.more, ((program_first_matches_all member is_word p s).all g.more).0 (g.are_first, comes_next g.more end None g.left_is none), g.items_are);
    refused = λ n items error others run. after_refusal m n items error others run;
  }

pub iterators_give_all_in_order : {S A E F : Type 0} (member : S → ℕ → Bool) (is_word : ℕ → Bool) (p : Program Look S) (item_of : PatternMatch → A) (left : F → MatchesLeft) (gives : F → Option (Result A E) → F → Type 0)
    → IteratorsGiveAllInOrder member is_word p item_of left gives
iterators_give_all_in_order member is_word p item_of left gives steps s m stands = in_order member is_word p item_of left gives steps s m stands
