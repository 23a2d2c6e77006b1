-- The items of iterators over matches, in order, and that parts are the gaps between them, or the
-- first of these.
use Rattle.std.proofs.Common.{◌≡◌, ◌⊎◌, inl, inr, ℕ, zero, suc, ◌+◌, ◌<◌, true, false, List, [], ◌∷◌, ◌++◌, take, Option, Some, None, Result, Ok, Err, append_assoc, refl, sym, ap, ap₂, subst, ◌∙◌, arith}
use Rattle.std.specs.List.{last_or}
use Rattle.std.specs.Iterator.{Yields}
use Rattle.std.proofs.Props.{props}
use Rattle.std.proofs.lemmas.Bool.{le-ltb, lt-ltb}
use Rattle.std.proofs.lemmas.List.{append-nil}
use Rattle.rx_util.specs.declared.search.MatchError.{MatchError}
use Rattle.rx_util.specs.declared.search.Span.{Span}
use Rattle.rx_util.specs.Search.{Found}
use Rattle.rx_util.specs.Captured.{Captured}
use Rattle.rx_util.specs.Groups.{slot_len}
use Rattle.rx_input.specs.declared.cursor.Cursor.{Ghosts}
use Rattle.rx_walks.specs.Finds.{Search}
use Rattle.rx_walks.specs.Iterating.{Finding, matches_from, GivesFound, GivesMatch, not_refused}
use Rattle.rx_chunk.specs.Engines.{EngineFinds, match_of}
use Rattle.rx_chunk.specs.Iterating.{EngineMatches, FirstEngineMatches, GivesNext, captured_of}
use Rattle.rx_chunk.proofs.OrderLaws.{all_of, first_matches, in_order, last_of_more, left_behind, never_over, one_more, stands_behind}
use Rattle.regex_cursor.specs.declared.engines.meta.captures_matches.CapturesMatches.{CapturesMatches}
use Rattle.regex_cursor.specs.declared.engines.meta.find_matches.FindMatches.{FindMatches}
use Rattle.regex_cursor.specs.declared.engines.meta.split.Split.{Split}
use Rattle.regex_cursor.specs.declared.engines.meta.split_n.SplitN.{SplitN}
use Rattle.regex_cursor.specs.Patterns.{FoundMatch, start_of, end_of}
use Rattle.regex_cursor.specs.Regexes.{RegexView, HasRoom}
use Rattle.regex_cursor.specs.Iterating as iterating
use Rattle.regex_cursor.specs.Capturing as capturing
use Rattle.regex_cursor.specs.Splitting as splitting
use Rattle.regex_cursor.specs.Splitting.{PartsLeft, parts_of, EndsWith, part, none, SplitsOff, over, at_match, at_end, no_end, refused, span_from_to, end_of_search, gaps, last_part, GivesGaps}
use Rattle.regex_cursor.specs.SplittingFew as few
use Rattle.regex_cursor.specs.SplittingFew.{SplitsFew, enough, some, last_one, few_gaps, GivesFewGaps}

-- ---- iterators over matches

pub finds_in_order : {C : Type 0} (re : RegexView) (s : Search) (m : FindMatches C) → iterating.regex_of m ≡ re → iterating.left_of m ≡ matches_from s
    → iterating.GivesAll re s m
finds_in_order {C} re s m is stands =
    in_order re.engine s match_of iterating.left_of iterating.Gives (λ n. iterating.regex_of n ≡ re)
    (λ (a b : FindMatches C) (item : Option (Result Found MatchError)) (of : iterating.regex_of a ≡ re) (step : iterating.Gives a item b). (
      step.same_regex ∙ of,
      subst (λ r. GivesMatch (EngineFinds r.engine) match_of (iterating.left_of a) item (iterating.left_of b)) of step.next.gives,
    ))
    m is stands

pub captures_in_order : {C : Type 0} {cursor : Ghosts C} (re : RegexView) (s : Search) (m : CapturesMatches C cursor) → capturing.regex_of m ≡ re → capturing.left_of m ≡ matches_from s
    → capturing.GivesAll re s m
captures_in_order {C} {cursor} re s m is stands =
    in_order re.engine s (captured_of re.engine.groups (slot_len re.engine.groups)) capturing.left_of capturing.Gives (λ n. capturing.regex_of n ≡ re)
    (λ (a b : CapturesMatches C cursor) (item : Option (Result Captured MatchError)) (of : capturing.regex_of a ≡ re) (step : capturing.Gives a item b). (
      step.same_regex ∙ of,
      subst (λ r. GivesMatch (EngineFinds r.engine) (captured_of r.engine.groups (slot_len r.engine.groups)) (capturing.left_of a) item (capturing.left_of b)) of step.next.gives,
    ))
    m is stands

-- ---- parts

-- the state of an iterator over parts after the last match
abbrev parts_behind : Search → Option FoundMatch → PartsLeft
parts_behind s None = parts_of (matches_from s)
parts_behind s (Some t) = record { matches = left_behind s (Some t); last = end_of t; is_over = false }

-- where the next part starts
abbrev part_start : Option FoundMatch → ℕ
part_start None = 0
part_start (Some t) = end_of t

matches_behind : (s : Search) (last : Option FoundMatch) → (parts_behind s last).matches ≡ left_behind s last
matches_behind s None = refl
matches_behind s (Some t) = refl

starts_behind : (s : Search) (last : Option FoundMatch) → (parts_behind s last).last ≡ part_start last
starts_behind s None = refl
starts_behind s (Some t) = refl

parts_go_on : (s : Search) (last : Option FoundMatch) → (parts_behind s last).is_over ≡ false
parts_go_on s None = refl
parts_go_on s (Some t) = refl

ends_there : (s : Search) (last : Option FoundMatch) → end_of_search (left_behind s last).search ≡ end_of_search s
ends_there s None = refl
ends_there s (Some t) = refl

-- the last part is at these offsets if there is one
last-is : (start end : ℕ) (x : Span) → EndsWith start end (Some x) → last_part start end ≡ x ∷ []
last-is start end x (part ordered) = rw (le-ltb end start ordered) refl

none-is-last : (start end : ℕ) → EndsWith start end None → last_part start end ≡ []
none-is-last start end (none behind) = rw (lt-ltb end start behind) refl

-- a step that yields a part: it ends at a match, or at the end of all
record AtMatch (finding : Finding) (a b : PartsLeft) (x : Span) : Type 0 where
  found : Found
  next : GivesNext finding match_of a.matches (Some (Ok found)) b.matches
  last_is : b.last ≡ found.span.end
  goes_on : b.is_over ≡ false
  part_is : x ≡ span_from_to a.last found.span.start

record AtEnd (finding : Finding) (a b : PartsLeft) (x : Span) : Type 0 where
  next : GivesNext {A = Found} finding match_of a.matches None b.matches
  rest : EndsWith a.last (end_of_search a.matches.search) (Some x)
  is_over : b.is_over ≡ true

gives-part : (finding : Finding) (a b : PartsLeft) (x : Span) → SplitsOff finding a b (Some (Ok x)) → AtMatch finding a b x ⊎ AtEnd finding a b x
gives-part finding a b x (at_match {a = f} going next last_is on) = inl (record { found = f; next = next; last_is = last_is; goes_on = on; part_is = refl })
gives-part finding a b x (at_end going next rest done) = inr (record { next = next; rest = rest; is_over = done })

-- a step that yields none before the end
record NoEnd (finding : Finding) (a b : PartsLeft) : Type 0 where
  next : GivesNext {A = Found} finding match_of a.matches None b.matches
  rest : EndsWith a.last (end_of_search a.matches.search) None

gives-none : (finding : Finding) (a b : PartsLeft) → a.is_over ≡ false → SplitsOff finding a b None → NoEnd finding a b
gives-none finding a b going (over is same) = absurd (let no : true ≡ false = sym is ∙ going in absurd (cc no))
gives-none finding a b going (no_end is next rest done) = record { next = next; rest = rest }

over-gives : (finding : Finding) (a b : PartsLeft) (item : Result Span MatchError) → a.is_over ≡ true → SplitsOff finding a b (Some item) → ⊥
over-gives finding a b (Ok x) is (at_match {a = f} going next last_is on) = let no : true ≡ false = sym is ∙ going in absurd (cc no)
over-gives finding a b (Ok x) is (at_end going next rest done) = let no : true ≡ false = sym is ∙ going in absurd (cc no)
over-gives finding a b (Err error) is (refused going done) = let no : true ≡ false = sym is ∙ going in absurd (cc no)

is-refused : (finding : Finding) (a b : PartsLeft) (error : MatchError) → SplitsOff finding a b (Some (Err error)) → b.is_over ≡ true
is-refused finding a b error (refused going done) = done

parts-are : (s : Search) (b : PartsLeft) (t : FoundMatch) → b.matches ≡ left_behind s (Some t) → b.last ≡ end_of t → b.is_over ≡ false → b ≡ parts_behind s (Some t)
parts-are s b t matches last goes =
    ap (λ x. record { matches = x; last = b.last; is_over = b.is_over }) matches
    ∙ ap (λ x. record { matches = left_behind s (Some t); last = x; is_over = b.is_over }) last
    ∙ ap (λ x. record { matches = left_behind s (Some t); last = end_of t; is_over = x }) goes

none-refused : (xs : List Span) → not_refused {E = MatchError} xs ≡ [] → xs ≡ []
none-refused [] e = refl
none-refused (x ∷ xs) e = absurd (cc e)

-- ---- steps with a number of parts still allowed

abbrev part-in : Span → Option (Result Span MatchError) → Span
part-in x (Some (Ok y)) = y
part-in x (Some (Err error)) = x
part-in x None = x

-- one that yields a part: it is the next one of all parts, or the last one allowed
record NextOfAll (finding : Finding) (a b : PartsLeft) (limit left : ℕ) (item : Option (Result Span MatchError)) : Type 0 where
  more : 0 < left
  limit_is : limit ≡ suc left
  step : SplitsOff finding a b item

record LastOfFew (a : PartsLeft) (limit left : ℕ) (last : Option Span) : Type 0 where
  limit_is : limit ≡ 1
  left_is : left ≡ 0
  rest : EndsWith a.last (end_of_search a.matches.search) last

next-of-all : (finding : Finding) (a b : PartsLeft) (limit : ℕ) (item : Option (Result Span MatchError)) → 0 < limit → SplitsOff finding a b item → NextOfAll finding a b (limit + 1) limit item
next-of-all finding a b limit item more step = record { more = more; limit_is = let is : limit + 1 ≡ suc limit = omega arith in is; step = step }

few-part : (finding : Finding) (a b : PartsLeft) (limit left : ℕ) (item : Option (Result Span MatchError)) (x : Span) → item ≡ Some (Ok x) → SplitsFew finding a b limit left item
    → NextOfAll finding a b limit left (Some (Ok x)) ⊎ LastOfFew a limit left (Some x)
few-part finding a b limit left item x is (enough same) = absurd (cc is)
few-part finding a b limit left item x is (some more step) = inl (next-of-all finding a b left (Some (Ok x)) more (subst (SplitsOff finding a b) is step))
few-part finding a b limit left item x is (few.over done same) = absurd (cc is)
few-part finding a b limit left item x is (last_one {part = Some y} going rest left_is) =
    inr (record { limit_is = refl; left_is = refl; rest = subst (λ z. EndsWith a.last (end_of_search a.matches.search) (Some z)) (ap (part-in x) is) rest })
few-part finding a b limit left item x is (last_one {part = None} going rest left_is) = absurd (cc is)

-- one that yields none, without an error and before the last part
few-none : (finding : Finding) (a b : PartsLeft) (limit left : ℕ) (item : Option (Result Span MatchError)) → item ≡ None → a.is_over ≡ false → SplitsFew finding a b limit left item
    → (limit ≡ 0) ⊎ NextOfAll finding a b limit left None ⊎ LastOfFew a limit left None
few-none finding a b limit left item is going (enough same) = inl refl
few-none finding a b limit left item is going (some more step) = inr (inl (next-of-all finding a b left None more (subst (SplitsOff finding a b) is step)))
few-none finding a b limit left item is going (few.over done same) = absurd (let no : true ≡ false = sym done ∙ going in absurd (cc no))
few-none finding a b limit left item is going (last_one {part = Some y} going' rest left_is) = absurd (cc is)
few-none finding a b limit left item is going (last_one {part = None} going' rest left_is) = inr (inr (record { limit_is = refl; left_is = refl; rest = rest }))

-- one that is an error
few-refused : (finding : Finding) (a b : PartsLeft) (limit left : ℕ) (item : Option (Result Span MatchError)) (error : MatchError) → item ≡ Some (Err error) → SplitsFew finding a b limit left item → b.is_over ≡ true
few-refused finding a b limit left item error is (enough same) = absurd (cc is)
few-refused finding a b limit left item error is (some more step) = is-refused finding a b error (subst (SplitsOff finding a b) is step)
few-refused finding a b limit left item error is (few.over done same) = absurd (cc is)
few-refused finding a b limit left item error is (last_one {part = Some y} going rest left_is) = absurd (cc is)
few-refused finding a b limit left item error is (last_one {part = None} going rest left_is) = absurd (cc is)

-- nothing is yielded after the end
few-over : (finding : Finding) (a b : PartsLeft) (limit left : ℕ) (item : Option (Result Span MatchError)) (x : Result Span MatchError) → item ≡ Some x → (limit ≡ 0) ⊎ (a.is_over ≡ true)
    → SplitsFew finding a b limit left item → ⊥
few-over finding a b limit left item x is done (enough same) = absurd (cc is)
few-over finding a b limit left item x is (inl zero_left) (some more step) = let no : ⊥ = omega (arith, zero_left) in no
few-over finding a b limit left item x is (inr done) (some more step) = over-gives finding a b x done (subst (SplitsOff finding a b) is step)
few-over finding a b limit left item x is done (few.over done' same) = absurd (cc is)
few-over finding a b limit left item x is (inl zero_left) (last_one going rest left_is) = let no : ⊥ = omega (arith, zero_left) in no
few-over finding a b limit left item x is (inr done) (last_one going rest left_is) = let no : true ≡ false = sym done ∙ going in absurd (cc no)

take-none : (n : ℕ) → take {A = FoundMatch} n [] ≡ []
take-none zero = refl
take-none (suc n) = refl

module _ (C : Type 0) (re : RegexView) (s : Search) where
  abbrev Splits : Split C → Type 0
  Splits m = splitting.regex_of m ≡ re

  abbrev First : List FoundMatch → Type 0
  First ms = FirstEngineMatches re.engine s ms

  abbrev All : List FoundMatch → Type 0
  All ms = EngineMatches re.engine s ms

  abbrev Stands : List FoundMatch → PartsLeft → Type 0
  Stands ms a = a ≡ parts_behind s (last_or None ms)

  step-of : (m n : Split C) (item : Option (Result Span MatchError)) → Splits m → splitting.Gives m item n
      → Splits n × SplitsOff (EngineFinds re.engine) (splitting.left_of m) (splitting.left_of n) item
  step-of m n item of step = (step.same_regex ∙ of, subst (λ r. SplitsOff (EngineFinds r.engine) (splitting.left_of m) (splitting.left_of n) item) of step.next)

  over-none : (m n : Split C) (items : List (Result Span MatchError)) → Splits m → (splitting.left_of m).is_over ≡ true → Yields splitting.Gives m items n → items ≡ []
  over-none m n [] of done run = refl
  over-none m n (item ∷ items) of done run =
      absurd (over-gives (EngineFinds re.engine) (splitting.left_of m) (splitting.left_of run.0) item done (step-of m run.0 (Some item) of run.1).1)

  -- where the matches are, after the first of them
  matches-stand : (ms : List FoundMatch) (a : PartsLeft) → Stands ms a → a.matches ≡ left_behind s (last_or None ms)
  matches-stand ms a stands = ap (λ x. x.matches) stands ∙ matches_behind s (last_or None ms)

  starts-at : (ms : List FoundMatch) (a : PartsLeft) → Stands ms a → a.last ≡ part_start (last_or None ms)
  starts-at ms a stands = ap (λ x. x.last) stands ∙ starts_behind s (last_or None ms)

  all-matches : (ms : List FoundMatch) (a b : PartsLeft) → First ms → Stands ms a → GivesNext {A = Found} (EngineFinds re.engine) match_of a.matches None b.matches → All ms
  all-matches ms a b are stands next =
      let there = matches-stand ms a stands in
      all_of re.engine s ms a.matches are there (next.gives.0 (ap (λ x. x.is_over) there ∙ never_over s (last_or None ms)))

  end-is : (ms : List FoundMatch) (a : PartsLeft) → Stands ms a → end_of_search a.matches.search ≡ end_of_search s
  end-is ms a stands = ap (λ x. end_of_search x.search) (matches-stand ms a stands) ∙ ends_there s (last_or None ms)

  -- one more match, and the part before it
  record OneMore (ms : List FoundMatch) (b : PartsLeft) (x : Span) : Type 0 where
    t : FoundMatch
    first : First (ms ++ t ∷ [])
    stands : Stands (ms ++ t ∷ []) b
    part_is : x ≡ span_from_to (part_start (last_or None ms)) (start_of t)

  one-more : (ms : List FoundMatch) (a b : PartsLeft) (x : Span) → First ms → Stands ms a → AtMatch (EngineFinds re.engine) a b x → OneMore ms b x
  one-more ms a b x are stands at =
      let there = matches-stand ms a stands in
      let step : GivesFound (EngineFinds re.engine) match_of a.matches at.found b.matches = at.next.gives in
      let t = step.found in
      let behind = stands_behind re.engine s ms a.matches b.matches t there step.left_is in
      let last_is = at.last_is ∙ ap (λ f. f.span.end) step.item_is in
      let shown : last_or None (ms ++ t ∷ []) ≡ Some t = last_of_more None ms t in
      record {
        t = t;
        first = one_more re.engine s ms a.matches t are there step.next;
        stands = parts-are s b t (behind ∙ ap (left_behind s) shown) last_is at.goes_on ∙ ap (parts_behind s) (sym shown);
        part_is = at.part_is ∙ ap₂ span_from_to (starts-at ms a stands) (ap (λ f. f.span.start) step.item_is);
      }

  abbrev Gaps : List FoundMatch → List FoundMatch → List Span
  Gaps ms more = gaps (part_start (last_or None ms)) (end_of_search s) more

  -- the gaps with one more match
  gaps-more : (ms : List FoundMatch) (b : PartsLeft) (x : Span) (one : OneMore ms b x) (more : List FoundMatch) → Gaps ms (one.t ∷ more) ≡ x ∷ Gaps (ms ++ one.t ∷ []) more
  gaps-more ms b x one more =
      ap₂ (λ y ys. y ∷ ys) (sym one.part_is) (ap (λ o. gaps (part_start o) (end_of_search s) more) (sym (last_of_more None ms one.t)))

  -- the last part
  last-gap : (ms : List FoundMatch) (a : PartsLeft) (x : Span) → Stands ms a → EndsWith a.last (end_of_search a.matches.search) (Some x) → Gaps ms [] ≡ x ∷ []
  last-gap ms a x stands ends =
      last-is (part_start (last_or None ms)) (end_of_search s) x
      (subst (λ e. EndsWith (part_start (last_or None ms)) e (Some x)) (end-is ms a stands)
      (subst (λ b. EndsWith b (end_of_search a.matches.search) (Some x)) (starts-at ms a stands) ends))

  no-gap : (ms : List FoundMatch) (a : PartsLeft) → Stands ms a → EndsWith a.last (end_of_search a.matches.search) None → Gaps ms [] ≡ []
  no-gap ms a stands ends =
      none-is-last (part_start (last_or None ms)) (end_of_search s)
      (subst (λ e. EndsWith (part_start (last_or None ms)) e None) (end-is ms a stands)
      (subst (λ b. EndsWith b (end_of_search a.matches.search) None) (starts-at ms a stands) ends))

  first-parts : (ms : List FoundMatch) (m n : Split C) (xs : List Span) → Splits m → First ms → Stands ms (splitting.left_of m) → Yields splitting.Gives m (not_refused xs) n
      → (more : List FoundMatch) × All (ms ++ more) × (others : List Span) × (Gaps ms more ≡ xs ++ others)
  first-parts ms m n [] of are stands run = (are.0, are.1, Gaps ms are.0, refl)
  first-parts ms m n (x ∷ xs) of are stands run =
      let j = run.0 in
      let step = step-of m j (Some (Ok x)) of run.1 in
      elim (gives-part (EngineFinds re.engine) (splitting.left_of m) (splitting.left_of j) x step.1) [
        | inl at ↦
            let one = one-more ms (splitting.left_of m) (splitting.left_of j) x are stands at in
            let on = first-parts (ms ++ one.t ∷ []) j n xs step.0 one.first one.stands run.2 in (
              one.t ∷ on.0,
              subst All (append_assoc ms (one.t ∷ []) on.0) on.1,
              on.2,
              gaps-more ms (splitting.left_of j) x one on.0 ∙ ap (λ ys. x ∷ ys) on.3,
            )
        | inr at ↦
            let nothing_more : xs ≡ [] = none-refused xs (over-none j n (not_refused xs) step.0 at.is_over run.2) in (
              [],
              subst All (sym (append-nil ms)) (all-matches ms (splitting.left_of m) (splitting.left_of j) are stands at.next),
              [],
              last-gap ms (splitting.left_of m) x stands at.rest ∙ ap (λ ys. x ∷ ys ++ []) (sym nothing_more),
            )
      ]

  all-parts : (ms : List FoundMatch) (m t u : Split C) (xs : List Span) → Splits m → First ms → Stands ms (splitting.left_of m) → Yields splitting.Gives m (not_refused xs) t
      → splitting.Gives t None u → (more : List FoundMatch) × All (ms ++ more) × (xs ≡ Gaps ms more)
  all-parts ms m t u [] of are stands run last =
      let step = step-of m u None of (subst (λ k. splitting.Gives k None u) (sym run) last) in
      let going = ap (λ a. a.is_over) stands ∙ parts_go_on s (last_or None ms) in
      let no = gives-none (EngineFinds re.engine) (splitting.left_of m) (splitting.left_of u) going step.1 in (
        [],
        subst All (sym (append-nil ms)) (all-matches ms (splitting.left_of m) (splitting.left_of u) are stands no.next),
        sym (no-gap ms (splitting.left_of m) stands no.rest),
      )
  all-parts ms m t u (x ∷ xs) of are stands run last =
      let j = run.0 in
      let step = step-of m j (Some (Ok x)) of run.1 in
      elim (gives-part (EngineFinds re.engine) (splitting.left_of m) (splitting.left_of j) x step.1) [
        | inl at ↦
            let one = one-more ms (splitting.left_of m) (splitting.left_of j) x are stands at in
            let on = all-parts (ms ++ one.t ∷ []) j t u xs step.0 one.first one.stands run.2 last in (
              one.t ∷ on.0,
              subst All (append_assoc ms (one.t ∷ []) on.0) on.1,
              ap (λ ys. x ∷ ys) on.2 ∙ sym (gaps-more ms (splitting.left_of j) x one on.0),
            )
        | inr at ↦
            let nothing_more : xs ≡ [] = none-refused xs (over-none j t (not_refused xs) step.0 at.is_over run.2) in (
              [],
              subst All (sym (append-nil ms)) (all-matches ms (splitting.left_of m) (splitting.left_of j) are stands at.next),
              ap (λ ys. x ∷ ys) nothing_more ∙ sym (last-gap ms (splitting.left_of m) x stands at.rest),
            )
      ]

  none-behind-refusal : (m n : Split C) (xs : List Span) (error : MatchError) (others : List (Result Span MatchError)) → Splits m
      → Yields splitting.Gives m (not_refused xs ++ Err error ∷ others) n → others ≡ []
  none-behind-refusal m n [] error others of run =
      let step = step-of m run.0 (Some (Err error)) of run.1 in
      over-none run.0 n others step.0 (is-refused (EngineFinds re.engine) (splitting.left_of m) (splitting.left_of run.0) error step.1) run.2
  none-behind-refusal m n (x ∷ xs) error others of run =
      none-behind-refusal run.0 n xs error others (step-of m run.0 (Some (Ok x)) of run.1).0 run.2

  pub gives_gaps : (m : Split C) → splitting.regex_of m ≡ re → splitting.left_of m ≡ parts_of (matches_from s) → GivesGaps re s m
  gives_gaps m of stands = record {
    first = λ n xs run. first-parts [] m n xs of (first_matches re.engine s).none stands run;
    all = λ xs run. all-parts [] m run.1.0 run.0 xs of (first_matches re.engine s).none stands run.1.1 run.1.2;
    refused = λ n xs error others run. none-behind-refusal m n xs error others of run;
  }

  -- ---- at most `limit` parts

  abbrev SplitsToo : SplitN C → Type 0
  SplitsToo m = few.regex_of m ≡ re

  abbrev PartsOf : SplitN C → PartsLeft
  PartsOf m = (few.left_of m).parts

  few-step : (m n : SplitN C) (item : Option (Result Span MatchError)) → SplitsToo m → few.Gives m item n → SplitsToo n × SplitsFew (EngineFinds re.engine) (PartsOf m) (PartsOf n) m.limit n.limit item
  few-step m n item of step = (step.same_regex ∙ of, subst (λ r. SplitsFew (EngineFinds r.engine) (PartsOf m) (PartsOf n) m.limit n.limit item) of step.next)

  few-give-none : (m n : SplitN C) (items : List (Result Span MatchError)) → SplitsToo m → (m.limit ≡ 0) ⊎ ((PartsOf m).is_over ≡ true) → Yields few.Gives m items n → items ≡ []
  few-give-none m n [] of done run = refl
  few-give-none m n (item ∷ items) of done run =
      absurd (few-over (EngineFinds re.engine) (PartsOf m) (PartsOf run.0) m.limit run.0.limit (Some item) item refl done (few-step m run.0 (Some item) of run.1).1)

  few-give-no-part : (m n : SplitN C) (xs : List Span) → SplitsToo m → (m.limit ≡ 0) ⊎ ((PartsOf m).is_over ≡ true) → Yields few.Gives m (not_refused xs) n → xs ≡ []
  few-give-no-part m n xs of done run = none-refused xs (few-give-none m n (not_refused xs) of done run)

  abbrev FewGaps : ℕ → List FoundMatch → List FoundMatch → List Span
  FewGaps limit ms more = few_gaps limit (part_start (last_or None ms)) (end_of_search s) more

  few-gaps-more : (limit : ℕ) (ms : List FoundMatch) (b : PartsLeft) (x : Span) (one : OneMore ms b x) (more : List FoundMatch) → 0 < limit
      → FewGaps (suc limit) ms (one.t ∷ more) ≡ x ∷ FewGaps limit (ms ++ one.t ∷ []) more
  few-gaps-more zero ms b x one more low = absurd (let no : ⊥ = omega (arith, low) in no)
  few-gaps-more (suc others) ms b x one more low = gaps-more ms b x one (take others more)

  few-gaps-last : (limit : ℕ) (ms : List FoundMatch) → FewGaps (suc limit) ms [] ≡ Gaps ms []
  few-gaps-last limit ms = ap (Gaps ms) (take-none limit)

  -- the last part of all, and the last one allowed
  last-of-all : (limit left : ℕ) (ms : List FoundMatch) (a : PartsLeft) (x : Span) → Stands ms a → limit ≡ suc left → EndsWith a.last (end_of_search a.matches.search) (Some x) → FewGaps limit ms [] ≡ x ∷ []
  last-of-all limit left ms a x stands limit_is rest = ap (λ k. FewGaps k ms []) limit_is ∙ few-gaps-last left ms ∙ last-gap ms a x stands rest

  last-of-few : (limit : ℕ) (ms more : List FoundMatch) (a : PartsLeft) (x : Span) → Stands ms a → limit ≡ 1 → EndsWith a.last (end_of_search a.matches.search) (Some x) → FewGaps limit ms more ≡ x ∷ []
  last-of-few limit ms more a x stands limit_is rest = ap (λ k. FewGaps k ms more) limit_is ∙ last-gap ms a x stands rest

  few-first : (ms : List FoundMatch) (m n : SplitN C) (xs : List Span) → SplitsToo m → First ms → Stands ms (PartsOf m) → Yields few.Gives m (not_refused xs) n
      → (more : List FoundMatch) × All (ms ++ more) × (others : List Span) × (FewGaps m.limit ms more ≡ xs ++ others)
  few-first ms m n [] of are stands run = (are.0, are.1, FewGaps m.limit ms are.0, refl)
  few-first ms m n (x ∷ xs) of are stands run =
      let j = run.0 in
      let step = few-step m j (Some (Ok x)) of run.1 in
      elim (few-part (EngineFinds re.engine) (PartsOf m) (PartsOf j) m.limit j.limit (Some (Ok x)) x refl step.1) [
        | inl next ↦ elim (gives-part (EngineFinds re.engine) (PartsOf m) (PartsOf j) x next.step) [
          | inl at ↦
              let one = one-more ms (PartsOf m) (PartsOf j) x are stands at in
              let on = few-first (ms ++ one.t ∷ []) j n xs step.0 one.first one.stands run.2 in (
                one.t ∷ on.0,
                subst All (append_assoc ms (one.t ∷ []) on.0) on.1,
                on.2,
                ap (λ k. FewGaps k ms (one.t ∷ on.0)) next.limit_is ∙ few-gaps-more j.limit ms (PartsOf j) x one on.0 next.more ∙ ap (λ ys. x ∷ ys) on.3,
              )
          | inr at ↦
              let nothing_more : xs ≡ [] = few-give-no-part j n xs step.0 (inr at.is_over) run.2 in (
                [],
                subst All (sym (append-nil ms)) (all-matches ms (PartsOf m) (PartsOf j) are stands at.next),
                [],
                last-of-all m.limit j.limit ms (PartsOf m) x stands next.limit_is at.rest ∙ ap (λ ys. x ∷ ys ++ []) (sym nothing_more),
              )
        ]
        | inr limited ↦
            let nothing_more : xs ≡ [] = few-give-no-part j n xs step.0 (inl limited.left_is) run.2 in (
              are.0,
              are.1,
              [],
              last-of-few m.limit ms are.0 (PartsOf m) x stands limited.limit_is limited.rest ∙ ap (λ ys. x ∷ ys ++ []) (sym nothing_more),
            )
      ]

  few-all : (ms : List FoundMatch) (m t u : SplitN C) (xs : List Span) → SplitsToo m → First ms → Stands ms (PartsOf m) → Yields few.Gives m (not_refused xs) t → few.Gives t None u
      → (more : List FoundMatch) × All (ms ++ more) × (xs ≡ FewGaps m.limit ms more)
  few-all ms m t u [] of are stands run last =
      let step = few-step m u None of (subst (λ k. few.Gives k None u) (sym run) last) in
      let going = ap (λ a. a.is_over) stands ∙ parts_go_on s (last_or None ms) in
      elim (few-none (EngineFinds re.engine) (PartsOf m) (PartsOf u) m.limit u.limit None refl going step.1) [
        | inl zero_left ↦ (are.0, are.1, ap (λ k. FewGaps k ms are.0) (sym zero_left))
        | inr (inl next) ↦
            let no = gives-none (EngineFinds re.engine) (PartsOf m) (PartsOf u) going next.step in (
              [],
              subst All (sym (append-nil ms)) (all-matches ms (PartsOf m) (PartsOf u) are stands no.next),
              sym (ap (λ k. FewGaps k ms []) next.limit_is ∙ few-gaps-last u.limit ms ∙ no-gap ms (PartsOf m) stands no.rest),
            )
        | inr (inr limited) ↦ (are.0, are.1, sym (ap (λ k. FewGaps k ms are.0) limited.limit_is ∙ no-gap ms (PartsOf m) stands limited.rest))
      ]
  few-all ms m t u (x ∷ xs) of are stands run last =
      let j = run.0 in
      let step = few-step m j (Some (Ok x)) of run.1 in
      elim (few-part (EngineFinds re.engine) (PartsOf m) (PartsOf j) m.limit j.limit (Some (Ok x)) x refl step.1) [
        | inl next ↦ elim (gives-part (EngineFinds re.engine) (PartsOf m) (PartsOf j) x next.step) [
          | inl at ↦
              let one = one-more ms (PartsOf m) (PartsOf j) x are stands at in
              let on = few-all (ms ++ one.t ∷ []) j t u xs step.0 one.first one.stands run.2 last in (
                one.t ∷ on.0,
                subst All (append_assoc ms (one.t ∷ []) on.0) on.1,
                ap (λ ys. x ∷ ys) on.2 ∙ sym (ap (λ k. FewGaps k ms (one.t ∷ on.0)) next.limit_is ∙ few-gaps-more j.limit ms (PartsOf j) x one on.0 next.more),
              )
          | inr at ↦
              let nothing_more : xs ≡ [] = few-give-no-part j t xs step.0 (inr at.is_over) run.2 in (
                [],
                subst All (sym (append-nil ms)) (all-matches ms (PartsOf m) (PartsOf j) are stands at.next),
                ap (λ ys. x ∷ ys) nothing_more ∙ sym (last-of-all m.limit j.limit ms (PartsOf m) x stands next.limit_is at.rest),
              )
        ]
        | inr limited ↦
            let nothing_more : xs ≡ [] = few-give-no-part j t xs step.0 (inl limited.left_is) run.2 in (
              are.0,
              are.1,
              ap (λ ys. x ∷ ys) nothing_more ∙ sym (last-of-few m.limit ms are.0 (PartsOf m) x stands limited.limit_is limited.rest),
            )
      ]

  few-none-behind-refusal : (m n : SplitN C) (xs : List Span) (error : MatchError) (others : List (Result Span MatchError)) → SplitsToo m
      → Yields few.Gives m (not_refused xs ++ Err error ∷ others) n → others ≡ []
  few-none-behind-refusal m n [] error others of run =
      let step = few-step m run.0 (Some (Err error)) of run.1 in
      few-give-none run.0 n others step.0 (inr (few-refused (EngineFinds re.engine) (PartsOf m) (PartsOf run.0) m.limit run.0.limit (Some (Err error)) error refl step.1)) run.2
  few-none-behind-refusal m n (x ∷ xs) error others of run =
      few-none-behind-refusal run.0 n xs error others (few-step m run.0 (Some (Ok x)) of run.1).0 run.2

  pub gives_few_gaps : (m : SplitN C) → few.regex_of m ≡ re → PartsOf m ≡ parts_of (matches_from s) → GivesFewGaps re s m.limit m
  gives_few_gaps m of stands = record {
    first = λ n xs run. few-first [] m n xs of (first_matches re.engine s).none stands run;
    all = λ xs run. few-all [] m run.1.0 run.0 xs of (first_matches re.engine s).none stands run.1.1 run.1.2;
    refused = λ n xs error others run. few-none-behind-refusal m n xs error others of run;
  }

-- captures have room in only one way
pub same-room : (re : RegexView) (caps : Captured) (one other : HasRoom re caps) → one ≡ other
same-room re caps = hlevel props
