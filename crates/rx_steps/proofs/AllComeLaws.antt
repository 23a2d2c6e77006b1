-- How far a search for all matches has got, from its start to its end.
use Rattle.std.proofs.Common.{inl, inr, ◌≡◌, ℕ, zero, suc, ◌+◌, ◌-◌, ◌<◌, ◌≤◌, All, IsTrue, false, length, List, [], ◌∷◌, map, max, Option, Some, None, option_map, slice_get, refl, sym, ap, ap₂, subst, ◌∙◌, arith}
use Rattle.std.proofs.lemmas.List.Elements.{All-append, All-cons, All-nil}
use Rattle.std.specs.Option.{is_some}
use Rattle.rx_util.specs.Search.{Found}
use Rattle.rx_walks.specs.Machines.{Machine, reads}
use Rattle.rx_walks.specs.Programs.{Notes, is_within}
use Rattle.rx_walks.specs.Finds.{Search, PatternMatch, IsInside, is_anchored}
use Rattle.rx_walks.specs.ProgramFinds.{highest}
use Rattle.rx_walks.specs.Laws.{MayBegin}
use Rattle.rx_walks.specs.StepsAll.{StepsAll, done, passed, met, opened, read, Met, met_first, met_other, Latest, none_met, some_met, SearchesAll, over, started, stepped}
use Rattle.rx_program.specs.Programs.{ByteProgram, automata_of, character_program}
use Rattle.rx_steps.specs.declared.started.MetEnd.{MetEnd}
use Rattle.rx_steps.specs.Searching.{haystack_in}
use Rattle.rx_steps.specs.ListsAll.{Started, IsStartedOf, IsBestMet, IsStepAll}
use Rattle.rx_steps.specs.SearchingAll.{pattern_match}
use Rattle.rx_steps.specs.Coming.{course_of}
use Rattle.rx_steps.specs.ComingAll.{BeganBy, byte_machine_in, HasStartedAll, IsOverAll, IsUnderWayAll}
use Rattle.rx_steps.proofs.WayLaws.{none_within, nothing_left}

first_of : (P : Started → Type 0) (x : Started) (xs : List Started) → All P (x ∷ xs) → P x
first_of P x xs all = all 0 x (omega arith)

rest_of : (P : Started → Type 0) (x : Started) (xs : List Started) → All P (x ∷ xs) → All P xs
rest_of P x xs all = λ i d lt. all (suc i) d (omega (arith, lt))

-- ---- where threads started

BeganLater : (i j : ℕ) (xs : List Started) → i ≤ j → All (BeganBy i) xs → All (BeganBy j) xs
BeganLater i j xs le all = λ k d lt. omega (arith, le, all k d lt)

all_there : (j s : ℕ) (rs : List (ℕ × ℕ)) → s ≤ j → All (BeganBy j) (map (λ r. (s, r)) rs)
all_there j s [] le = All-nil (BeganBy j)
all_there j s (r ∷ rs) le = All-cons (BeganBy j) (s, r) (map (λ r. (s, r)) rs) le (all_there j s rs le)

-- the threads and the match ends after a step started where those before it did
began_on : (m : Machine (ℕ × ℕ) Notes) (i j : ℕ) {seen : List (ℕ × ℕ)} {threads next : List Started} {ends : List (ℕ × ℕ)} → StepsAll m i seen threads next ends → All (BeganBy j) threads
    → All (BeganBy j) next × ((s k : ℕ) → Met s k ends → s ≤ j)
began_on m i j done all = (All-nil (BeganBy j), λ s k here. nothing here)
  where
    nothing : {s k n : ℕ} → Met s k [] → s ≤ n
    nothing here = elim here [ ]
began_on m i j (passed {s = s} {q = q} {others = others} c rest) all = began_on m i j rest (rest_of (BeganBy j) (s, q) others all)
began_on m i j (met {s = s} {p = p} {q = q} {others = others} {met = ends} new is rest) all =
    let on = began_on m i j rest (rest_of (BeganBy j) (s, q) others all) in
    let le : s ≤ j = first_of (BeganBy j) (s, q) others all in
    (on.0, λ s' k' here. one_more s' k' le on.1 here)
  where
    one_more : (s' k' : ℕ) → s ≤ j → ((s k : ℕ) → Met s k ends → s ≤ j) → Met s' k' ((s, p) ∷ ends) → s' ≤ j
    one_more s' k' le those (met_first e f) = omega (arith, le, e)
    one_more s' k' le those (met_other here) = those s' k' here
began_on m i j (opened {s = s} {q = q} {others = others} rs new is rest) all =
    began_on m i j rest (All-append (BeganBy j) (map (λ r. (s, r)) rs) others (all_there j s rs (first_of (BeganBy j) (s, q) others all)) (rest_of (BeganBy j) (s, q) others all))
began_on m i j (read {s = s} {q = q} {others = others} {next = next} r new is rest) all =
    let on = began_on m i j rest (rest_of (BeganBy j) (s, q) others all) in
    (All-cons (BeganBy j) (s, r) next (first_of (BeganBy j) (s, q) others all) on.0, on.1)

started_began : (s : Search) (q i : ℕ) (live threads : List Started) → HasStartedAll s q i live threads → All (BeganBy i) live → All (BeganBy i) threads
started_began s q i live threads (inl begun) all =
    subst (All (BeganBy i)) (sym begun.1) (All-append (BeganBy i) live ((i, (q, 0)) ∷ []) all (All-cons (BeganBy i) (i, (q, 0)) [] (omega arith) (All-nil (BeganBy i))))
started_began s q i live threads (inr waits) all = subst (All (BeganBy i)) (sym waits.1) all

-- the best match end is one of a thread that started here or before
pub met_began : (m : Machine (ℕ × ℕ) Notes) (s : Search) (q i : ℕ) (live threads next : List Started) (e : MetEnd) → HasStartedAll s q i live threads → All (BeganBy i) live → IsStepAll m i threads next (Some e) → e.start ≤ i
met_began m s q i live threads next e began all step = (began_on m i i step.steps (started_began s q i live threads began all)).1 e.start e.pattern step.best.0

-- ---- no thread is left after the highest offset

none_read : (m : Machine (ℕ × ℕ) Notes) (i : ℕ) {seen : List (ℕ × ℕ)} {threads next : List Started} {ends : List (ℕ × ℕ)} → ((q r : ℕ × ℕ) → m.move i q ≡ reads r (i + 1) → ⊥) → StepsAll m i seen threads next ends → next ≡ []
none_read m i never done = refl
none_read m i never (passed c rest) = none_read m i never rest
none_read m i never (met new is rest) = none_read m i never rest
none_read m i never (opened rs new is rest) = none_read m i never rest
none_read m i never (read {q = q} r new is rest) = absurd (never q r is)

ends_there : (p : ByteProgram) (s : Search) (i : ℕ) (threads next : List Started) (ended : Option MetEnd) → IsStepAll (byte_machine_in p s) i threads next ended → highest s < i + 1 → next ≡ []
ends_there p s i threads next ended step past =
    let h = haystack_in p.line_terminator s in
    let le : highest s ≤ i = omega (arith, past) in
    none_read (byte_machine_in p s) i (λ q r. none_within (is_within h.low h.high i) (automata_of p) h i (i + 1) q r (slice_get (character_program p).nodes q.0) (nothing_left s.content (highest s) i le)) step.steps

-- ---- one offset

-- the best match after the best match end at an offset
abbrev pub best_after : ℕ → Option MetEnd → Option Found → Option Found
best_after i None best = best
best_after i (Some e) best = Some (record { pattern = e.pattern; span = record { start = e.start; end = i } })

latest : (i : ℕ) (ends : List (ℕ × ℕ)) (ended : Option MetEnd) (best : Option Found) → IsBestMet ends ended → Latest i (option_map pattern_match best) ends (option_map pattern_match (best_after i ended best))
latest i ends None best none = none_met none
latest i ends (Some e) best (here, least) = some_met here (λ s k there. let no_worse = least s k there in (no_worse.by_start, λ is. no_worse.by_pattern (sym is)))

come_on : (p : ByteProgram) (s : Search) (q i : ℕ) (live threads next : List Started) (ended : Option MetEnd) (best : Option Found) → HasStartedAll s q i live threads → IsStepAll (byte_machine_in p s) i threads next ended → (out : Option PatternMatch)
    → SearchesAll (byte_machine_in p s) (MayBegin s) (q, 0) (i + 1) next (option_map pattern_match (best_after i ended best)) out
    → SearchesAll (byte_machine_in p s) (MayBegin s) (q, 0) i live (option_map pattern_match best) out
come_on p s q i live threads next ended best (inl begun) step out rest =
    started begun.0 (subst (λ xs. StepsAll (byte_machine_in p s) i [] xs next step.ends) begun.1 step.steps) (latest i step.ends ended best step.best) rest
come_on p s q i live threads next ended best (inr waits) step out rest =
    stepped waits.0 (subst (λ xs. StepsAll (byte_machine_in p s) i [] xs next step.ends) waits.1 step.steps) (latest i step.ends ended best step.best) rest

pub way_passed_all : (p : ByteProgram) (s : Search) (q i : ℕ) (live threads next : List Started) (ended : Option MetEnd) (best : Option Found) → HasStartedAll s q i live threads → IsStepAll (byte_machine_in p s) i threads next ended
    → All (IsStartedOf p.states) next → IsUnderWayAll (course_of p s q) i live best → IsUnderWayAll (course_of p s q) (i + 1) next (best_after i ended best)
way_passed_all p s q i live threads next ended best began step nodes way = record {
  come = λ out rest. way.come out (come_on p s q i live threads next ended best began step out rest);
  nodes = nodes;
  began = BeganLater i (i + 1) next (omega arith) (began_on (byte_machine_in p s) i i step.steps (started_began s q i live threads began way.began)).0;
  past_end = ends_there p s i threads next ended step;
}

-- ---- the start of a search

-- no match begins at the next `k` offsets
skipped : (p : ByteProgram) (s : Search) (q : ℕ) (k i : ℕ) (out : Option PatternMatch) → ((j : ℕ) → i ≤ j → j < i + k → MayBegin s j → ⊥)
    → SearchesAll (byte_machine_in p s) (MayBegin s) (q, 0) (i + k) [] None out → SearchesAll (byte_machine_in p s) (MayBegin s) (q, 0) i [] None out
skipped p s q zero i out never rest = subst (λ j. SearchesAll (byte_machine_in p s) (MayBegin s) (q, 0) j [] None out) (omega arith) rest
skipped p s q (suc k) i out never rest =
    let more : i + suc k ≡ i + 1 + k = omega arith in
    stepped (never i (omega arith) (omega arith)) done (none_met (λ s' k' here. nothing here))
    (skipped p s q k (i + 1) out (λ j le lt. never j (omega (arith, le)) (omega (arith, lt))) (subst (λ j. SearchesAll (byte_machine_in p s) (MayBegin s) (q, 0) j [] None out) more rest))
  where
    nothing : {s' k' : ℕ} → Met s' k' [] → ⊥
    nothing here = elim here [ ]

pub way_begun_all : (p : ByteProgram) (s : Search) (q i : ℕ) (live : List Started) → i ≡ max s.slice_start s.start → live ≡ [] → IsUnderWayAll (course_of p s q) i live None
way_begun_all p s q i live first none =
    let k = i - s.start in
    let whole : i ≡ s.start + k = omega (arith, first) in
    record {
      come = λ out rest. skipped p s q k s.start out (λ j from below begins. omega (arith, first, from, below, begins.0.0.0))
          (subst (λ j. SearchesAll (byte_machine_in p s) (MayBegin s) (q, 0) j [] None out) whole (subst (λ xs. SearchesAll (byte_machine_in p s) (MayBegin s) (q, 0) i xs None out) none rest));
      nodes = subst (All (IsStartedOf p.states)) (sym none) (All-nil (IsStartedOf p.states));
      began = subst (All (BeganBy i)) (sym none) (All-nil (BeganBy i));
      past_end = λ past. none;
    }

-- ---- the end of a search

over_by : (p : ByteProgram) (s : Search) (q i : ℕ) (live : List Started) (best : Option Found) → live ≡ [] → ((j : ℕ) → i ≤ j → MayBegin s j → ⊥) → IsUnderWayAll (course_of p s q) i live best → IsOverAll (course_of p s q) best
over_by p s q i live best none never way =
    way.come (option_map pattern_match best) (subst (λ xs. SearchesAll (byte_machine_in p s) (MayBegin s) (q, 0) i xs (option_map pattern_match best) (option_map pattern_match best)) (sym none) (over never))

-- there is no thread, and none starts after the search's start
pub way_over_all : (p : ByteProgram) (s : Search) (q i : ℕ) (live : List Started) (best : Option Found) → IsInside s i → live ≡ [] → IsTrue (is_anchored s.anchoring) → IsUnderWayAll (course_of p s q) (i + 1) live best → IsOverAll (course_of p s q) best
way_over_all p s q i live best inside none tied way = over_by p s q (i + 1) live best none (λ j from begins. omega (arith, from, begins.0.1 tied, inside.2)) way

-- after the highest offset
pub way_ended_all : (p : ByteProgram) (s : Search) (q i : ℕ) (live : List Started) (best : Option Found) → highest s < i + 1 → IsUnderWayAll (course_of p s q) (i + 1) live best → IsOverAll (course_of p s q) best
way_ended_all p s q i live best past way =
    over_by p s q (i + 1) live best (way.past_end past) (λ j from begins. let inside = begins.0.0 in omega (arith, past, from, inside.1, inside.3, inside.4)) way

-- ---- a match

pub found_is : (f : Found) (k s i' i : ℕ) → i' ≡ i → f.pattern ≡ k → f.span ≡ record { start = s; end = i' } → Some f ≡ Some (record { pattern = k; span = record { start = s; end = i } })
found_is f k s i' i e g h = ap₂ (λ x y. Some (record { pattern = x; span = y })) g (h ∙ ap (λ j. record { start = s; end = j }) e)

pub no_match : (o : Option Found) → is_some o ≡ false → o ≡ None
no_match None e = refl
no_match (Some found) e = absurd (cc e)

pub no_end : (o : Option MetEnd) → is_some o ≡ false → o ≡ None
no_end None e = refl
no_end (Some end) e = absurd (cc e)

pub no_walks : (xs : List Started) → length xs ≡ 0 → xs ≡ []
no_walks [] e = refl
no_walks (x ∷ xs) e = absurd (omega (arith, e))
