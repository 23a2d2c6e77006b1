-- The search loop for all matches finds the greatest end.
use Rattle.std.proofs.Common.{◌≡◌, ℕ, ◌+◌, ◌≤◌, ◌⊎◌, List, [], ◌∷◌, ◌++◌, Option, Some, None, refl, sym, subst, arith, inl, inr}
use Rattle.std.proofs.lemmas.Bool.{cases_order}
use Rattle.rx_walks.specs.Machines.{Machine, IsForward}
use Rattle.rx_walks.specs.Paths.{Path, at_end, by_edge, by_read}
use Rattle.rx_walks.specs.Finds.{PatternMatch, IsAtLeast}
use Rattle.rx_walks.specs.StepsAll.{FindsAll, nowhere, found, StepsAll, done, passed, met, opened, read, StartsRise, no_more, one_more, Met, Latest, none_met, some_met, SearchesAll, over, started, stepped}
use Rattle.rx_walks.proofs.PathLaws.{path_has_walk, walk_reaches}
use Rattle.rx_walks.proofs.AllLaws.{From, by_first, by_other, Covered, goes_on, is_met, Has, has_first, has_other, all_covered, next_has, met_has, rise_open}

path_forward : {Q N : Type 0} {m : Machine Q N} {q : Q} {i p e : ℕ} → IsForward m → Path m q i p e → i ≤ e
path_forward on (at_end is) = omega arith
path_forward on (by_edge rs r k is at path) = path_forward on path
path_forward on (by_read {q = q} {i = i} r j is path) = omega (arith, on i j q r is, path_forward on path)

has_forward : {Q N : Type 0} {m : Machine Q N} {i p e s : ℕ} {threads : List (ℕ × Q)} → IsForward m → Has m i p e s threads → i ≤ e
has_forward on (has_first same path) = path_forward on path
has_forward on (has_other has) = has_forward on has

from_has : {Q N : Type 0} {m : Machine Q N} {i p e s : ℕ} {threads : List (ℕ × Q)} → ((a b : Q) → (a ≡ b) ⊎ (a ≡ b → ⊥)) → N → Has m i p e s threads → From m [] i p e s threads
from_has {m = m} {i = i} {p = p} {e = e} same n (has_first {s' = s'} {q = q} {others = others} is path) = subst (λ x. From m [] i p e x ((s', q) ∷ others)) is (by_first n (path_has_walk same path n))
from_has same n (has_other has) = by_other (from_has same n has)

has_from : {Q N : Type 0} {m : Machine Q N} {i p e s : ℕ} {threads : List (ℕ × Q)} → From m [] i p e s threads → Has m i p e s threads
has_from (by_first n reached) = has_first refl (walk_reaches reached)
has_from (by_other from) = has_other (has_from from)

has_left : {Q N : Type 0} {m : Machine Q N} {i p e s : ℕ} {xs : List (ℕ × Q)} (ys : List (ℕ × Q)) → Has m i p e s xs → Has m i p e s (xs ++ ys)
has_left ys (has_first is path) = has_first is path
has_left ys (has_other has) = has_other (has_left ys has)

has_right : {Q N : Type 0} {m : Machine Q N} {i p e s : ℕ} {ys : List (ℕ × Q)} (xs : List (ℕ × Q)) → Has m i p e s ys → Has m i p e s (xs ++ ys)
has_right [] has = has
has_right (x ∷ xs) has = has_other (has_right xs has)

has_split : {Q N : Type 0} {m : Machine Q N} {i p e s : ℕ} (xs ys : List (ℕ × Q)) → Has m i p e s (xs ++ ys) → Has m i p e s xs ⊎ Has m i p e s ys
has_split [] ys has = inr has
has_split (x ∷ xs) ys (has_first is path) = inl (has_first is path)
has_split (x ∷ xs) ys (has_other has) = elim (has_split xs ys has) [ inl h ↦ inl (has_other h) | inr h ↦ inr h ]

rise_lower : {Q : Type 0} {high low s : ℕ} {xs : List (ℕ × Q)} → low ≤ s → StartsRise high s xs → StartsRise high low xs
rise_lower below no_more = no_more
rise_lower below (one_more within to rise) = one_more (omega (arith, below, within)) to rise

rise_higher : {Q : Type 0} {i low : ℕ} {xs : List (ℕ × Q)} → StartsRise i low xs → StartsRise (i + 1) low xs
rise_higher no_more = no_more
rise_higher (one_more within to rise) = one_more within (omega (arith, to)) (rise_higher rise)

rise_more : {Q : Type 0} {i low : ℕ} {xs : List (ℕ × Q)} (q : Q) → low ≤ i → StartsRise i low xs → StartsRise i low (xs ++ (i, q) ∷ [])
rise_more q below no_more = one_more below (omega arith) no_more
rise_more q below (one_more within to rise) = one_more within to (rise_more q to rise)

next_rises : {Q N : Type 0} {m : Machine Q N} {i : ℕ} {seen : List Q} {high low : ℕ} {threads next : List (ℕ × Q)} {ms : List (ℕ × ℕ)} → StepsAll m i seen threads next ms → StartsRise high low threads → StartsRise high low next
next_rises done rise = rise
next_rises (passed c steps) (one_more within to rise) = rise_lower within (next_rises steps rise)
next_rises (met new is steps) (one_more within to rise) = rise_lower within (next_rises steps rise)
next_rises (opened {others = others} rs new is steps) (one_more within to rise) = next_rises steps (rise_open rs others within to rise)
next_rises (read r new is steps) (one_more within to rise) = one_more within to (next_rises steps rise)

-- what the current threads and the later starts may still give
pub data May {Q N : Type 0} (m : Machine Q N) (begins : ℕ → Type 0) (q : Q) (i : ℕ) (live : List (ℕ × Q)) (a : PatternMatch) : Type 0 where
  by_live : Has m i a.pattern a.end a.start live → May m begins q i live a
  by_start : i ≤ a.start → begins a.start → Path m q a.start a.pattern a.end → May m begins q i live a

pub data AnswersAll {Q N : Type 0} (m : Machine Q N) (begins : ℕ → Type 0) (q : Q) (i : ℕ) (live : List (ℕ × Q)) (best : Option PatternMatch) : Option PatternMatch → Type 0 where
  stays : {out : Option PatternMatch} → out ≡ best → ((a : PatternMatch) → May m begins q i live a → ⊥) → AnswersAll m begins q i live best out
  changes : {a : PatternMatch} → May m begins q i live a → ((b : PatternMatch) → May m begins q i live b → IsAtLeast a b) → AnswersAll m begins q i live best (Some a)

may_forward : {Q N : Type 0} {m : Machine Q N} {begins : ℕ → Type 0} {q : Q} {i : ℕ} {live : List (ℕ × Q)} {a : PatternMatch} → IsForward m → May m begins q i live a → i ≤ a.end
may_forward on (by_live has) = has_forward on has
may_forward on (by_start from b path) = omega (arith, from, path_forward on path)

-- the threads of an offset: the current ones and the one that starts there
pub record Stand {Q N : Type 0} (m : Machine Q N) (begins : ℕ → Type 0) (q : Q) (i : ℕ) (live threads : List (ℕ × Q)) : Type 0 where
  pub to : (a : PatternMatch) → May m begins q i live a → Has m i a.pattern a.end a.start threads ⊎ ((i + 1 ≤ a.start) × begins a.start × Path m q a.start a.pattern a.end)
  pub back : (a : PatternMatch) → Has m i a.pattern a.end a.start threads → May m begins q i live a
  pub rises : StartsRise i 0 threads

abbrev Comes : {Q N : Type 0} → Machine Q N → (ℕ → Type 0) → Q → ℕ → List (ℕ × Q) → List (ℕ × ℕ) → PatternMatch → Type 0
Comes m begins q i next ms b = ((s : ℕ) × (s ≤ b.start) × May m begins q (i + 1) next (record { start = s; pattern = b.pattern; end = b.end })) ⊎ ((s : ℕ) × (s ≤ b.start) × (i ≡ b.end) × Met s b.pattern ms)

comes : {Q N : Type 0} {m : Machine Q N} {begins : ℕ → Type 0} {q : Q} {i : ℕ} {live threads next : List (ℕ × Q)} {ms : List (ℕ × ℕ)} → ((a b : Q) → (a ≡ b) ⊎ (a ≡ b → ⊥)) → N → Stand m begins q i live threads
    → StepsAll m i [] threads next ms → (b : PatternMatch) → May m begins q i live b → Comes m begins q i next ms b
comes {Q = Q} {m = m} {begins = begins} {q = q} {i = i} {threads = threads} {next = next} {ms = ms} same n stand steps b may = elim (stand.to b may) [
  | inl has ↦ covered (all_covered same steps stand.rises b.pattern b.end b.start (from_has same n has))
  | inr start ↦ inl (b.start, omega arith, by_start start.0 start.1 start.2)
]
  where
    covered : Covered m i b.pattern b.end b.start next ms → Comes m begins q i next ms b
    covered (goes_on s within from) = inl (s, within, by_live (has_from from))
    covered (is_met s within e has) = inr (s, within, e, has)

returned : {Q N : Type 0} {m : Machine Q N} {begins : ℕ → Type 0} {q : Q} {i : ℕ} {live threads next : List (ℕ × Q)} {ms : List (ℕ × ℕ)} → Stand m begins q i live threads → StepsAll m i [] threads next ms
    → (a : PatternMatch) → May m begins q (i + 1) next a → May m begins q i live a
returned stand steps a (by_live has) = stand.back a (next_has steps a.pattern a.end a.start has)
returned stand steps a (by_start from b path) = by_start (omega (arith, from)) b path

all_step : {Q N : Type 0} {m : Machine Q N} {begins : ℕ → Type 0} {q : Q} {i : ℕ} {live threads next : List (ℕ × Q)} {ms : List (ℕ × ℕ)} {best best' out : Option PatternMatch} → IsForward m → ((a b : Q) → (a ≡ b) ⊎ (a ≡ b → ⊥)) → N
    → Stand m begins q i live threads → StepsAll m i [] threads next ms → Latest i best ms best' → AnswersAll m begins q (i + 1) next best' out → AnswersAll m begins q i live best out
all_step on same n stand steps (none_met none) (stays e never) = stays e (λ b may. elim (comes same n stand steps b may) [
  | inl later ↦ never _ later.2
  | inr now ↦ none _ _ now.3
])
all_step {m = m} {begins = begins} {q = q} {i = i} {live = live} {best = best} on same n stand steps (some_met {s = s} {p = p} has first) (stays e never) =
    subst (λ x. AnswersAll m begins q i live best x) (sym e) (changes (stand.back _ (met_has steps p s has)) (λ b may. elim (comes same n stand steps b may) [
      | inl later ↦ absurd (never _ later.2)
      | inr now ↦ least b now.0 now.1 now.2 (first now.0 b.pattern now.3)
    ]))
  where
    least : (b : PatternMatch) (s' : ℕ) → s' ≤ b.start → i ≡ b.end → (s ≤ s') × (s' ≡ s → p ≤ b.pattern) → IsAtLeast (record { start = s; pattern = p; end = i }) b
    least b s' within e' one = record {
      by_end = omega (arith, e');
      by_start = λ x. omega (arith, one.0, within);
      by_pattern = λ x y. one.1 (omega (arith, one.0, within, y));
    }
all_step {i = i} on same n stand steps latest (changes {a = a} may best) = changes (returned stand steps a may) (λ b may'. elim (comes same n stand steps b may') [
  | inl later ↦ earlier b later.0 later.1 (best _ later.2)
  | inr now ↦ past b now.2 (may_forward on may)
])
  where
    earlier : (b : PatternMatch) (s : ℕ) → s ≤ b.start → IsAtLeast a (record { start = s; pattern = b.pattern; end = b.end }) → IsAtLeast a b
    earlier b s within one = record {
      by_end = one.by_end;
      by_start = λ x. omega (arith, one.by_start x, within);
      by_pattern = λ x y. one.by_pattern x (omega (arith, one.by_start x, within, y));
    }

    past : (b : PatternMatch) → i ≡ b.end → i + 1 ≤ a.end → IsAtLeast a b
    past b e after = record {
      by_end = omega (arith, e, after);
      by_start = λ x. absurd (omega (arith, e, after, x));
      by_pattern = λ x y. absurd (omega (arith, e, after, x));
    }

stand_started : {Q N : Type 0} {m : Machine Q N} {begins : ℕ → Type 0} {q : Q} {i : ℕ} {live : List (ℕ × Q)} → begins i → StartsRise i 0 live → Stand m begins q i live (live ++ (i, q) ∷ [])
stand_started {m = m} {begins = begins} {q = q} {i = i} {live = live} b rise = record { to = to; back = back; rises = rise_more q (omega arith) rise }
  where
    to : (a : PatternMatch) → May m begins q i live a → Has m i a.pattern a.end a.start (live ++ (i, q) ∷ []) ⊎ ((i + 1 ≤ a.start) × begins a.start × Path m q a.start a.pattern a.end)
    to a (by_live has) = inl (has_left ((i, q) ∷ []) has)
    to a (by_start from b' path) = elim (cases_order i a.start) [
      | inl e ↦ inl (has_right live (has_first e (subst (λ x. Path m q x a.pattern a.end) (sym e) path)))
      | inr (inl below) ↦ inr (omega (arith, below), b', path)
      | inr (inr above) ↦ absurd (omega (arith, above, from))
    ]

    alone : (a : PatternMatch) → Has m i a.pattern a.end a.start ((i, q) ∷ []) → May m begins q i live a
    alone a (has_first e path) = by_start (omega (arith, e)) (subst begins e b) (subst (λ x. Path m q x a.pattern a.end) e path)
    alone a (has_other has) = elim has [ ]

    back : (a : PatternMatch) → Has m i a.pattern a.end a.start (live ++ (i, q) ∷ []) → May m begins q i live a
    back a has = elim (has_split live ((i, q) ∷ []) has) [ inl h ↦ by_live h | inr h ↦ alone a h ]

stand_stepped : {Q N : Type 0} {m : Machine Q N} {begins : ℕ → Type 0} {q : Q} {i : ℕ} {live : List (ℕ × Q)} → (begins i → ⊥) → StartsRise i 0 live → Stand m begins q i live live
stand_stepped {m = m} {begins = begins} {q = q} {i = i} {live = live} held rise = record { to = to; back = λ a has. by_live has; rises = rise }
  where
    to : (a : PatternMatch) → May m begins q i live a → Has m i a.pattern a.end a.start live ⊎ ((i + 1 ≤ a.start) × begins a.start × Path m q a.start a.pattern a.end)
    to a (by_live has) = inl has
    to a (by_start from b path) = elim (cases_order i a.start) [
      | inl e ↦ absurd (held (subst begins (sym e) b))
      | inr (inl below) ↦ inr (omega (arith, below), b, path)
      | inr (inr above) ↦ absurd (omega (arith, above, from))
    ]

pub all_answers : {Q N : Type 0} {m : Machine Q N} {begins : ℕ → Type 0} {q : Q} {i : ℕ} {live : List (ℕ × Q)} {best out : Option PatternMatch} → IsForward m → ((a b : Q) → (a ≡ b) ⊎ (a ≡ b → ⊥)) → N
    → SearchesAll m begins q i live best out → StartsRise i 0 live → AnswersAll m begins q i live best out
all_answers {m = m} {begins = begins} {q = q} on same n (over {i = i} empty) rise = stays refl none
  where
    none : (a : PatternMatch) → May m begins q i [] a → ⊥
    none a (by_live has) = elim has [ ]
    none a (by_start from b path) = empty a.start from b
all_answers on same n (started b steps latest rest) rise =
    let stand = stand_started b rise in all_step on same n stand steps latest (all_answers on same n rest (rise_higher (next_rises steps stand.rises)))
all_answers on same n (stepped held steps latest rest) rise = all_step on same n (stand_stepped held rise) steps latest (all_answers on same n rest (rise_higher (next_rises steps rise)))

-- without threads at first, the search finds the greatest end
pub search_finds_all : {Q N : Type 0} {m : Machine Q N} {begins : ℕ → Type 0} {q : Q} {i : ℕ} {out : Option PatternMatch} → IsForward m → ((a b : Q) → (a ≡ b) ⊎ (a ≡ b → ⊥)) → N → SearchesAll m begins q i [] None out
    → FindsAll m begins q i out
search_finds_all {m = m} {begins = begins} {q = q} {i = i} on same n searches = finds (all_answers on same n searches no_more)
  where
    begun : (a : PatternMatch) → May m begins q i [] a → (i ≤ a.start) × begins a.start × Path m q a.start a.pattern a.end
    begun a (by_live has) = elim has [ ]
    begun a (by_start from b path) = (from, b, path)

    finds : {out : Option PatternMatch} → AnswersAll m begins q i [] None out → FindsAll m begins q i out
    finds (stays e never) = subst (λ x. FindsAll m begins q i x) (sym e) (nowhere (λ a from b path. never a (by_start from b path)))
    finds (changes {a = a} may best) = let one = begun a may in found one.0 one.1 one.2 (λ b from b' path. best b (by_start from b' path))
