-- The entries of a table.
use Rattle.std.proofs.Common.{inl, inr, ◌⊎◌, ◌≡◌, ℕ, zero, suc, ◌+◌, ◌*◌, ◌<◌, ◌≤◌, true, false, List, [], ◌∷◌, ◌++◌, length, replicate, set, All, Option, Some, slice_get, refl, sym, ap, subst, ◌∙◌, arith}
use Rattle.std.proofs.Math.Nat.{suc-mul}
use Rattle.std.proofs.lemmas.List.{length-append, length-replicate, length-set}
use Rattle.std.proofs.lemmas.List.Elements.{All-append, All-cons, All-nil}
use Rattle.rx_walks.specs.Steps.{Thins}
use Rattle.rx_dfa.specs.declared.states.Ahead.{Ahead}
use Rattle.rx_dfa.specs.declared.states.AutomatonState.{AutomatonState}
use Rattle.rx_dfa.specs.Behind.{quits}
use Rattle.rx_dfa.specs.Directions.{Directed, IsList}
use Rattle.rx_dfa.specs.declared.behind.Behind.{Behind}
use Rattle.rx_dfa.specs.declared.states.Starting.{Starting}
use Rattle.rx_dfa.specs.States.{place_of_step, started, start_at, starting_after, IsFirstState, IsStateOf, IsStep}
use Rattle.rx_steps.specs.Nodes.{widths_of}
use Rattle.rx_dfa.specs.Alphabets.{AlphabetView, column_count, ahead_in}
use Rattle.rx_dfa.specs.Caches.{CacheView, LeadsTo, IsEntry, unknown, quit, plain, ends, over, IsEntryTo, unknown_to, plain_to, ends_to, over_to, AreEntries, HasFirst, HoldsSteps, IsWithinCapacity, IsCacheOf, IsNewState, IsSameState, KeepNumbers, StandApart, counted, size_of, size_of_all, used_with}
use Rattle.rx_dfa.proofs.ClassLaws.{below_or_not, same_or_not}
use Rattle.rx_dfa.proofs.StateLaws.{apart_more, apart_none, get_front, used_more}

-- ---- lists

pub get_first : {A : Type 0} (xs ys : List A) (k : ℕ) (x : A) → slice_get xs k ≡ Some x → slice_get (xs ++ ys) k ≡ Some x
get_first [] ys k x e = absurd (cc e)
get_first (y ∷ xs) ys zero x e = e
get_first (y ∷ xs) ys (suc k) x e = get_first xs ys k x e

get_behind : {A : Type 0} (xs ys : List A) (k : ℕ) → length xs ≤ k → (j : ℕ) × (slice_get (xs ++ ys) k ≡ slice_get ys j)
get_behind [] ys k le = (k, refl)
get_behind (y ∷ xs) ys zero le = absurd (omega (arith, le))
get_behind (y ∷ xs) ys (suc k) le = get_behind xs ys k (omega (arith, le))

pub get_last : {A : Type 0} (xs : List A) (x : A) → slice_get (xs ++ x ∷ []) (length xs) ≡ Some x
get_last [] x = refl
get_last (y ∷ xs) x = get_last xs x

get_repeated : (n v k x : ℕ) → slice_get (replicate n v) k ≡ Some x → x ≡ v
get_repeated zero v k x e = absurd (cc e)
get_repeated (suc n) v zero x e = let same : Some v ≡ Some x = e in cc same
get_repeated (suc n) v (suc k) x e = get_repeated n v k x e

pub repeated_more : (n v : ℕ) → replicate n v ++ v ∷ [] ≡ replicate (n + 1) v
repeated_more n v =
    let more : suc n ≡ n + 1 = omega arith in
    one n ∙ ap (λ k. replicate k v) more
  where
    one : (n : ℕ) → replicate n v ++ v ∷ [] ≡ replicate (suc n) v
    one zero = refl
    one (suc n) = ap (λ xs. v ∷ xs) (one n)

get_set : (xs : List ℕ) (k v x : ℕ) → slice_get (set xs k v) k ≡ Some x → x ≡ v
get_set [] k v x e = absurd (cc e)
get_set (y ∷ xs) zero v x e = let same : Some v ≡ Some x = e in cc same
get_set (y ∷ xs) (suc k) v x e = get_set xs k v x e

pub get_other : (xs : List ℕ) (k j v : ℕ) → (j ≡ k → ⊥) → slice_get (set xs k v) j ≡ slice_get xs j
get_other [] k j v other = refl
get_other (y ∷ xs) zero zero v other = absurd (other refl)
get_other (y ∷ xs) zero (suc j) v other = refl
get_other (y ∷ xs) (suc k) zero v other = refl
get_other (y ∷ xs) (suc k) (suc j) v other = get_other xs k j v (λ e. other (ap suc e))

pub the_same : {A : Type 0} {o : Option A} {x y : A} → o ≡ Some x → o ≡ Some y → x ≡ y
the_same e f = some_is (sym e ∙ f)
  where
    some_is : {A : Type 0} {x y : A} → Some x ≡ Some y → x ≡ y
    some_is g = cc g

-- ---- rows

-- a row is inside the table
pub row_room : (k w len : ℕ) → k < len → k * w + w ≤ len * w
row_room k w zero lt = absurd (omega (arith, lt))
row_room zero w (suc len) lt = omega (arith, suc-mul len w)
row_room (suc k) w (suc len) lt = omega (arith, suc-mul k w, suc-mul len w, row_room k w len (omega (arith, lt)))

rows_rise : (k w len : ℕ) → len ≤ k → len * w ≤ k * w
rows_rise k w zero le = omega arith
rows_rise zero w (suc len) le = absurd (omega (arith, le))
rows_rise (suc k) w (suc len) le = omega (arith, suc-mul k w, suc-mul len w, rows_rise k w len (omega (arith, le)))

-- each index is in one row
same_cell : (w n c n' c' : ℕ) → c < w → c' < w → n * w + c ≡ n' * w + c' → (n ≡ n') × (c ≡ c')
same_cell w zero c zero c' lt lt' e = (refl, omega (arith, e))
same_cell w zero c (suc n') c' lt lt' e = absurd (omega (arith, lt, e, suc-mul n' w))
same_cell w (suc n) c zero c' lt lt' e = absurd (omega (arith, lt', e, suc-mul n w))
same_cell w (suc n) c (suc n') c' lt lt' e =
    let on = same_cell w n c n' c' lt lt' (omega (arith, e, suc-mul n w, suc-mul n' w)) in
    (ap suc on.0, on.1)

-- ---- states that keep their numbers

leads_still : (p : Directed) (alphabet : AlphabetView) (states states' : List AutomatonState) (x : AutomatonState) (ahead : Ahead) (number : ℕ) → KeepNumbers states states' → LeadsTo p alphabet states x ahead number → LeadsTo p alphabet states' x ahead number
leads_still p alphabet states states' x ahead number keep to = record { next = to.next; stands = keep number to.next to.stands; step = to.step; told = to.told }

entry_still : (p : Directed) (alphabet : AlphabetView) (w : ℕ) (states states' : List AutomatonState) (x : AutomatonState) (ahead : Ahead) (entry : ℕ) → KeepNumbers states states' → IsEntry p alphabet w states x ahead entry → IsEntry p alphabet w states' x ahead entry
unfolding leads_still
entry_still p alphabet w states states' x ahead entry keep (unknown e) = unknown e
entry_still p alphabet w states states' x ahead entry keep (quit e is) = quit e is
entry_still p alphabet w states states' x ahead entry keep (plain {number} to e below none) = plain (leads_still p alphabet states states' x ahead number keep to) e below none
entry_still p alphabet w states states' x ahead entry keep (ends {number} to e below some) = ends (leads_still p alphabet states states' x ahead number keep to) e below some
entry_still p alphabet w states states' x ahead entry keep (over {number} to e below) = over (leads_still p alphabet states states' x ahead number keep to) e below

-- ---- a state is added

keep_first : (states : List AutomatonState) (z : AutomatonState) → KeepNumbers states (states ++ z ∷ [])
keep_first states z number x e = get_first states (z ∷ []) number x e

entries_more : (p : Directed) (alphabet : AlphabetView) (w : ℕ) (states : List AutomatonState) (table : List ℕ) (z : AutomatonState) → length table ≡ length states * w → AreEntries p alphabet w states table
    → AreEntries p alphabet w (states ++ z ∷ []) (table ++ replicate w 4294967295)
entries_more p alphabet w states table z rows entries number column entry x stands in_row is = elim (below_or_not number (length states)) [
  | inl lt ↦
      let here : slice_get states number ≡ Some x = sym (get_front states (z ∷ []) number lt) ∙ stands in
      let inside : number * w + column < length table = omega (arith, row_room number w (length states) lt, in_row, rows) in
      entry_still p alphabet w states (states ++ z ∷ []) x (ahead_in alphabet column) entry (keep_first states z)
      (entries number column entry x here in_row (sym (get_front table (replicate w 4294967295) (number * w + column) inside) ∙ is))
  | inr ge ↦
      let past : length table ≤ number * w + column = omega (arith, rows_rise number w (length states) ge, rows) in
      let behind = get_behind table (replicate w 4294967295) (number * w + column) past in
      unknown (get_repeated w 4294967295 behind.0 entry (sym behind.1 ∙ is))
]

pub cache_more : (p : Directed) (alphabet : AlphabetView) (cache after : CacheView) (z : AutomatonState) → HoldsSteps p alphabet cache → IsStateOf p z → IsNewState cache.states z → after.table ≡ cache.table ++ replicate cache.width 4294967295 → after.states ≡ cache.states ++ z ∷ []
    → after.widths ≡ cache.widths → after.width ≡ cache.width → after.used ≡ used_with cache z → HoldsSteps p alphabet after
cache_more p alphabet cache after z made state new table states widths width used = record {
  widths = widths ∙ made.widths;
  width = width ∙ made.width;
  states = subst (All (IsStateOf p)) (sym states) (All-append (IsStateOf p) cache.states (z ∷ []) made.states (All-cons (IsStateOf p) z [] state (All-nil (IsStateOf p))));
  apart = subst StandApart (sym states) (apart_more cache.states z made.apart new);
  rows =
      let one : length (cache.states ++ z ∷ []) ≡ length cache.states + 1 = length-append cache.states (z ∷ []) in
      let more : length cache.states + 1 ≡ suc (length cache.states) = omega arith in
      ap length table ∙ length-append cache.table (replicate cache.width 4294967295)
      ∙ omega (arith, made.rows, length-replicate {A = ℕ} cache.width 4294967295, suc-mul (length cache.states) cache.width)
      ∙ sym (ap (λ n. n * after.width) (ap length states ∙ one ∙ more) ∙ ap (λ w. suc (length cache.states) * w) width);
  entries = subst (λ xs. AreEntries p alphabet after.width xs after.table) (sym states)
      (subst (λ t. AreEntries p alphabet after.width (cache.states ++ z ∷ []) t) (sym table)
      (subst (λ w. AreEntries p alphabet w (cache.states ++ z ∷ []) (cache.table ++ replicate cache.width 4294967295)) (sym width) (entries_more p alphabet cache.width cache.states cache.table z made.rows made.entries)));
  used = used ∙ all_used cache z made.used ∙ ap (λ w. size_of_all w (cache.states ++ z ∷ [])) (sym width) ∙ ap (λ xs. size_of_all after.width xs) (sym states);
}
  where
    all_used : (cache : CacheView) (z : AutomatonState) → cache.used ≡ size_of_all cache.width cache.states → used_with cache z ≡ size_of_all cache.width (cache.states ++ z ∷ [])
    all_used cache z e = ap (λ n. counted (n + counted (size_of cache.width z))) e ∙ used_more cache.width cache.states z

pub kept_more : (before after : List AutomatonState) (z : AutomatonState) → after ≡ before ++ z ∷ [] → KeepNumbers before after
kept_more before after z e = subst (λ xs. KeepNumbers before xs) (sym e) (keep_first before z)

pub stands_last : (before after : List AutomatonState) (z : AutomatonState) (number : ℕ) → after ≡ before ++ z ∷ [] → number ≡ length before → slice_get after number ≡ Some z
stands_last before after z number e f = ap (λ xs. slice_get xs number) e ∙ ap (λ k. slice_get (before ++ z ∷ []) k) f ∙ get_last before z

pub cache_none : (p : Directed) (alphabet : AlphabetView) (after : CacheView) → after.widths ≡ widths_of p.bytes → after.width ≡ column_count alphabet → after.table ≡ [] → after.states ≡ [] → after.used ≡ 0 → HoldsSteps p alphabet after
cache_none p alphabet after widths width table states used = record {
  widths = widths;
  width = width;
  states = subst (All (IsStateOf p)) (sym states) (All-nil (IsStateOf p));
  apart = subst StandApart (sym states) apart_none;
  rows =
      let no_entries : length after.table ≡ 0 = ap (λ (xs : List ℕ). length xs) table in
      let no_states : length after.states ≡ 0 = ap (λ (xs : List AutomatonState). length xs) states in
      let no_rows : 0 * after.width ≡ 0 = omega arith in
      no_entries ∙ sym (ap (λ n. n * after.width) no_states ∙ no_rows);
  entries = λ number column entry x stands in_row is. absurd (cc (sym (ap (λ xs. slice_get xs number) states) ∙ stands));
  used = used ∙ sym (ap (λ xs. size_of_all after.width xs) states);
}

-- no state, and no row
pub cache_empty : (p : Directed) (alphabet : AlphabetView) (cache after : CacheView) → HoldsSteps p alphabet cache → after.widths ≡ cache.widths → after.width ≡ cache.width → after.table ≡ [] → after.states ≡ [] → after.used ≡ 0 → HoldsSteps p alphabet after
cache_empty p alphabet cache after made widths width table states used = cache_none p alphabet after (widths ∙ made.widths) (width ∙ made.width) table states used

-- ---- the number of states

pub none_bounded : (capacity : ℕ) (cache : CacheView) → cache.states ≡ [] → IsWithinCapacity capacity cache
none_bounded capacity cache e = inl (omega (arith, ap (λ (xs : List AutomatonState). length xs) e))

-- a second state always fits
pub more_bounded : (capacity : ℕ) (before after : CacheView) (z : AutomatonState) → after.states ≡ before.states ++ z ∷ [] → after.used ≡ used_with before z → (length before.states < 2) ⊎ (used_with before z ≤ capacity) → IsWithinCapacity capacity after
more_bounded capacity before after z states used (inl few) = inl (omega (arith, few, ap (λ (xs : List AutomatonState). length xs) states, length-append before.states (z ∷ [])))
more_bounded capacity before after z states used (inr fits) = inr (omega (arith, fits, used))

-- a single state
pub one_bounded : (capacity : ℕ) (before after : CacheView) (z : AutomatonState) → before.states ≡ [] → after.states ≡ before.states ++ z ∷ [] → IsWithinCapacity capacity after
one_bounded capacity before after z none states = inl (omega (arith, ap (λ (xs : List AutomatonState). length xs) none, ap (λ (xs : List AutomatonState). length xs) states, length-append before.states (z ∷ [])))

pub same_bounded : (capacity : ℕ) (before after : CacheView) → after.states ≡ before.states → after.used ≡ before.used → IsWithinCapacity capacity before → IsWithinCapacity capacity after
same_bounded capacity before after states used (inl few) = inl (omega (arith, few, ap (λ (xs : List AutomatonState). length xs) states))
same_bounded capacity before after states used (inr fits) = inr (omega (arith, fits, used))

-- a search begins
pub cache_begins : (p : Directed) (alphabet : AlphabetView) (before after : CacheView) → after ≡ record before { cleared = 0 } → IsCacheOf p alphabet before → IsCacheOf p alphabet after
cache_begins p alphabet before after is made = subst (IsCacheOf p alphabet) (sym is) (record {
  steps = record {
    widths = made.steps.widths;
    width = made.steps.width;
    states = made.steps.states;
    apart = made.steps.apart;
    rows = made.steps.rows;
    entries = made.steps.entries;
    used = made.steps.used;
  };
  bounded = made.bounded;
})

-- a cache with no state
pub cache_begun : (p : Directed) (alphabet : AlphabetView) (after : CacheView) → after.widths ≡ widths_of p.bytes → after.width ≡ column_count alphabet → after.table ≡ [] → after.states ≡ [] → after.used ≡ 0 → IsCacheOf p alphabet after
cache_begun p alphabet after widths width table states used = record { steps = cache_none p alphabet after widths width table states used; bounded = none_bounded alphabet.capacity after states }

-- ---- an entry is set

entries_set : (p : Directed) (alphabet : AlphabetView) (w : ℕ) (states : List AutomatonState) (table : List ℕ) (number column entry : ℕ) (x : AutomatonState) → slice_get states number ≡ Some x → column < w → IsEntry p alphabet w states x (ahead_in alphabet column) entry
    → AreEntries p alphabet w states table → AreEntries p alphabet w states (set table (number * w + column) entry)
entries_set p alphabet w states table number column entry x stands in_row right entries number' column' entry' x' stands' in_row' is = elim (same_or_not (number' * w + column') (number * w + column)) [
  | inr other ↦ entries number' column' entry' x' stands' in_row' (sym (get_other table (number * w + column) (number' * w + column') entry other) ∙ is)
  | inl e ↦
      let cell = same_cell w number' column' number column in_row' in_row e in
      let same_state : x ≡ x' = the_same stands (ap (λ k. slice_get states k) (sym cell.0) ∙ stands') in
      let same_entry : entry' ≡ entry = get_set table (number * w + column) entry entry' (ap (λ k. slice_get (set table (number * w + column) entry) k) (sym e) ∙ is) in
      subst (λ k. IsEntry p alphabet w states x' (ahead_in alphabet column') k) (sym same_entry)
      (subst (λ k. IsEntry p alphabet w states x' (ahead_in alphabet k) entry) (sym cell.1) (subst (λ y. IsEntry p alphabet w states y (ahead_in alphabet column) entry) same_state right))
]

pub cache_set : (p : Directed) (alphabet : AlphabetView) (cache after : CacheView) (number column entry : ℕ) (x : AutomatonState) → HoldsSteps p alphabet cache → slice_get cache.states number ≡ Some x → column < cache.width
    → IsEntry p alphabet cache.width cache.states x (ahead_in alphabet column) entry → after.table ≡ set cache.table (number * cache.width + column) entry → after.states ≡ cache.states → after.widths ≡ cache.widths → after.width ≡ cache.width → after.used ≡ cache.used → HoldsSteps p alphabet after
cache_set p alphabet cache after number column entry x made stands in_row right table states widths width used = record {
  widths = widths ∙ made.widths;
  width = width ∙ made.width;
  states = subst (All (IsStateOf p)) (sym states) made.states;
  apart = subst StandApart (sym states) made.apart;
  rows = ap length table ∙ length-set cache.table (number * cache.width + column) entry ∙ made.rows ∙ ap (λ w. length cache.states * w) (sym width) ∙ ap (λ xs. length xs * after.width) (sym states);
  entries = subst (λ xs. AreEntries p alphabet after.width xs after.table) (sym states)
      (subst (λ t. AreEntries p alphabet after.width cache.states t) (sym table)
      (subst (λ w. AreEntries p alphabet w cache.states (set cache.table (number * cache.width + column) entry)) (sym width)
      (entries_set p alphabet cache.width cache.states cache.table number column entry x stands in_row right made.entries)));
  used = used ∙ made.used ∙ ap (λ w. size_of_all w cache.states) (sym width) ∙ ap (λ xs. size_of_all after.width xs) (sym states);
}

-- ---- steps

-- a step to a state is one to each state that equals it
pub step_same : (p : Directed) (alphabet : AlphabetView) (x y z : AutomatonState) (ahead : Ahead) → IsStep p alphabet.asked x ahead y → IsSameState y z → IsStep p alphabet.asked x ahead z
step_same p alphabet x y z ahead step same = record {
  next = step.next;
  slots = step.slots;
  list = subst (λ o. IsList p.is_back p.bytes (place_of_step p x ahead) (x.threads.threads ++ started (start_at x.starting ahead.may_begin)) step.next o step.slots) (sym same.ended) step.list;
  thins = subst (λ xs. Thins [] step.next xs) (sym same.threads) step.thins;
  starting = same.starting ∙ step.starting ∙ ap (λ o. starting_after x.starting o) (sym same.ended);
  behind = same.behind ∙ step.behind;
}

-- the entry that leads to the state that a step reached
pub entry_right : (p : Directed) (alphabet : AlphabetView) (w : ℕ) (states : List AutomatonState) (x : AutomatonState) (ahead : Ahead) (number entry : ℕ) (to : LeadsTo p alphabet states x ahead number) → IsEntryTo w to.next number entry → IsEntry p alphabet w states x ahead entry
entry_right p alphabet w states x ahead number entry to (unknown_to e) = unknown e
entry_right p alphabet w states x ahead number entry to (plain_to e below none) = plain to e below none
entry_right p alphabet w states x ahead number entry to (ends_to e below some) = ends to e below some
entry_right p alphabet w states x ahead number entry to (over_to e below) = over to e below

-- where an entry leads
pub entry_steps : (p : Directed) (alphabet : AlphabetView) (w : ℕ) (states : List AutomatonState) (x : AutomatonState) (ahead : Ahead) (entry at : ℕ) → (entry ≡ 4294967295 → ⊥) → (entry ≡ 4294967294 → ⊥) → ((number : ℕ) → entry ≡ number * w → entry < 2147483648 → at ≡ number)
    → ((number : ℕ) → entry ≡ 2147483648 + number * w → entry < 3221225472 → at ≡ number) → ((number : ℕ) → entry ≡ 3221225472 + number * w → at ≡ number) → IsEntry p alphabet w states x ahead entry → LeadsTo p alphabet states x ahead at
entry_steps p alphabet w states x ahead entry at known goes plain_at ends_at over_at (unknown e) = absurd (known e)
entry_steps p alphabet w states x ahead entry at known goes plain_at ends_at over_at (quit e is) = absurd (goes e)
entry_steps p alphabet w states x ahead entry at known goes plain_at ends_at over_at (plain {number} to e below none) = subst (λ k. LeadsTo p alphabet states x ahead k) (sym (plain_at number e below)) to
entry_steps p alphabet w states x ahead entry at known goes plain_at ends_at over_at (ends {number} to e below some) = subst (λ k. LeadsTo p alphabet states x ahead k) (sym (ends_at number e below)) to
entry_steps p alphabet w states x ahead entry at known goes plain_at ends_at over_at (over {number} to e below) = subst (λ k. LeadsTo p alphabet states x ahead k) (sym (over_at number e)) to

pub found_new : (states : List AutomatonState) (z : AutomatonState) (number : ℕ) → slice_get states number ≡ Some z → (x : AutomatonState) × (slice_get states number ≡ Some x) × IsSameState z x
found_new states z number e = (z, e, record { threads = refl; starting = refl; behind = refl; ended = refl })

-- the state that is found for a start state is one
pub found_first : (states : List AutomatonState) (starting : Starting) (behind : Behind) (x : AutomatonState) (number : ℕ) → IsFirstState starting behind x → (y : AutomatonState) × (slice_get states number ≡ Some y) × IsSameState x y → HasFirst states starting behind number
found_first states starting behind x number first (y, stands, same) = record {
  state = y;
  stands = stands;
  first = record { threads = same.threads ∙ first.threads; starting_is = same.starting ∙ first.starting_is; behind_is = same.behind ∙ first.behind_is; ended_is = same.ended ∙ first.ended_is };
}

pub keep_all : (states : List AutomatonState) → KeepNumbers states states
keep_all states number x e = e

-- a step to a computed state leads to the state that is found for it
pub leads_to_found : (p : Directed) (alphabet : AlphabetView) (states : List AutomatonState) (x made : AutomatonState) (ahead : Ahead) (number : ℕ) → IsStep p alphabet.asked x ahead made → quits alphabet.asked ahead.seen ≡ false
    → (y : AutomatonState) × (slice_get states number ≡ Some y) × IsSameState made y → LeadsTo p alphabet states x ahead number
leads_to_found p alphabet states x made ahead number step told (y, stands, same) = record { next = y; stands = stands; step = step_same p alphabet x made y ahead step same; told = told }

pub there_is : {A : Type 0} (xs : List A) (k : ℕ) → k < length xs → (x : A) × (slice_get xs k ≡ Some x)
there_is [] k lt = absurd (omega (arith, lt))
there_is (x ∷ xs) zero lt = (x, refl)
there_is (x ∷ xs) (suc k) lt = there_is xs k (omega (arith, lt))

-- ---- a step is entered in the table

pub quit_set : (p : Directed) (alphabet : AlphabetView) (cache after : CacheView) (number column : ℕ) → HoldsSteps p alphabet cache → number < length cache.states → column < cache.width → quits alphabet.asked (ahead_in alphabet column).seen ≡ true
    → after.table ≡ set cache.table (number * cache.width + column) 4294967294 → after.states ≡ cache.states → after.widths ≡ cache.widths → after.width ≡ cache.width → after.used ≡ cache.used → HoldsSteps p alphabet after
quit_set p alphabet cache after number column made lt in_row told table states widths width used =
    let here = there_is cache.states number lt in
    cache_set p alphabet cache after number column 4294967294 here.0 made here.1 in_row (quit refl told) table states widths width used

pub step_set : (p : Directed) (alphabet : AlphabetView) (cache after : CacheView) (number column next entry : ℕ) (x : AutomatonState) → HoldsSteps p alphabet cache → slice_get cache.states number ≡ Some x → column < cache.width
    → LeadsTo p alphabet cache.states x (ahead_in alphabet column) next → ((y : AutomatonState) → slice_get cache.states next ≡ Some y → IsEntryTo cache.width y next entry)
    → after.table ≡ set cache.table (number * cache.width + column) entry → after.states ≡ cache.states → after.widths ≡ cache.widths → after.width ≡ cache.width → after.used ≡ cache.used → HoldsSteps p alphabet after
step_set p alphabet cache after number column next entry x made stands in_row to is_to table states widths width used =
    cache_set p alphabet cache after number column entry x made stands in_row (entry_right p alphabet cache.width cache.states x (ahead_in alphabet column) next entry to (is_to to.next to.stands)) table states widths width used
