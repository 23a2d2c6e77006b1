-- Closed automata.
use Rattle.std.proofs.Common.{inl, inr, ◌≡◌, ℕ, zero, suc, ◌+◌, ◌-◌, ◌*◌, ◌<◌, ◌≤◌, max, Bool, false, List, [], ◌∷◌, ◌++◌, length, set, Option, Some, None, slice_get, refl, sym, ap, ap₂, subst, ◌∙◌, arith}
use Rattle.std.specs.Prelude.{◌==◌}
use Rattle.std.proofs.lemmas.Option.{slice_get_within}
use Rattle.std.proofs.Math.Nat.{le-mul_of_pos_right, mul-le-mul_right}
use Rattle.rx_util.specs.Search.{HalfFound}
use Rattle.rx_walks.specs.Finds.{unanchored, anchored, anchored_pattern, Search}
use Rattle.rx_dfa.specs.declared.automaton.Automaton.{Automaton}
use Rattle.rx_dfa.specs.declared.states.AutomatonState.{AutomatonState}
use Rattle.rx_dfa.specs.declared.states.Starting.{Starting}
use Rattle.rx_dfa.specs.declared.states.Starting.TheVariants.{Never, Once, Always}
use Rattle.rx_dfa.specs.declared.behind.Behind.{Behind}
use Rattle.rx_dfa.specs.Behind.{behind_of}
use Rattle.rx_dfa.specs.Directions.{Directed}
use Rattle.rx_dfa.specs.Automata.{directed}
use Rattle.rx_dfa.specs.Classes.{byte_of, class_of}
use Rattle.rx_dfa.specs.States.{ahead_of_end}
use Rattle.rx_dfa.specs.Alphabets.{AlphabetView, TellsApart, ahead_at, ahead_in, column_count}
use Rattle.rx_dfa.specs.Caches.{CacheView, HoldsSteps, IsEntry, IsEntryTo, KeepNumbers, LeadsTo, ends_to, over_to, plain_to, unknown_to}
use Rattle.rx_dfa.specs.Searching.{StartsSo}
use Rattle.rx_dfa.specs.Tables.{IsBeginning}
use Rattle.rx_dfa.specs.DenseTables.{AreKnown, Grows, HasAllStarts, HasOneFirst, HasStarts, HasStartsFrom, HaveRows, IsClosedOf, IsKnownAt, WalksStartFrom, in_reach, no_more}
use Rattle.rx_dfa.proofs.ClassLaws.{below_or_not, same_or_not}
use Rattle.rx_dfa.proofs.PassLaws.{byte_in_class}
use Rattle.rx_dfa.proofs.StepLaws.{behind_alike}
use Rattle.rx_dfa.proofs.TableLaws.{cache_set, entry_steps, get_first, get_other, row_room, there_is, the_same}

-- ---- known entries stay known

pub grows_none : (cache : CacheView) → Grows cache cache
grows_none cache = record { numbers = λ number x e. e; entries = λ place known. known }

pub grows_both : (a b c : CacheView) → Grows a b → Grows b c → Grows a c
grows_both a b c first second = record {
  numbers = λ number x e. second.numbers number x (first.numbers number x e);
  entries = λ place known. second.entries place (first.entries place known);
}

-- a state is added, with a row of unknown entries
pub grows_added : (before after : CacheView) (rest : List ℕ) → KeepNumbers before.states after.states → after.table ≡ before.table ++ rest → Grows before after
grows_added before after rest numbers table = record {
  numbers = numbers;
  entries = λ place known. record {
    entry = known.entry;
    stands = ap (λ t. slice_get t place) table ∙ get_first before.table rest place known.entry known.stands;
    known = known.known;
  };
}

-- the states and the table are unchanged
pub grows_same : (before after : CacheView) → after.states ≡ before.states → after.table ≡ before.table → Grows before after
grows_same before after states table = record {
  numbers = λ number x e. ap (λ xs. slice_get xs number) states ∙ e;
  entries = λ place known. record { entry = known.entry; stands = ap (λ t. slice_get t place) table ∙ known.stands; known = known.known };
}

get_at_set : (xs : List ℕ) (k v : ℕ) → k < length xs → slice_get (set xs k v) k ≡ Some v
get_at_set [] k v lt = absurd (omega (arith, lt))
get_at_set (x ∷ xs) zero v lt = refl
get_at_set (x ∷ xs) (suc k) v lt = get_at_set xs k v (omega (arith, lt))

pub known_cell : (table : List ℕ) (cell entry : ℕ) → cell < length table → (entry ≡ 4294967295 → ⊥) → IsKnownAt (set table cell entry) cell
known_cell table cell entry lt known = record { entry = entry; stands = get_at_set table cell entry lt; known = known }

known_set : (table : List ℕ) (cell entry place : ℕ) → (entry ≡ 4294967295 → ⊥) → IsKnownAt table place → IsKnownAt (set table cell entry) place
known_set table cell entry place known was = elim (same_or_not place cell) [
  | inl e ↦ subst (λ k. IsKnownAt (set table cell entry) k) (sym e) (known_cell table cell entry (subst (λ k. k < length table) e (slice_get_within table place was.entry was.stands)) known)
  | inr other ↦ record { entry = was.entry; stands = get_other table cell place entry other ∙ was.stands; known = was.known }
]

-- an entry is set to a known one
pub grows_entered : (before after : CacheView) (cell entry : ℕ) → (entry ≡ 4294967295 → ⊥) → after.states ≡ before.states → after.table ≡ set before.table cell entry → Grows before after
grows_entered before after cell entry known states table = record {
  numbers = λ number x e. ap (λ xs. slice_get xs number) states ∙ e;
  entries = λ place was. subst (λ t. IsKnownAt t place) (sym table) (known_set before.table cell entry place known was);
}

same_width : (p : Directed) (alphabet : AlphabetView) (before after : CacheView) → HoldsSteps p alphabet before → HoldsSteps p alphabet after → before.width ≡ after.width
same_width p alphabet before after was is = was.width ∙ sym is.width

pub known_grown : (p : Directed) (alphabet : AlphabetView) (before after : CacheView) (n : ℕ) → HoldsSteps p alphabet before → HoldsSteps p alphabet after → Grows before after → AreKnown before n → AreKnown after n
known_grown p alphabet before after n was is grows known number column lt in_row =
    let width = same_width p alphabet before after was is in
    subst (λ w. IsKnownAt after.table (number * w + column)) width (grows.entries (number * before.width + column) (known number column lt (subst (λ w. column < w) (sym width) in_row)))

-- with a full row, one more row is known
pub known_more : (cache : CacheView) (n w : ℕ) → w ≡ cache.width → AreKnown cache n → ((column : ℕ) → column < w → IsKnownAt cache.table (n * cache.width + column)) → AreKnown cache (n + 1)
known_more cache n w same known row number column lt in_row = elim (same_or_not number n) [
  | inl e ↦ subst (λ k. IsKnownAt cache.table (k * cache.width + column)) (sym e) (row column (subst (λ k. column < k) (sym same) in_row))
  | inr other ↦ known number column (below other) in_row
]
  where
    below : (number ≡ n → ⊥) → number < n
    below other = omega (arith, lt, other)

-- ---- start states

first_still : (states states' : List AutomatonState) (starting : Starting) (behind : Behind) → KeepNumbers states states' → HasOneFirst states starting behind → HasOneFirst states' starting behind
first_still states states' starting behind keep (number, has) = (number, record { state = has.state; stands = keep number has.state has.stands; first = has.first })

pub starts_still : (is_back : Bool) (states states' : List AutomatonState) (q : ℕ) (behind : Behind) → KeepNumbers states states' → HasStarts is_back states q behind → HasStarts is_back states' q behind
starts_still is_back states states' q behind keep has starting from = first_still states states' starting behind keep (has starting from)

-- each way to start in a forward search
pub starts_three : (a b c : List AutomatonState) (q : ℕ) (behind : Behind) → KeepNumbers a b → KeepNumbers b c → HasOneFirst a Never behind → HasOneFirst b (Once q) behind → HasOneFirst c (Always q) behind → HasStarts false c q behind
starts_three a b c q behind keep keep' never once always Never from = first_still b c Never behind keep' (first_still a b Never behind keep never)
starts_three a b c q behind keep keep' never once always (Once r) from = subst (λ k. HasOneFirst c (Once k) behind) (sym from) (first_still b c (Once q) behind keep' once)
starts_three a b c q behind keep keep' never once always (Always r) from = subst (λ k. HasOneFirst c (Always k) behind) (sym from.1) always

pub starts_from_still : (p : Directed) (alphabet : AlphabetView) (states states' : List AutomatonState) (q : ℕ) → KeepNumbers states states' → HasStartsFrom p alphabet states q → HasStartsFrom p alphabet states' q
starts_from_still p alphabet states states' q keep has byte may = starts_still p.is_back states states' q (behind_of alphabet.asked p.bytes.line_terminator byte) keep (has byte may)

pub all_starts_still : (p : Directed) (alphabet : AlphabetView) (states states' : List AutomatonState) → KeepNumbers states states' → HasAllStarts p alphabet states → HasAllStarts p alphabet states'
all_starts_still p alphabet states states' keep has anchoring q starts = starts_from_still p alphabet states states' q keep (has anchoring q starts)

none_behind : (xs : List ℕ) → slice_get xs (length xs) ≡ None
none_behind [] = refl
none_behind (x ∷ xs) = none_behind xs

-- the columns cover all bytes, and none
pub starts_in_columns : (p : Directed) (alphabet : AlphabetView) (states : List AutomatonState) (q : ℕ) → TellsApart p.bytes alphabet → ((k : ℕ) → k < column_count alphabet → HasStarts p.is_back states q (behind_of alphabet.asked p.bytes.line_terminator (slice_get alphabet.classes.bytes k))) → HasStartsFrom p alphabet states q
starts_in_columns p alphabet states q made has None may = subst (λ o. HasStarts p.is_back states q (behind_of alphabet.asked p.bytes.line_terminator o)) (none_behind alphabet.classes.bytes) (has (length alphabet.classes.bytes) (omega arith))
starts_in_columns p alphabet states q made has (Some b) may =
    let class = made.classes b may in
    let here = has (class_of alphabet.classes b) (omega (arith, class.has_class)) in
    subst (λ z. HasStarts p.is_back states q z) (ap (λ o. behind_of alphabet.asked p.bytes.line_terminator o) (byte_in_class p.bytes alphabet b made may) ∙ behind_alike p.bytes alphabet.asked (byte_of alphabet.classes b) b class.alike) here

-- the start of all patterns and that of each are all states in which walks of a search start
pub starts_by_patterns : (p : Directed) (alphabet : AlphabetView) (states : List AutomatonState) → HasStartsFrom p alphabet states p.bytes.start → ((k q : ℕ) → slice_get p.bytes.patterns k ≡ Some q → HasStartsFrom p alphabet states q) → HasAllStarts p alphabet states
starts_by_patterns p alphabet states all each unanchored q starts = let same : Some p.bytes.start ≡ Some q = starts in subst (λ r. HasStartsFrom p alphabet states r) (cc same) all
starts_by_patterns p alphabet states all each anchored q starts = let same : Some p.bytes.start ≡ Some q = starts in subst (λ r. HasStartsFrom p alphabet states r) (cc same) all
starts_by_patterns p alphabet states all each (anchored_pattern k) q starts = each k q starts

-- the start state is there
pub begins_there : (a : Automaton) (table : CacheView) (starting : Starting) (behind : Behind) → IsClosedOf (directed a) a.alphabet.now table → IsBeginning a starting behind → HasOneFirst table.states starting behind
begins_there a table starting behind closed begins =
    subst (λ z. HasOneFirst table.states starting z) (sym begins.behind_is) (closed.starts begins.anchoring begins.start begins.starts begins.byte begins.may_be starting begins.starting_is)

-- a forward search begins in one of them
pub starts_from : (is_back : Bool) (s : Search) (q i : ℕ) (starting : Starting) (met : Option HalfFound) → is_back ≡ false → StartsSo s q i starting met → WalksStartFrom is_back q starting
starts_from is_back s q i Never met way so = way
starts_from is_back s q i (Once r) met way so = so.0
starts_from is_back s q i (Always r) met way so = (way, so.0)

-- ---- the columns of the end

none_past : (xs : List ℕ) (k : ℕ) → length xs ≤ k → slice_get xs k ≡ None
none_past [] k le = refl
none_past (x ∷ xs) zero le = absurd (omega (arith, le))
none_past (x ∷ xs) (suc k) le = none_past xs k (omega (arith, le))

-- after the classes, a column is one of the end
pub end_in : (alphabet : AlphabetView) (k : ℕ) (may_begin : Bool) → length alphabet.classes.bytes ≤ k → (k == length alphabet.classes.bytes) ≡ may_begin → ahead_in alphabet k ≡ ahead_of_end may_begin
end_in alphabet k may_begin le e = ap₂ (λ m o. ahead_at alphabet.utf8_empty m o) e (none_past alphabet.classes.bytes k le)

-- ---- known steps

-- an entry other than `UNKNOWN` and `QUIT` leads to a state
pub known_leads : (p : Directed) (alphabet : AlphabetView) (cache : CacheView) (number column entry at : ℕ) (x : AutomatonState) → IsClosedOf p alphabet cache → slice_get cache.states number ≡ Some x → column < column_count alphabet → slice_get cache.table (number * cache.width + column) ≡ Some entry → (entry ≡ 4294967294 → ⊥)
    → ((n : ℕ) → entry ≡ n * cache.width → entry < 2147483648 → at ≡ n) → ((n : ℕ) → entry ≡ 2147483648 + n * cache.width → entry < 3221225472 → at ≡ n) → ((n : ℕ) → entry ≡ 3221225472 + n * cache.width → at ≡ n) → LeadsTo p alphabet cache.states x (ahead_in alphabet column) at
known_leads p alphabet cache number column entry at x closed stands in_row is goes plain ends over =
    let inside : column < cache.width = omega (arith, in_row, closed.made.width) in
    let known = closed.known number column (slice_get_within cache.states number x stands) inside in
    let same : entry ≡ known.entry = the_same is known.stands in
    entry_steps p alphabet cache.width cache.states x (ahead_in alphabet column) entry at (λ e. known.known (sym same ∙ e)) goes plain ends over (closed.made.entries number column entry x stands inside is)

-- after an entry is set, the state's entries are still right
pub entered : (p : Directed) (alphabet : AlphabetView) (before middle after : CacheView) (number column entry : ℕ) → HoldsSteps p alphabet before → HoldsSteps p alphabet middle → Grows before middle → number < length before.states → column < before.width
    → ((x : AutomatonState) → slice_get before.states number ≡ Some x → IsEntry p alphabet middle.width middle.states x (ahead_in alphabet column) entry) → after.table ≡ set middle.table (number * middle.width + column) entry → after.states ≡ middle.states → after.widths ≡ middle.widths → after.width ≡ middle.width → after.used ≡ middle.used → HoldsSteps p alphabet after
entered p alphabet before middle after number column entry was is grows lt in_row right table states widths width used =
    let here = there_is before.states number lt in
    cache_set p alphabet middle after number column entry here.0 is (grows.numbers number here.0 here.1) (subst (λ w. column < w) (same_width p alphabet before middle was is) in_row) (right here.0 here.1) table states widths width used

-- and this one is known
pub entered_known : (p : Directed) (alphabet : AlphabetView) (before middle after : CacheView) (number column entry : ℕ) → HoldsSteps p alphabet before → HoldsSteps p alphabet middle → Grows before middle → number < length before.states → column < before.width → (entry ≡ 4294967295 → ⊥)
    → after.table ≡ set middle.table (number * middle.width + column) entry → after.width ≡ middle.width → IsKnownAt after.table (number * after.width + column)
entered_known p alphabet before middle after number column entry was is grows lt in_row known table width =
    let here = there_is before.states number lt in
    let still = slice_get_within middle.states number here.0 (grows.numbers number here.0 here.1) in
    let inside : number * middle.width + column < length middle.table = omega (arith, row_room number middle.width (length middle.states) still, is.rows, same_width p alphabet before middle was is, in_row) in
    subst (λ w. IsKnownAt after.table (number * w + column)) (sym width)
    (subst (λ t. IsKnownAt t (number * middle.width + column)) (sym table) (known_cell middle.table (number * middle.width + column) entry inside known))

-- if the rows of at least as many states are known as there are, all are
pub known_all : (cache : CacheView) (n m : ℕ) → m ≤ n → AreKnown cache n → AreKnown cache m
known_all cache n m le known number column lt in_row = known number column (omega (arith, le, lt)) in_row

-- a row with one more entry
pub row_more : (p : Directed) (alphabet : AlphabetView) (before after : CacheView) (n column : ℕ) → HoldsSteps p alphabet before → HoldsSteps p alphabet after → Grows before after → ((k : ℕ) → k < column → IsKnownAt before.table (n * before.width + k)) → IsKnownAt after.table (n * after.width + column)
    → (k : ℕ) → k < column + 1 → IsKnownAt after.table (n * after.width + k)
row_more p alphabet before after n column was is grows row here k lt = elim (same_or_not k column) [
  | inl e ↦ subst (λ j. IsKnownAt after.table (n * after.width + j)) (sym e) here
  | inr other ↦ subst (λ w. IsKnownAt after.table (n * w + k)) (same_width p alphabet before after was is) (grows.entries (n * before.width + k) (row k (below other)))
]
  where
    below : (k ≡ column → ⊥) → k < column
    below other = omega (arith, lt, other)

-- start states for one more column
pub starts_more : (p : Directed) (alphabet : AlphabetView) (before after : List AutomatonState) (q column : ℕ) → KeepNumbers before after → ((k : ℕ) → k < column → HasStarts p.is_back before q (behind_of alphabet.asked p.bytes.line_terminator (slice_get alphabet.classes.bytes k))) → HasStarts p.is_back after q (behind_of alphabet.asked p.bytes.line_terminator (slice_get alphabet.classes.bytes column))
    → (k : ℕ) → k < column + 1 → HasStarts p.is_back after q (behind_of alphabet.asked p.bytes.line_terminator (slice_get alphabet.classes.bytes k))
starts_more p alphabet before after q column keep starts here k lt = elim (same_or_not k column) [
  | inl e ↦ subst (λ j. HasStarts p.is_back after q (behind_of alphabet.asked p.bytes.line_terminator (slice_get alphabet.classes.bytes j))) (sym e) here
  | inr other ↦ starts_still p.is_back before after q (behind_of alphabet.asked p.bytes.line_terminator (slice_get alphabet.classes.bytes k)) keep (starts k (below other))
]
  where
    below : (k ≡ column → ⊥) → k < column
    below other = omega (arith, lt, other)

-- ---- the number of states

-- the offset of a row to which an entry leads fits into an entry
pub reached_rows : (before after : CacheView) (next entry : ℕ) (y : AutomatonState) → (entry ≡ 4294967295 → ⊥) → IsEntryTo after.width y next entry → length after.states ≤ max (length before.states) (next + 1) → HaveRows before after
reached_rows before after next entry y known to few = elim (below_or_not (length before.states) (length after.states)) [
  | inr as_many ↦ no_more as_many
  | inl more ↦ in_reach (omega (arith, mul-le-mul_right {m = length after.states - 1} {n = next} after.width (omega (arith, few, more)), reach to))
]
  where
    reach : IsEntryTo after.width y next entry → next * after.width < 2147483648
    reach (unknown_to is) = absurd (known is)
    reach (plain_to is below ended) = omega (arith, is, below)
    reach (ends_to is below ended) = omega (arith, is, below)
    reach (over_to is below) = omega (arith, is, below)

-- the states and the width are unchanged
pub rows_as : (a b c : CacheView) → c.states ≡ b.states → c.width ≡ b.width → HaveRows a b → HaveRows a c
rows_as a b c states width (no_more few) = no_more (omega (arith, few, ap length states))
rows_as a b c states width (in_reach reach) = in_reach (subst (λ n. n < 2147483648) (sym (ap₂ (λ xs w. (length xs - 1) * w) states width)) reach)

pub rows_both : (a b c : CacheView) {w : ℕ} → w ≡ b.width → w ≡ c.width → HaveRows a b → HaveRows b c → HaveRows a c
rows_both a b c width width' first (in_reach reach) = in_reach reach
rows_both a b c width width' (no_more few) (no_more few') = no_more (omega (arith, few, few'))
rows_both a b c width width' (in_reach reach) (no_more few') =
    let same : b.width ≡ c.width = sym width ∙ width' in
    in_reach (omega (arith, ap (λ w. (length b.states - 1) * w) same, reach, mul-le-mul_right {m = length c.states - 1} {n = length b.states - 1} c.width (omega (arith, few'))))

-- therefore fewer states are added than entries can lead to
pub rows_end : (before after : CacheView) (n : ℕ) → 0 < after.width → HaveRows before after → n < length after.states → n < length before.states + 2147483648
rows_end before after n some (no_more few) lt = omega (arith, few, lt)
rows_end before after n some (in_reach reach) lt = omega (arith, le-mul_of_pos_right {m = after.width} (length after.states - 1) some, reach, lt)
