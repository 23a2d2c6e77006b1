-- Rows that lead backward, and levels of them.
use Rattle.std.proofs.Common.{◌≡◌, ℕ, zero, suc, ◌+◌, ◌-◌, ◌<◌, ◌≤◌, ◌⊎◌, Bool, true, false, ◌&&◌, cond, nat_lt, nat_eq, List, [], ◌∷◌, ◌++◌, length, get_or, take, drop, Option, Some, None, refl, sym, ap, ap₂, subst, ◌∙◌, arith, inl, inr}
use Rattle.std.specs.Prelude.{Vec}
use Rattle.std.specs.List.{All}
use Rattle.std.proofs.lemmas.Bool.Decides.{nat_tests}
use Rattle.std.proofs.lemmas.List.{get_or_past}
use Rattle.std.proofs.lemmas.List.Elements.{All-append, All-cons, All-nil}
use Rattle.rx_walks.specs.Bytes.{Automaton}
use Rattle.rx_walks.specs.Reversed.{has}
use Rattle.rx_walks.specs.Transposed.{ReadingPlace, leads_in, prior, at_the_end, LeadsBack, StandsForPlaces, NeverReturns, ReadsAlike}
use Rattle.rx_utf8.specs.declared.byte_ranges.ByteRange.{ByteRange}
use Rattle.rx_utf8.specs.Automata.{look_up, step_in, IsAutomatonRow, RiseWithin}
use Rattle.rx_utf8.specs.Blocks.{Extends}
use Rattle.rx_utf8.specs.Subsets.{entries_from, sources, stands_for, SamePlaces, IsLeadOf, RowReads, AddsRowsUpTo, lists_of, in_some, is_place}
use Rattle.rx_utf8.proofs.RowLaws.{rise_above, rise_more, leads_here, leads_before}
use Rattle.rx_utf8.proofs.TargetLaws.{before_or_at}
use Rattle.rx_utf8.proofs.ListLaws.{length_lists, one_of_sets, some_of_sets, kept_on, kept_append, end_at, end_length}
use Rattle.rx_utf8.proofs.SourceLaws.{rises_all, step_sources}

abbrev pub Rows : Type 0
Rows = List (List ByteRange)

within_or_past : (a b : ℕ) → (a < b) ⊎ (b ≤ a)
within_or_past a b = grind arith

below_true : (s n : ℕ) → s < n → nat_lt s n ≡ true
below_true s n h = grind (arith, nat_tests)

below_false : (s n : ℕ) → n ≤ s → nat_lt s n ≡ false
below_false s n h = grind (arith, nat_tests)

not_first : (t : ℕ) → 0 < t → nat_eq t 0 ≡ false
not_first t h = grind (arith, nat_tests)

same_lead : (those others : ReadingPlace → Bool) → SamePlaces those others → (o : Option ReadingPlace) → leads_in those o ≡ leads_in others o
same_lead those others same None = refl
same_lead those others same (Some x) = same x

-- where a byte leads backward
pub lead_reads : (step : Automaton) (n : ℕ) (those : ReadingPlace → Bool) (b from : ℕ) (sets : List (List ℕ)) (set : List ℕ) (o : Option ReadingPlace) → 0 < from
    → ((s : ℕ) → has set s ≡ leads_in those (step s b)) → ((s : ℕ) → n ≤ s → step s b ≡ None) → IsLeadOf sets from set o
    → LeadsBack (length sets) step (λ next t. (from ≤ t) × SamePlaces (stands_for n sets t) next) those b o
lead_reads step n those b from sets set None some is past lead = λ s. sym (is s) ∙ ap (λ xs. has xs s) lead
lead_reads step n those b from sets set (Some None) some is past lead = sym (is 0) ∙ lead
lead_reads step n those b from sets set (Some (Some t)) some is past lead = (sym (is 0) ∙ lead.0, (lead.1, same), omega (arith, lead.1, some), lead.2)
  where
    by_number : (s : ℕ) → (s < n) ⊎ (n ≤ s) → (nat_lt s n && has (get_or sets t []) s) ≡ leads_in those (step s b)
    by_number s (inl below) = ap₂ (λ x y. x && has y s) (below_true s n below) lead.3 ∙ is s
    by_number s (inr above) = ap (λ x. x && has (get_or sets t []) s) (below_false s n above) ∙ sym (ap (leads_in those) (past s above))

    same : SamePlaces (stands_for n sets t) (prior step those b)
    same None = not_first t (omega (arith, lead.1, some))
    same (Some s) = by_number s (within_or_past s n)

no_row : (rows : Rows) (s b : ℕ) → length rows ≤ s → step_in rows s b ≡ None
no_row rows s b past = ap (λ row. look_up row b) (get_or_past rows s [] past)

pub row_reads : (rows : Rows) → All IsAutomatonRow rows → (T U those : ReadingPlace → Bool) → ((x : ReadingPlace) → T x ≡ true → U x ≡ true) → SamePlaces T those → (sets : List (List ℕ)) (from : ℕ) → 0 < from
    → (row : List ByteRange) → IsAutomatonRow row → ((b : ℕ) → b < 256 → IsLeadOf sets from (sources T (entries_from U 0 rows) b) (look_up row b))
    → RowReads (length rows) (step_in rows) sets from those row
row_reads rows all T U those sub same sets from some row rises leads b = by_byte (within_or_past b 256)
  where
    refused : (s : ℕ) → 256 ≤ b → step_in rows s b ≡ None
    refused s past = rise_above 0 256 (get_or rows s []) b (rises_all rows all s) past

    by_byte : (b < 256) ⊎ (256 ≤ b) → LeadsBack (length sets) (step_in rows) (λ next t. (from ≤ t) × SamePlaces (stands_for (length rows) sets t) next) those b (look_up row b)
    by_byte (inl within) = lead_reads (step_in rows) (length rows) those b from sets (sources T (entries_from U 0 rows) b) (look_up row b) some
        (λ s. step_sources T U sub rows (rises_all rows all) b s ∙ same_lead T those same (step_in rows s b)) (λ s past. no_row rows s b past) (leads b within)
    by_byte (inr past) = subst (LeadsBack (length sets) (step_in rows) (λ next t. (from ≤ t) × SamePlaces (stands_for (length rows) sets t) next) those b) (sym (rise_above 0 256 row b rises past)) (λ s. ap (leads_in those) (refused s past))

-- a row that is filled up to a byte
pub record Led (sets : List (List ℕ)) (from : ℕ) (lists : List (List ℕ)) (to : ℕ) (row : List ByteRange) : Type 0 where
  pub leads : (b : ℕ) → b < to → IsLeadOf sets from (get_or lists b []) (look_up row b)
  pub rises : RiseWithin 0 to row

lead_on : (sets sets' : List (List ℕ)) (from : ℕ) (set : List ℕ) (o : Option ReadingPlace) → Extends sets sets' → IsLeadOf sets from set o → IsLeadOf sets' from set o
lead_on sets sets' from set None on lead = lead
lead_on sets sets' from set (Some None) on lead = lead
lead_on sets sets' from set (Some (Some t)) on lead = (lead.0, lead.1, omega (arith, lead.2, on.0), on.1 t lead.2 ∙ lead.3)

led_next : (sets sets' : List (List ℕ)) (from : ℕ) (lists : List (List ℕ)) (to : ℕ) (row more : List ByteRange) (o : Option ReadingPlace) → Extends sets sets' → Led sets from lists to row
    → IsLeadOf sets' from (get_or lists to []) o → look_up more to ≡ o → ((b : ℕ) → b < to → look_up more b ≡ look_up row b) → RiseWithin 0 (to + 1) more → Led sets' from lists (to + 1) more
led_next sets sets' from lists to row more o on led lead at others rises = record {
  leads = λ b before. elim (before_or_at b to before) [
    | inl less ↦ subst (IsLeadOf sets' from (get_or lists b [])) (sym (others b less)) (lead_on sets sets' from (get_or lists b []) (look_up row b) on (led.leads b less))
    | inr e ↦ subst (λ x. IsLeadOf sets' from (get_or lists x []) (look_up more x)) e (subst (IsLeadOf sets' from (get_or lists to [])) (sym at) lead)
  ];
  rises = rises;
}

pub led_skip : (sets sets' : List (List ℕ)) (from : ℕ) (lists : List (List ℕ)) (to : ℕ) (row : List ByteRange) → Extends sets sets' → Led sets from lists to row
    → IsLeadOf sets' from (get_or lists to []) None → Led sets' from lists (to + 1) row
led_skip sets sets' from lists to row on led lead =
    led_next sets sets' from lists to row row None on led lead (rise_above 0 to row to led.rises (omega arith)) (λ b less. refl) (rise_more 0 to (to + 1) row (omega arith) led.rises)

pub led_push : (sets sets' : List (List ℕ)) (from : ℕ) (lists : List (List ℕ)) (to : ℕ) (row more : List ByteRange) (t : Option ℕ) → Extends sets sets' → Led sets from lists to row
    → IsLeadOf sets' from (get_or lists to []) (Some t) → ((b : ℕ) → look_up more b ≡ cond (nat_eq b to) (Some t) (look_up row b)) → RiseWithin 0 (to + 1) more → Led sets' from lists (to + 1) more
led_push sets sets' from lists to row more t on led lead leads rises =
    led_next sets sets' from lists to row more (Some t) on led lead (leads_here to t row more leads) (λ b less. leads_before to t row more leads b less) rises

-- further sets change nothing
pub stands_on : (n : ℕ) (sets sets' : List (List ℕ)) (t : ℕ) → Extends sets sets' → t < length sets → SamePlaces (stands_for n sets t) (stands_for n sets' t)
stands_on n sets sets' t on below None = refl
stands_on n sets sets' t on below (Some s) = ap (λ set. nat_lt s n && has set s) (sym (on.1 t below))

pub reads_grow : (n : ℕ) (step : Automaton) (sets sets' : List (List ℕ)) (from : ℕ) (those : ReadingPlace → Bool) (row : List ByteRange) → Extends sets sets' → RowReads n step sets from those row → RowReads n step sets' from those row
reads_grow n step sets sets' from those row on reads b = by_lead (look_up row b) (reads b)
  where
    by_lead : (o : Option ReadingPlace) → LeadsBack (length sets) step (λ next t. (from ≤ t) × SamePlaces (stands_for n sets t) next) those b o
        → LeadsBack (length sets') step (λ next t. (from ≤ t) × SamePlaces (stands_for n sets' t) next) those b o
    by_lead None leads = leads
    by_lead (Some None) leads = leads
    by_lead (Some (Some t)) leads = (leads.0, (leads.1.0, λ x. sym (stands_on n sets sets' t on leads.3 x) ∙ leads.1.1 x), leads.2, omega (arith, leads.3, on.0))

-- a level, row by row
pub rows_next : (n : ℕ) (step : Automaton) (sets sets' sets'' : List (List ℕ)) (rows rows' : Rows) (to : ℕ) (row : List ByteRange) → AddsRowsUpTo n step sets rows to sets' rows' → Extends sets' sets''
    → RowReads n step sets'' (length sets) (stands_for n sets to) row → IsAutomatonRow row → AddsRowsUpTo n step sets rows (to + 1) sets'' (rows' ++ row ∷ [])
rows_next n step sets sets' sets'' rows rows' to row so_far on reads rises = record {
  sets_kept = kept_on sets sets' sets'' so_far.sets_kept on;
  rows_kept = kept_on rows rows' (rows' ++ row ∷ []) so_far.rows_kept (kept_append rows' (row ∷ []));
  added = end_length rows' row ∙ ap (λ k. k + 1) so_far.added;
  reads = λ t low high. by_place t low (before_or_at t to high);
  disjoint = All-append IsAutomatonRow rows' (row ∷ []) so_far.disjoint (All-cons IsAutomatonRow row [] rises (All-nil IsAutomatonRow));
}
  where
    at_end : get_or (rows' ++ row ∷ []) to [] ≡ row
    at_end = ap (λ k. get_or (rows' ++ row ∷ []) k []) (sym so_far.added) ∙ end_at rows' row

    by_place : (t : ℕ) → length rows ≤ t → (t < to) ⊎ (to ≡ t) → RowReads n step sets'' (length sets) (stands_for n sets t) (get_or (rows' ++ row ∷ []) t [])
    by_place t low (inl less) =
        subst (RowReads n step sets'' (length sets) (stands_for n sets t)) (sym ((kept_append rows' (row ∷ [])).1 t (omega (arith, less, so_far.added))))
        (reads_grow n step sets' sets'' (length sets) (stands_for n sets t) (get_or rows' t []) on (so_far.reads t low less))
    by_place t low (inr e) =
        subst (λ k. RowReads n step sets'' (length sets) (stands_for n sets k) (get_or (rows' ++ row ∷ []) k [])) e
        (subst (RowReads n step sets'' (length sets) (stands_for n sets to)) (sym at_end) reads)

both : (a b : Bool) → (a && b) ≡ true → (a ≡ true) × (b ≡ true)
both true b e = (refl, e)
both false b e = absurd (cc e)

first_from : (from state : ℕ) → from ≤ state → nat_eq state 0 ≡ true → nat_eq from 0 ≡ true
first_from from state low e = grind (arith, nat_tests)

-- the positions of a state, and those of all states of the level
pub record Places {Z : Type 0} (n : ℕ) (sets : List (Vec ℕ Z)) (from to : ℕ) (end : Bool) (states : List Bool) : Type 0 where
  pub end_is : end ≡ nat_eq from 0
  pub states_are : (s : ℕ) → get_or states s false ≡ (nat_lt s n && in_some (lists_of (take (to - from) (drop from sets))) s)

pub places_same : {Z : Type 0} (n : ℕ) (sets : List (Vec ℕ Z)) (t : ℕ) (end : Bool) (states : List Bool) → t < length sets → Places n sets t (t + 1) end states
    → SamePlaces (is_place end states) (stands_for n (lists_of sets) t)
places_same n sets t end states within places None = places.end_is
places_same n sets t end states within places (Some s) = places.states_are s ∙ ap (λ x. nat_lt s n && x) (one_of_sets sets t s within)

pub places_within : {Z : Type 0} (n : ℕ) (sets : List (Vec ℕ Z)) (from to t : ℕ) (end : Bool) (states : List Bool) → from ≤ t → t < to → t < length sets → Places n sets from to end states
    → (x : ReadingPlace) → stands_for n (lists_of sets) t x ≡ true → is_place end states x ≡ true
places_within n sets from to t end states low high within places None e = places.end_is ∙ first_from from t low e
places_within n sets from to t end states low high within places (Some s) e =
    let parts = both (nat_lt s n) (has (get_or (lists_of sets) t []) s) e in
    places.states_are s ∙ ap₂ (λ x y. x && y) parts.0 (some_of_sets sets from to t s low high within parts.1)

pub row_added : {Z : Type 0} (forward : Rows) → All IsAutomatonRow forward → (sets sets' : List (Vec ℕ Z)) (sets'' : List (List ℕ)) (rows rows' : Rows) (from to t : ℕ)
    (level_end end : Bool) (level states : List Bool) (row : List ByteRange)
    → to ≡ length sets → from ≤ t → t < to → AddsRowsUpTo (length forward) (step_in forward) (lists_of sets) rows t (lists_of sets') rows'
    → Places (length forward) sets from to level_end level → Places (length forward) sets' t (t + 1) end states
    → Extends (lists_of sets') sets'' → ((b : ℕ) → b < 256 → IsLeadOf sets'' to (sources (is_place end states) (entries_from (is_place level_end level) 0 forward) b) (look_up row b)) → IsAutomatonRow row
    → AddsRowsUpTo (length forward) (step_in forward) (lists_of sets) rows (t + 1) sets'' (rows' ++ row ∷ [])
row_added {Z = Z} forward all sets sets' sets'' rows rows' from to t level_end end level states row size low high so_far whole part on leads rises =
    rows_next (length forward) (step_in forward) (lists_of sets) (lists_of sets') sets'' rows rows' t row so_far on reads rises
  where
    sizes : length (lists_of sets) ≡ to
    sizes = length_lists sets ∙ sym size

    here_too : t < length sets'
    here_too = omega (arith, high, sizes, so_far.sets_kept.0, length_lists sets')

    same : SamePlaces (is_place end states) (stands_for (length forward) (lists_of sets) t)
    same x = places_same (length forward) sets' t end states here_too part x ∙ sym (stands_on (length forward) (lists_of sets) (lists_of sets') t so_far.sets_kept (omega (arith, high, sizes)) x)

    within : (x : ReadingPlace) → is_place end states x ≡ true → is_place level_end level x ≡ true
    within x e = places_within (length forward) sets from to t level_end level low high (omega (arith, high, size)) whole x (sym (same x) ∙ e)

    reads : RowReads (length forward) (step_in forward) sets'' (length (lists_of sets)) (stands_for (length forward) (lists_of sets) t) row
    reads = row_reads forward all (is_place end states) (is_place level_end level) (stands_for (length forward) (lists_of sets) t) within same sets'' (length (lists_of sets))
        (omega (arith, high, sizes)) row rises (λ b less. subst (λ k. IsLeadOf sets'' k (sources (is_place end states) (entries_from (is_place level_end level) 0 forward) b) (look_up row b)) (sym sizes) (leads b less))

-- The levels that are built: whatever rows are added, the first state reads backward if each state
-- without a row reads the bytes that are left.
pub record Made (n : ℕ) (step : Automaton) (more : ℕ) (sets : List (List ℕ)) (rows : Rows) : Type 0 where
  pub some : 0 < length sets
  pub within : length rows ≤ length sets
  pub reads : (m : ℕ) (back : Automaton) → length sets ≤ m → ((s b : ℕ) → s < length rows → back s b ≡ step_in rows s b)
      → ((t : ℕ) → length rows ≤ t → t < length sets → StandsForPlaces m step back more (stands_for n sets t) t)
      → StandsForPlaces m step back 4 at_the_end 0
  pub never : NeverReturns (step_in rows)
  pub disjoint : All IsAutomatonRow rows

first_stands : (n : ℕ) (sets : List (List ℕ)) → sets ≡ [] ∷ [] → SamePlaces (stands_for n sets 0) at_the_end
first_stands n sets e None = refl
first_stands n sets e (Some s) = ap (λ xs. nat_lt s n && has (get_or xs 0 []) s) e ∙ none (nat_lt s n)
  where
    none : (a : Bool) → (a && false) ≡ false
    none true = refl
    none false = refl

none_none : (s : ℕ) (b : ℕ) → step_in [] s b ≡ None
none_none zero b = refl
none_none (suc s) b = refl

pub made_none : (n : ℕ) (step : Automaton) (sets : List (List ℕ)) (rows : Rows) → ((back : Automaton) → ReadsAlike step back) → All IsAutomatonRow rows → sets ≡ [] ∷ [] → rows ≡ [] → Made n step 4 sets rows
made_none n step sets rows alike all are none = record {
  some = omega (arith, ap length are);
  within = omega (arith, ap length are, ap length none);
  reads = λ m back low same each. alike back m 4 (stands_for n sets 0) at_the_end (first_stands n sets are) 0 (each 0 (omega (arith, ap length none)) (omega (arith, ap length are)));
  never = λ s b e. absurd (cc (sym e ∙ ap (λ xs. step_in xs s b) none ∙ none_none s b));
  disjoint = all;
}

module _ (n : ℕ) (step : Automaton) (more : ℕ) (sets sets' : List (List ℕ)) (rows rows' : Rows) (alike : (back : Automaton) → ReadsAlike step back)
    (made : Made n step (suc more) sets rows) (level : AddsRowsUpTo n step sets rows (length sets) sets' rows') where
  row_leads : (m : ℕ) (back : Automaton) → length sets' ≤ m → ((t : ℕ) → length sets ≤ t → t < length sets' → StandsForPlaces m step back more (stands_for n sets' t) t)
      → (those : ReadingPlace → Bool) (b : ℕ) (o : Option ReadingPlace) → LeadsBack (length sets') step (λ next t. (length sets ≤ t) × SamePlaces (stands_for n sets' t) next) those b o
      → LeadsBack m step (λ next t. StandsForPlaces m step back more next t) those b o
  row_leads m back low each those b None leads = leads
  row_leads m back low each those b (Some None) leads = leads
  row_leads m back low each those b (Some (Some t)) leads =
      (leads.0, alike back m more (stands_for n sets' t) (prior step those b) leads.1.1 t (each t leads.1.0 leads.3), leads.2, omega (arith, leads.3, low))

  pub made_more : Made n step more sets' rows'
  made_more = record {
    some = omega (arith, made.some, level.sets_kept.0);
    within = omega (arith, level.added, level.sets_kept.0);
    reads = λ m back low same each. made.reads m back (omega (arith, low, level.sets_kept.0))
        (λ s b below. same s b (omega (arith, below, level.rows_kept.0)) ∙ ap (λ row. look_up row b) (level.rows_kept.1 s below))
        (λ t from below b. subst (λ o. LeadsBack m step (λ next s. StandsForPlaces m step back more next s) (stands_for n sets t) b o) (sym (same t b (omega (arith, below, level.added))))
        (row_leads m back low (λ t' from' below'. each t' (omega (arith, from', level.added)) below') (stands_for n sets t) b (look_up (get_or rows' t []) b) (level.reads t from below b)));
    never = λ s b e. by_row s b e (within_or_past s (length rows));
    disjoint = level.disjoint;
  }
    where
      no_first : (b : ℕ) (those : ReadingPlace → Bool) (o : Option ReadingPlace) → o ≡ Some (Some 0) → LeadsBack (length sets') step (λ next t. (length sets ≤ t) × SamePlaces (stands_for n sets' t) next) those b o → ⊥
      no_first b those None e leads = absurd (cc e)
      no_first b those (Some None) e leads = absurd (cc e)
      no_first b those (Some (Some zero)) e leads = absurd (omega (arith, leads.2))
      no_first b those (Some (Some (suc t))) e leads = absurd (cc e)

      by_level : (s b : ℕ) → step_in rows' s b ≡ Some (Some 0) → length rows ≤ s → (s < length rows') ⊎ (length rows' ≤ s) → ⊥
      by_level s b e from (inl below) = no_first b (stands_for n sets s) (look_up (get_or rows' s []) b) e (level.reads s from (omega (arith, below, level.added)) b)
      by_level s b e from (inr past) = absurd (cc (sym e ∙ no_row rows' s b past))

      by_row : (s b : ℕ) → step_in rows' s b ≡ Some (Some 0) → (s < length rows) ⊎ (length rows ≤ s) → ⊥
      by_row s b e (inl below) = made.never s b (sym (ap (λ row. look_up row b) (level.rows_kept.1 s below)) ∙ e)
      by_row s b e (inr from) = by_level s b e from (within_or_past s (length rows'))

pub made_all : (n : ℕ) (step : Automaton) (sets : List (List ℕ)) (rows : Rows) → Made n step 0 sets rows → StandsForPlaces (length sets) step (step_in rows) 4 at_the_end 0
made_all n step sets rows made = made.reads (length sets) (step_in rows) (omega arith) (λ s b below. refl) (λ t from below b. no_row rows t b from)
