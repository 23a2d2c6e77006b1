-- A history whose last steps are joined.
use Rattle.std.proofs.Common.{◌≡◌, ℕ, suc, ◌+◌, ◌-◌, ◌^◌, ◌<◌, ◌≤◌, inl, inr, Bool, true, false, List, [], ◌∷◌, ◌++◌, length, take, drop, map, min, slice_index_or, slice_set, refl, sym, ap, subst, ◌∙◌, arith, length-append, length-take, length-drop}
use Rattle.std.specs.Prelude.{Option, None, Some, option_map}
use Rattle.std.proofs.lemmas.Bool.{cases_lt}
use Rattle.std.proofs.lemmas.Option.{none-some}
use Rattle.std.proofs.lemmas.List.{take-map, drop-map, map-set, map-append, take-set-le, drop-set, drop-drop, take-append-drop, get_or-take, get_or-drop, get_or-append_right, take_all, take_more, length-map, length-set}
use Rattle.std.proofs.lemmas.List.Sums.{sum_by-append, sum_by-cons}
use Rattle.std.proofs.Math.ListN.{get_or-append}
use Rattle.std.proofs.Math.Seq.{map-set_same}
use Rattle.str_indices.specs.Text.{byte_len}
use Rattle.rope_search_reports.specs.Turned.{Lead, listed}
use Rattle.rope_search_reports.specs.declared.changes.Changes.{Changes}
use Rattle.rope_search_changes.specs.declared.Change.{Change}
use Rattle.rope_search_reports.proofs.ChangeLemmas.{dropped}
use Rattle.rope_search.specs.declared.history.Version.{Version}
use Rattle.rope_search.specs.Histories.{text_at, changes_at, changes_last, LeadOn}
use Rattle.rope_search.specs.JoinedSteps.{AreApart, AreComposed, Stays, StaysThrough, last_steps, number_joined}
use Rattle.rope_search.proofs.HistoryLemmas.{text_in, changes_in, led-to}

-- ---- a list without some elements in the middle

at-front : {A : Type 0} (xs rest : List A) (f k : ℕ) (d : A) → f ≤ length xs → k < f → slice_index_or (take f xs ++ rest) k d ≡ slice_index_or xs k d
at-front xs rest f k d within low =
    get_or-append (take f xs) rest d k (omega (arith, length-take f xs, within, low)) ∙ get_or-take f xs k d low

at-rest : {A : Type 0} (xs rest : List A) (f k n : ℕ) (d : A) → f ≤ length xs → k ≡ f + n → slice_index_or (take f xs ++ rest) k d ≡ slice_index_or rest n d
at-rest xs rest f k n d within is =
    get_or-append_right (take f xs) rest f k d (omega (arith, length-take f xs, within)) (omega (arith, is)) ∙ ap (λ i. slice_index_or rest i d) (omega (arith, is))

-- the texts that stay, and the changes between them
pub led_joined : (texts : List (List ℕ)) (changes : List (List Change)) (composed : List Change) (current steps : ℕ) → current < length texts → length changes ≡ length texts
    → 2 ≤ steps → steps ≤ current → LeadOn texts changes → Lead composed (text_at texts (current - steps)) (text_at texts current)
    → LeadOn (take (number_joined current steps) texts ++ drop current texts) (take (number_joined current steps) changes ++ composed ∷ drop (current + 1) changes)
led_joined texts changes composed current steps inside same some within led lead = λ k low.
    let f = number_joined current steps in
    let texts' = take f texts ++ drop current texts in
    let changes' = take f changes ++ composed ∷ drop (current + 1) changes in
    let room : f ≤ length texts = omega (arith, inside) in
    let room' : f ≤ length changes = omega (arith, inside, same) in
    let long : length texts' ≡ f + (length texts - current) = length-append (take f texts) (drop current texts) ∙ omega (arith, length-take f texts, room, length-drop current texts) in
    let all : (old new : List ℕ) (made : List Change) → text_at texts' k ≡ old → text_at texts' (k + 1) ≡ new → changes_at changes' (k + 1) ≡ made → Lead made old new
    → Lead (changes_at changes' (k + 1)) (text_at texts' k) (text_at texts' (k + 1)) = λ old new made one two three leads.
    subst (λ t. Lead (changes_at changes' (k + 1)) t (text_at texts' (k + 1))) (sym one)
    (subst (λ t. Lead (changes_at changes' (k + 1)) old t) (sym two)
    (subst (λ cs. Lead cs old new) (sym three) leads)) in
    elim (cases_lt (k + 1) f) [
      | inl before ↦
          all (text_at texts k) (text_at texts (k + 1)) (changes_at changes (k + 1)) (at-front texts (drop current texts) f k [] room (omega (arith, before)))
          (at-front texts (drop current texts) f (k + 1) [] room before) (at-front changes (composed ∷ drop (current + 1) changes) f (k + 1) [] room' before)
          (led k (omega (arith, before, inside)))
      | inr past ↦ elim (cases_lt f (k + 1)) [
        | inl behind ↦
            let n = k - f in
            all (text_at texts (current + n)) (text_at texts (current + n + 1)) (changes_at changes (current + n + 1))
            (at-rest texts (drop current texts) f k n [] room (omega (arith, behind)) ∙ get_or-drop current texts n [])
            (at-rest texts (drop current texts) f (k + 1) (n + 1) [] room (omega (arith, behind)) ∙ get_or-drop current texts (n + 1) [] ∙ ap (text_at texts) (omega arith))
            (at-rest changes (composed ∷ drop (current + 1) changes) f (k + 1) (suc n) [] room' (omega (arith, behind)) ∙ get_or-drop (current + 1) changes n [] ∙ ap (changes_at changes) (omega arith))
            (led (current + n) (omega (arith, low, long, behind, inside)))
        | inr here ↦
            let is : k + 1 ≡ f = omega (arith, past, here) in
            all (text_at texts (current - steps)) (text_at texts current) composed
            (at-front texts (drop current texts) f k [] room (omega (arith, is)) ∙ ap (text_at texts) (omega (arith, is, some, within)))
            (at-rest texts (drop current texts) f (k + 1) 0 [] room (omega (arith, is)) ∙ get_or-drop current texts 0 [] ∙ ap (text_at texts) (omega arith))
            (at-rest changes (composed ∷ drop (current + 1) changes) f (k + 1) 0 [] room' (omega (arith, is)))
            lead
      ]
    ]

-- the current text is unchanged
pub joined_current : (texts : List (List ℕ)) (current steps : ℕ) → current < length texts
    → text_at (take (number_joined current steps) texts ++ drop current texts) (number_joined current steps) ≡ text_at texts current
joined_current texts current steps inside =
    let f = number_joined current steps in
    at-rest texts (drop current texts) f f 0 [] (omega (arith, inside)) (omega arith) ∙ get_or-drop current texts 0 [] ∙ ap (text_at texts) (omega arith)

-- one step or none
pub joined_none : {A : Type 0} (xs : List A) (current steps : ℕ) → steps ≤ 1 → take (number_joined current steps) xs ++ drop current xs ≡ xs
joined_none xs current steps few =
    ap (λ n. take n xs ++ drop current xs) (omega (arith, few)) ∙ take-append-drop current xs

-- the changes that were made last, or undone, are unchanged
pub last_joined : (apart apart' : Option Changes) (is_back : Bool) (led : Changes) (changes : List (List Change)) (composed : List Change) (current f : ℕ)
    → current < length changes → f ≤ current → listed led ≡ changes_at changes current
    → ((apart ≡ None → ⊥) → apart' ≡ apart) → (apart ≡ None → is_back ≡ true → apart' ≡ None) → (apart ≡ None → is_back ≡ false → apart' ≡ Some led)
    → changes_last (option_map listed apart') is_back (take f changes ++ composed ∷ drop (current + 1) changes) f ≡ changes_last (option_map listed apart) is_back changes current
last_joined (Some cs) apart' is_back led changes composed current f inside low here kept back on =
    let so : apart' ≡ Some cs = kept (λ none. none-some cs (sym none)) in
    ap (λ (o : Option Changes). changes_last (option_map listed o) is_back (take f changes ++ composed ∷ drop (current + 1) changes) f) so
last_joined None apart' true led changes composed current f inside low here kept back on =
    let changes' = take f changes ++ composed ∷ drop (current + 1) changes in
    ap (λ (o : Option Changes). changes_last (option_map listed o) true changes' f) (back refl refl)
    ∙ at-rest changes (composed ∷ drop (current + 1) changes) f (f + 1) (suc 0) [] (omega (arith, low, inside)) (omega arith)
    ∙ get_or-drop (current + 1) changes 0 [] ∙ ap (changes_at changes) (omega arith)
last_joined None apart' false led changes composed current f inside low here kept back on =
    ap (λ (o : Option Changes). changes_last (option_map listed o) false (take f changes ++ composed ∷ drop (current + 1) changes) f) (on refl refl) ∙ here

-- ---- the versions of a list

-- the view of those that stay
pub texts_joined : (items kept : List Version) (current f : ℕ) (version d : Version) → kept ≡ take f (slice_set items current version) ++ drop current (slice_set items current version)
    → text_in version ≡ text_in (slice_index_or items current d)
    → map text_in kept ≡ take f (map text_in items) ++ drop current (map text_in items)
texts_joined items kept current f version d is same =
    let set = slice_set items current version in
    ap (map text_in) is ∙ map-append text_in (take f set) (drop current set)
    ∙ ap (λ l. l ++ map text_in (drop current set)) (sym (take-map text_in f set))
    ∙ ap (λ l. take f (map text_in set) ++ l) (sym (drop-map text_in current set))
    ∙ ap (λ l. take f l ++ drop current l) (map-set_same text_in items current version d same)

pub changes_joined : (items kept : List Version) (current f : ℕ) (version : Version) (composed : List Change)
    → kept ≡ take f (slice_set items current version) ++ drop current (slice_set items current version)
    → f ≤ current → current < length items → changes_in version ≡ composed
    → map changes_in kept ≡ take f (map changes_in items) ++ composed ∷ drop (current + 1) (map changes_in items)
changes_joined items kept current f version composed is low inside made =
    let set = slice_set items current version in
    let all = map changes_in items in
    let seen : map changes_in set ≡ slice_set all current composed = map-set changes_in items current version ∙ ap (slice_set all current) made in
    ap (map changes_in) is ∙ map-append changes_in (take f set) (drop current set)
    ∙ ap (λ l. l ++ map changes_in (drop current set)) (sym (take-map changes_in f set) ∙ ap (take f) seen ∙ take-set-le f all current composed low)
    ∙ ap (λ l. take f all ++ l) (sym (drop-map changes_in current set) ∙ ap (drop current) seen ∙ drop-set all current composed (omega (arith, inside, length-map items changes_in)))

-- those of the last steps
part_at : {A : Type 0} (xs : List A) (n m k : ℕ) (d : A) → k < m → slice_index_or (take m (drop n xs)) k d ≡ slice_index_or xs (n + k) d
part_at xs n m k d low = get_or-take m (drop n xs) k d low ∙ get_or-drop n xs k d

part_seen : {A : Type 0} (see : Version → A) (items : List Version) (n m : ℕ) → map see (take m (drop n items)) ≡ take m (drop n (map see items))
part_seen see items n m = sym (take-map see m (drop n items)) ∙ ap (take m) (sym (drop-map see n items))

led_among : (texts : List (List ℕ)) (changes : List (List Change)) (n m : ℕ) → LeadOn texts changes → LeadOn (take m (drop n texts)) (take m (drop n changes))
led_among texts changes n m led = λ k low.
    let long : length (take m (drop n texts)) ≡ min m (length texts - n) = length-take m (drop n texts) ∙ ap (min m) (length-drop n texts) in
    let room : k + 1 < m = omega (arith, low, long) in
    let one : text_at (take m (drop n texts)) k ≡ text_at texts (n + k) = part_at texts n m k [] (omega (arith, room)) in
    let two : text_at (take m (drop n texts)) (k + 1) ≡ text_at texts (n + k + 1) = part_at texts n m (k + 1) [] room ∙ ap (text_at texts) (omega arith) in
    let three : changes_at (take m (drop n changes)) (k + 1) ≡ changes_at changes (n + k + 1) = part_at changes n m (k + 1) [] room ∙ ap (changes_at changes) (omega arith) in
    subst (λ t. Lead (changes_at (take m (drop n changes)) (k + 1)) t (text_at (take m (drop n texts)) (k + 1))) (sym one)
    (subst (λ t. Lead (changes_at (take m (drop n changes)) (k + 1)) (text_at texts (n + k)) t) (sym two)
    (subst (λ cs. Lead cs (text_at texts (n + k)) (text_at texts (n + k + 1))) (sym three) (led (n + k) (omega (arith, low, long)))))

-- the versions of the last steps
abbrev pub among : List Version → ℕ → ℕ → List Version
among items current steps = take (current + 1 - (current - steps)) (drop (current - steps) items)

pub led_part : (items all : List Version) (current steps : ℕ) → all ≡ items → LeadOn (map text_in items) (map changes_in items)
    → LeadOn (map text_in (among all current steps)) (map changes_in (among all current steps))
led_part items all current steps same led =
    let n = current - steps in
    let m = current + 1 - n in
    subst (λ vs. LeadOn (map text_in (among vs current steps)) (map changes_in (among vs current steps))) (sym same)
    (subst (λ ts. LeadOn ts (map changes_in (among items current steps))) (sym (part_seen text_in items n m))
    (subst (LeadOn (take m (drop n (map text_in items)))) (sym (part_seen changes_in items n m)) (led_among (map text_in items) (map changes_in items) n m led)))

part_ends : (items : List Version) (current steps : ℕ) → steps ≤ current → current < length items → (composed : List Change)
    → Lead composed (text_at (map text_in (among items current steps)) 0) (text_at (map text_in (among items current steps)) (length (among items current steps) - 1))
    → Lead composed (text_at (map text_in items) (current - steps)) (text_at (map text_in items) current)
part_ends items current steps within inside composed lead =
    let n = current - steps in
    let m = current + 1 - n in
    let texts = map text_in items in
    let part = among items current steps in
    let seen = part_seen text_in items n m in
    let long : length part ≡ m = length-take m (drop n items) ∙ omega (arith, length-drop n items, inside) in
    let one : text_at (map text_in part) 0 ≡ text_at texts n = ap (λ (ts : List (List ℕ)). text_at ts 0) seen ∙ part_at texts n m 0 [] (omega arith) ∙ ap (text_at texts) (omega arith) in
    let two : text_at (map text_in part) (length part - 1) ≡ text_at texts current =
    ap (λ (ts : List (List ℕ)). text_at ts (length part - 1)) seen ∙ part_at texts n m (length part - 1) [] (omega (arith, long)) ∙ ap (text_at texts) (omega (arith, long, within)) in
    subst (λ t. Lead composed t (text_at texts current)) one (subst (λ t. Lead composed (text_at (map text_in part) 0) t) two lead)

part_steps : (items : List Version) (current steps : ℕ) → steps ≤ current → drop 1 (map changes_in (among items current steps)) ≡ last_steps (map changes_in items) current steps
part_steps items current steps within =
    let n = current - steps in
    let m = current + 1 - n in
    let changes = map changes_in items in
    ap (drop 1) (part_seen changes_in items n m)
    ∙ dropped (drop n changes) 1 m (omega arith)
    ∙ ap (take (m - 1)) (drop-drop 1 n changes)
    ∙ ap (λ k. take (m - 1) (drop k changes)) (omega (arith, within))
    ∙ ap (λ k. take k (drop (current + 1 - steps) changes)) (omega (arith, within))

-- ---- the last steps joined

pub record AreJoined (items kept : List Version) (current steps : ℕ) (composed : List Change) : Type 0 where
  pub texts : map text_in kept ≡ take (number_joined current steps) (map text_in items) ++ drop current (map text_in items)
  pub changes : map changes_in kept ≡ take (number_joined current steps) (map changes_in items) ++ composed ∷ drop (current + 1) (map changes_in items)
  pub led : LeadOn (map text_in kept) (map changes_in kept)
  pub are : AreComposed (last_steps (map changes_in items) current steps) composed
  pub inside : number_joined current steps < length kept

pub joined_versions : (items kept : List Version) (current steps : ℕ) (version d : Version) → 2 ≤ steps → steps ≤ current → current < length items
    → LeadOn (map text_in items) (map changes_in items)
    → kept ≡ take (current - steps + 1) (slice_set items current version) ++ drop (current - steps + 1 + (steps - 1)) (slice_set items current version)
    → text_in version ≡ text_in (slice_index_or items current d)
    → Lead (changes_in version) (text_at (map text_in (among items current steps)) 0) (text_at (map text_in (among items current steps)) (length (among items current steps) - 1))
    → AreComposed (drop 1 (map changes_in (among items current steps))) (changes_in version)
    → AreJoined items kept current steps (changes_in version)
joined_versions items kept current steps version d some within inside led is same lead are =
    let f = number_joined current steps in
    let set = slice_set items current version in
    let front : current - steps + 1 ≡ f = omega (arith, some, within) in
    let back : current - steps + 1 + (steps - 1) ≡ current = omega (arith, some, within) in
    let told : kept ≡ take f set ++ drop current set = is ∙ ap (λ n. take n set ++ drop (current - steps + 1 + (steps - 1)) set) front ∙ ap (λ n. take f set ++ drop n set) back in
    let texts = texts_joined items kept current f version d told same in
    let changes = changes_joined items kept current f version (changes_in version) told (omega arith) inside refl in
    let lead' = part_ends items current steps within inside (changes_in version) lead in
    let both = led_joined (map text_in items) (map changes_in items) (changes_in version) current steps (omega (arith, inside, length-map items text_in))
    (length-map items changes_in ∙ sym (length-map items text_in)) some within led lead' in
    record {
      texts = texts;
      changes = changes;
      led = subst (λ ts. LeadOn ts (map changes_in kept)) (sym texts)
          (subst (LeadOn (take f (map text_in items) ++ drop current (map text_in items))) (sym changes) both);
      are = subst (λ ss. AreComposed ss (changes_in version)) (part_steps items current steps within) are;
      inside = omega (arith, ap length told, length-append (take f set) (drop current set), length-take f set, length-drop current set, length-set items current version, inside);
    }

-- ---- one more step

through-more : (steps : List (List Change)) (changes : List Change) (x z : ℕ) → StaysThrough (steps ++ changes ∷ []) x z → (y : ℕ) × StaysThrough steps x y × Stays changes y z
through-more [] changes x z stays = (x, refl, subst (Stays changes x) stays.2 stays.1)
through-more (step ∷ steps) changes x z stays =
    let later = through-more steps changes stays.0 z stays.2 in
    (later.0, (stays.0, stays.1, later.1), later.2)

pub composed-none : AreComposed [] []
composed-none = record { stays = λ x y same. (omega arith, omega (arith, same)); apart = tt; few = omega arith }

pub composed-more : (steps : List (List Change)) (changes made made' : List Change) → AreComposed steps made
    → ((x y z : ℕ) → Stays made x y → Stays changes y z → Stays made' x z) → AreApart made' → length made' ≤ length made + length changes
    → AreComposed (steps ++ changes ∷ []) made'
composed-more steps changes made made' are stays apart few = record {
  stays = λ x z through.
      let parts = through-more steps changes x z through in
      stays x parts.0 z (are.stays x parts.0 parts.1) parts.2;
  apart = apart;
  few = omega (arith, few, are.few, sum_by-append length steps (changes ∷ []), sum_by-cons length changes []);
}

-- the changes of the versions up to one
pub record Between (texts : List (List ℕ)) (changes : List (List Change)) (k : ℕ) (made : List Change) : Type 0 where
  pub lead : Lead made (text_at texts 0) (text_at texts (k - 1))
  pub composed : AreComposed (take (k - 1) (drop 1 changes)) made
  pub fits : byte_len (text_at texts (k - 1)) < 2 ^ 64

pub between-start : (texts : List (List ℕ)) (changes : List (List Change)) (made : List Change) → made ≡ [] → byte_len (text_at texts 0) < 2 ^ 64 → Between texts changes 1 made
between-start texts changes made none fits = subst (Between texts changes 1) (sym none) (record { lead = (0, (refl, refl)); composed = composed-none; fits = fits })

pub between-more : (texts : List (List ℕ)) (changes : List (List Change)) (k : ℕ) (made made' : List Change) → 1 ≤ k → k < length texts → length changes ≡ length texts
    → LeadOn texts changes → Between texts changes k made → byte_len (text_at texts k) < 2 ^ 64
    → ((old middle new : List ℕ) → Lead made old middle → Lead (changes_at changes k) middle new → Lead made' old new)
    → ((x y z : ℕ) → Stays made x y → Stays (changes_at changes k) y z → Stays made' x z) → AreApart made' → length made' ≤ length made + length (changes_at changes k)
    → Between texts changes (k + 1) made'
between-more texts changes k made made' some low same led b fits leads stays apart few =
    let back : k + 1 - 1 ≡ k = omega arith in
    let on = led-to texts changes k led (λ none. absurd (omega (arith, none, some))) low in
    let front = take (k - 1) (drop 1 changes) in
    let long : k - 1 < length (drop 1 changes) = omega (arith, length-drop 1 changes, some, low, same) in
    let here : slice_index_or (drop 1 changes) (k - 1) [] ≡ changes_at changes k = get_or-drop 1 changes (k - 1) [] ∙ ap (changes_at changes) (omega (arith, some)) in
    let steps : front ++ changes_at changes k ∷ [] ≡ take k (drop 1 changes) =
    ap (λ c. front ++ c ∷ []) (sym here) ∙ sym (take_more (drop 1 changes) (k - 1) [] long) ∙ ap (λ n. take n (drop 1 changes)) (omega (arith, some)) in
    record {
      lead = subst (λ n. Lead made' (text_at texts 0) (text_at texts n)) (sym back) (leads (text_at texts 0) (text_at texts (k - 1)) (text_at texts k) b.lead on);
      composed = subst (λ n. AreComposed (take n (drop 1 changes)) made') (sym back)
          (subst (λ ss. AreComposed ss made') steps (composed-more front (changes_at changes k) made made' b.composed stays apart few));
      fits = subst (λ n. byte_len (text_at texts n) < 2 ^ 64) (sym back) fits;
    }

pub between-end : (texts : List (List ℕ)) (changes : List (List Change)) (k : ℕ) (made : List Change) → k ≡ length texts → length changes ≡ length texts → Between texts changes k made
    → Lead made (text_at texts 0) (text_at texts (length texts - 1)) × AreComposed (drop 1 changes) made
between-end texts changes k made all same b = (
  subst (λ n. Lead made (text_at texts 0) (text_at texts (n - 1))) all b.lead,
  subst (λ ss. AreComposed ss made) (take_all (k - 1) (drop 1 changes) (omega (arith, length-drop 1 changes, all, same))) b.composed,
)

-- a list of one
pub alone : {A : Type 0} (xs : List A) (d : A) → length xs ≡ 1 → slice_index_or xs 0 d ∷ [] ≡ xs
alone [] d one = absurd (omega (arith, one))
alone (x ∷ []) d one = refl
alone (x ∷ y ∷ ys) d one = absurd (omega (arith, one))
