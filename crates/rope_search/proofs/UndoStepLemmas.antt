-- The texts of a history some of which are dropped, and the changes between those that stay.
use Rattle.std.proofs.Common.{◌≡◌, ℕ, zero, suc, ◌+◌, ◌-◌, ◌<◌, ◌≤◌, nat_lt, Bool, true, false, List, [], ◌∷◌, ◌++◌, length, take, drop, map, reverse, slice_index_or, slice_set, refl, ap, sym, subst, ◌∙◌, arith, length-take, length-drop}
use Rattle.std.specs.Prelude.{Option, None, Some, MatchOption, option_map}
use Rattle.std.proofs.lemmas.Option.{none-some}
use Rattle.std.proofs.lemmas.Bool.Decides.{nat_tests}
use Rattle.std.proofs.lemmas.List.{take-append-drop, drop_all, take_more, length-take-le, take-map, drop-map, map-set, get_or-take, get_or-drop, drop-drop, reverse-append, reverse-reverse, length-reverse, length-map}
use Rattle.std.proofs.Math.Seq.{take-append_seam, drop-append_seam, map-set_same}
use Rattle.rope_search_reports.specs.Turned.{Lead, listed}
use Rattle.rope_search_reports.specs.declared.changes.Changes.{Changes}
use Rattle.rope_search_changes.specs.declared.Change.{Change}
use Rattle.rope_search.specs.declared.history.Version.{Version}
use Rattle.rope_search.specs.Histories.{text_at, changes_at, changes_last, LeadOn}
use Rattle.rope_search.specs.Session.{BufferState, current_text, with_text}
use Rattle.rope_search.specs.UndoSteps.{first_kept, changes_with_steps, with_steps}
use Rattle.rope_search.proofs.HistoryLemmas.{text_in, changes_in}

-- ---- the first ones are dropped

pub dropped_first : {A : Type 0} (xs : List A) (n m : ℕ) → m + n ≡ length xs → reverse (take m (reverse xs)) ≡ drop n xs
dropped_first xs n m all =
    let front = take n xs in
    let back = drop n xs in
    let long : m ≡ length (reverse back) = omega (arith, all, length-reverse back, length-drop n xs) in
    ap (λ l. reverse (take m (reverse l))) (sym (take-append-drop n xs))
    ∙ ap (λ l. reverse (take m l)) (reverse-append front back)
    ∙ ap (λ k. reverse (take k (reverse back ++ reverse front))) long
    ∙ ap reverse (take-append_seam (reverse back) (reverse front))
    ∙ reverse-reverse back

-- ---- those that stay

kept_at : {A : Type 0} (xs : List A) (n c k : ℕ) (d : A) → n + k < c → slice_index_or (drop n (take c xs)) k d ≡ slice_index_or xs (n + k) d
kept_at xs n c k d low = get_or-drop n (take c xs) k d ∙ get_or-take c xs (n + k) d low

-- the elements after the first
after_first : {A : Type 0} (x : A) (xs : List A) (k : ℕ) (d : A) → slice_index_or (x ∷ xs) (k + 1) d ≡ slice_index_or xs k d
after_first x xs k d = let more : k + 1 ≡ suc k = omega arith in ap (λ n. slice_index_or (x ∷ xs) n d) more

pub led_kept : (texts : List (List ℕ)) (changes : List (List Change)) (current steps : ℕ) → current < length texts → LeadOn texts changes
    → LeadOn (drop (first_kept current steps) (take (current + 1) texts)) (changes_with_steps changes current steps)
led_kept texts changes current steps inside led = λ k low.
    let n = first_kept current steps in
    let c = current + 1 in
    let within : n + (k + 1) < c = omega (arith, low, length-drop n (take c texts), length-take c texts) in
    let one : text_at (drop n (take c texts)) k ≡ text_at texts (n + k) = kept_at texts n c k [] (omega (arith, within)) in
    let two : text_at (drop n (take c texts)) (k + 1) ≡ text_at texts (n + k + 1) = kept_at texts n c (k + 1) [] within ∙ ap (text_at texts) (omega arith) in
    let three : changes_at (changes_with_steps changes current steps) (k + 1) ≡ changes_at changes (n + k + 1) =
    after_first [] (drop (n + 1) (take c changes)) k [] ∙ kept_at changes (n + 1) c k [] (omega (arith, within)) ∙ ap (changes_at changes) (omega arith) in
    subst (λ t. Lead (changes_at (changes_with_steps changes current steps) (k + 1)) t (text_at (drop n (take c texts)) (k + 1))) (sym one)
    (subst (λ t. Lead (changes_at (changes_with_steps changes current steps) (k + 1)) (text_at texts (n + k)) t) (sym two)
    (subst (λ cs. Lead cs (text_at texts (n + k)) (text_at texts (n + k + 1))) (sym three) (led (n + k) (omega (arith, within, inside)))))

-- the current one is one of them
pub kept_current : (texts : List (List ℕ)) (current steps : ℕ)
    → text_at (drop (first_kept current steps) (take (current + 1) texts)) (current - first_kept current steps) ≡ text_at texts current
kept_current texts current steps =
    kept_at texts (first_kept current steps) (current + 1) (current - first_kept current steps) [] (omega arith) ∙ ap (text_at texts) (omega arith)

-- the changes to a text that stays and isn't the first are unchanged
pub kept_changes : (changes : List (List Change)) (current steps : ℕ) → first_kept current steps < current
    → changes_at (changes_with_steps changes current steps) (current - first_kept current steps) ≡ changes_at changes current
kept_changes changes current steps later =
    let n = first_kept current steps in
    let k = current - n - 1 in
    let more : current - n ≡ k + 1 = omega (arith, later) in
    ap (changes_at (changes_with_steps changes current steps)) more
    ∙ after_first [] (drop (n + 1) (take (current + 1) changes)) k []
    ∙ kept_at changes (n + 1) (current + 1) k [] (omega (arith, later))
    ∙ ap (changes_at changes) (omega (arith, later))

-- ---- the versions of a list

-- the view of those that stay; the first of them keeps no changes
pub texts_kept : (items kept : List Version) (n c : ℕ) (version d : Version) → kept ≡ drop n (take c items) → text_in version ≡ text_in (slice_index_or kept 0 d)
    → map text_in (slice_set kept 0 version) ≡ drop n (take c (map text_in items))
texts_kept items kept n c version d is same =
    map-set_same text_in kept 0 version d same ∙ ap (map text_in) is ∙ sym (drop-map text_in n (take c items)) ∙ ap (drop n) (sym (take-map text_in c items))

first_set : {A : Type 0} (xs : List A) (x : A) → 0 < length xs → slice_set xs 0 x ≡ x ∷ drop 1 xs
first_set [] x some = absurd (omega (arith, some))
first_set (y ∷ ys) x some = refl

pub changes_kept : (items kept : List Version) (current steps : ℕ) (version : Version) → kept ≡ drop (first_kept current steps) (take (current + 1) items)
    → changes_in version ≡ [] → 0 < length kept
    → map changes_in (slice_set kept 0 version) ≡ changes_with_steps (map changes_in items) current steps
changes_kept items kept current steps version is none some =
    let n = first_kept current steps in
    let c = current + 1 in
    map-set changes_in kept 0 version
    ∙ ap (λ x. slice_set (map changes_in kept) 0 x) none
    ∙ first_set (map changes_in kept) [] (omega (arith, some, length-map kept changes_in))
    ∙ ap (λ l. [] ∷ drop 1 l) (ap (map changes_in) is ∙ sym (drop-map changes_in n (take c items)) ∙ ap (drop n) (sym (take-map changes_in c items)))
    ∙ ap (λ l. [] ∷ l) (drop-drop 1 n (take c (map changes_in items)))

-- the view of one of them
pub seen_at : {A : Type 0} (see : Version → A) (items : List Version) (k : ℕ) (d : Version) (e : A) → k < length items
    → slice_index_or (map see items) k e ≡ see (slice_index_or items k d)
seen_at see [] k d e low = absurd (omega (arith, low))
seen_at see (v ∷ vs) zero d e low = refl
seen_at see (v ∷ vs) (suc k) d e low = seen_at see vs k d e (omega (arith, low))

-- none past the last
pub seen_past : {A : Type 0} (items : List A) (k : ℕ) (d : A) → length items ≤ k → slice_index_or items k d ≡ d
seen_past [] k d past = refl
seen_past (v ∷ vs) zero d past = absurd (omega (arith, past))
seen_past (v ∷ vs) (suc k) d past = seen_past vs k d (omega (arith, past))

-- a comparison returns whether a number is below another
pub less_told : (a b : ℕ) → nat_lt a b ≡ true → a < b
less_told a b told = grind (arith, nat_tests, told)

pub not_less_told : (a b : ℕ) → nat_lt a b ≡ false → b ≤ a
not_less_told a b told = grind (arith, nat_tests, told)

-- what is known of the first that was dropped
pub undone_told : (items : List Version) (k m : ℕ) (undone : Option Changes) → m ≡ length items
    → MatchOption undone (m ≤ k) (λ cs. (k < m) × ((d : Version) → cs ≡ (slice_index_or items k d).changes))
    → MatchOption undone (length items ≤ k) (λ cs. listed cs ≡ changes_at (map changes_in items) k)
undone_told items k m None same told = omega (arith, same, told)
undone_told [] k m (Some cs) same told = absurd (omega (arith, same, told.0))
undone_told (v ∷ vs) k m (Some cs) same told = ap listed (told.1 v) ∙ sym (seen_at changes_in (v ∷ vs) k v [] (omega (arith, same, told.0)))

-- and of the first that stays
pub led_told : (items kept : List Version) (current steps : ℕ) (led : Changes) (v : Version) → kept ≡ drop (first_kept current steps) (take (current + 1) items) → current < length items
    → led ≡ (slice_index_or kept 0 v).changes → listed led ≡ changes_at (map changes_in items) (first_kept current steps)
led_told items kept current steps led v is inside told =
    let n = first_kept current steps in
    let here : slice_index_or kept 0 v ≡ slice_index_or items n v =
    ap (λ (l : List Version). slice_index_or l 0 v) is ∙ kept_at items n (current + 1) 0 v (omega arith) ∙ ap (λ k. slice_index_or items k v) (omega arith) in
    ap listed (told ∙ ap (λ (w : Version). w.changes) here) ∙ sym (seen_at changes_in items n v [] (omega (arith, inside)))

-- the changes that were made last, or undone, are unchanged
pub last_kept : (apart apart' cut : Option Changes) (is_back is_later : Bool) (led : Changes) (items : List Version) (after : List (List Change)) (current steps : ℕ)
    → current < length items → after ≡ changes_with_steps (map changes_in items) current steps
    → MatchOption cut (length items ≤ current + 1) (λ cs. listed cs ≡ changes_at (map changes_in items) (current + 1))
    → listed led ≡ changes_at (map changes_in items) (first_kept current steps)
    → (is_later ≡ true → first_kept current steps < current) → (is_later ≡ false → current ≤ first_kept current steps)
    → ((apart ≡ None → ⊥) → apart' ≡ apart) → (apart ≡ None → is_back ≡ true → apart' ≡ cut)
    → (apart ≡ None → is_back ≡ false → is_later ≡ true → apart' ≡ None) → (apart ≡ None → is_back ≡ false → is_later ≡ false → apart' ≡ Some led)
    → changes_last (option_map listed apart') is_back after (current - first_kept current steps) ≡ changes_last (option_map listed apart) is_back (map changes_in items) current
last_kept (Some cs) apart' cut is_back is_later led items after current steps inside is gone here later first kept back on alone =
    let so : apart' ≡ Some cs = kept (λ none. none-some cs (sym none)) in
    ap (λ o. changes_last (option_map listed o) is_back after (current - first_kept current steps)) so
last_kept None apart' (Some cs) true is_later led items after current steps inside is gone here later first kept back on alone =
    ap (λ o. changes_last (option_map listed o) true after (current - first_kept current steps)) (back refl refl) ∙ gone
last_kept None apart' None true is_later led items after current steps inside is gone here later first kept back on alone =
    let all = map changes_in items in
    let n = first_kept current steps in
    ap (λ o. changes_last (option_map listed o) true after (current - n)) (back refl refl)
    ∙ seen_past after (current - n + 1) [] (omega (arith, ap length is, length-drop (n + 1) (take (current + 1) all), length-take (current + 1) all))
    ∙ sym (seen_past all (current + 1) [] (omega (arith, gone, length-map items changes_in)))
last_kept None apart' cut false true led items after current steps inside is gone here later first kept back on alone =
    let n = first_kept current steps in
    ap (λ o. changes_last (option_map listed o) false after (current - n)) (on refl refl refl)
    ∙ ap (λ cs. changes_at cs (current - n)) is ∙ kept_changes (map changes_in items) current steps (later refl)
last_kept None apart' cut false false led items after current steps inside is gone here later first kept back on alone =
    let n = first_kept current steps in
    ap (λ o. changes_last (option_map listed o) false after (current - n)) (alone refl refl refl)
    ∙ here ∙ ap (changes_at (map changes_in items)) (omega (arith, first refl))

-- ---- with no steps

pub changes_with_none : (changes : List (List Change)) (current : ℕ) → changes_with_steps changes current 0 ≡ [] ∷ []
changes_with_none changes current =
    ap (λ l. [] ∷ l) (drop_all (current - 0 + 1) (take (current + 1) changes) (omega (arith, length-take (current + 1) changes)))

alone_at : {A : Type 0} (xs : List A) (c : ℕ) (d : A) → c < length xs → drop c (take (c + 1) xs) ≡ slice_index_or xs c d ∷ []
alone_at xs c d inside =
    ap (drop c) (take_more xs c d inside) ∙ ap (λ n. drop n (take c xs ++ slice_index_or xs c d ∷ [])) (sym (length-take-le c xs (omega (arith, inside))))
    ∙ drop-append_seam (take c xs) (slice_index_or xs c d ∷ [])

pub steps_none : (buffer : BufferState) → buffer.current < length buffer.texts → with_steps buffer 0 ≡ with_text buffer (current_text buffer)
steps_none buffer inside =
    ap (λ l. record { texts = l; current = buffer.current - (buffer.current - 0); pattern = buffer.pattern })
    (ap (λ n. drop n (take (buffer.current + 1) buffer.texts)) (omega arith) ∙ alone_at buffer.texts buffer.current [] inside)
    ∙ ap (λ n. record { texts = current_text buffer ∷ []; current = n; pattern = buffer.pattern }) (omega arith)
