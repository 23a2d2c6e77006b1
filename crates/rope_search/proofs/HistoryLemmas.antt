-- A history with one more text, and the changes that lead to it.
use Rattle.std.proofs.Common.{◌≡◌, ℕ, ◌+◌, ◌-◌, ◌<◌, ◌≤◌, inl, inr, List, [], ◌∷◌, ◌++◌, length, take, map, slice_index_or, ap, sym, subst, ◌∙◌, arith, length-append, length-take}
use Rattle.std.specs.Prelude.{Result, Ok, Err, OnOk}
use Rattle.std.proofs.lemmas.Bool.{cases_lt}
use Rattle.std.proofs.lemmas.List.{take-map, map-append, get_or-take}
use Rattle.std.proofs.Math.Seq.{get_or-append_right}
use Rattle.std.proofs.Math.ListN.{get_or-append}
use Rattle.ropey.specs.Chunks.{text_of}
use Rattle.rope_search_reports.specs.Turned.{Lead, listed}
use Rattle.rope_search_changes.specs.declared.Change.{Change}
use Rattle.rope_search.specs.declared.history.Version.{Version}
use Rattle.rope_search.specs.Histories.{text_at, changes_at, LeadOn}

-- the view of a version
abbrev pub text_in : Version → List ℕ
text_in v = text_of v.text

abbrev pub changes_in : Version → List Change
changes_in v = listed v.changes

pub shown-more : {A : Type 0} (see : Version → A) (items : List Version) (version : Version) (n : ℕ) (new : List Version) → new ≡ take n items ++ version ∷ []
    → map see new ≡ take n (map see items) ++ see version ∷ []
shown-more see items version n new is =
    ap (map see) is ∙ map-append see (take n items) (version ∷ []) ∙ ap (λ l. l ++ see version ∷ []) (sym (take-map see n items))

-- ---- one more

-- the elements of a list of the first ones with one after them
before-more : {A : Type 0} (xs : List A) (x d : A) (n k : ℕ) → n ≤ length xs → k < n → slice_index_or (take n xs ++ x ∷ []) k d ≡ slice_index_or xs k d
before-more xs x d n k within low =
    let long : length (take n xs) ≡ n = omega (arith, length-take n xs, within) in
    get_or-append (take n xs) (x ∷ []) d k (omega (arith, long, low)) ∙ get_or-take n xs k d low

pub last-more : {A : Type 0} (xs : List A) (x d : A) (n k : ℕ) → n ≤ length xs → k ≡ n → slice_index_or (take n xs ++ x ∷ []) k d ≡ x
last-more xs x d n k within here =
    let long : length (take n xs) ≡ n = omega (arith, length-take n xs, within) in
    let first : k - length (take n xs) ≡ 0 = omega (arith, long, here) in
    get_or-append_right (take n xs) (x ∷ []) k d (omega (arith, long, here)) ∙ ap (λ i. slice_index_or (x ∷ []) i d) first

pub led-more : (texts : List (List ℕ)) (changes : List (List Change)) (text : List ℕ) (further : List Change) (current : ℕ)
    → current < length texts → length changes ≡ length texts → LeadOn texts changes → Lead further (text_at texts current) text
    → LeadOn (take (current + 1) texts ++ text ∷ []) (take (current + 1) changes ++ further ∷ [])
led-more texts changes text further current inside same led lead = λ k low.
    let n = current + 1 in
    let within : n ≤ length texts = omega (arith, inside) in
    let within' : n ≤ length changes = omega (arith, inside, same) in
    let long : length (take n texts ++ text ∷ []) ≡ n + 1 = length-append (take n texts) (text ∷ []) ∙ omega (arith, length-take n texts, within) in
    let texts' = take n texts ++ text ∷ [] in
    let changes' = take n changes ++ further ∷ [] in
    elim (cases_lt k current) [
      | inl before ↦
          let one : text_at texts' k ≡ text_at texts k = before-more texts text [] n k within (omega (arith, before)) in
          let two : text_at texts' (k + 1) ≡ text_at texts (k + 1) = before-more texts text [] n (k + 1) within (omega (arith, before)) in
          let three : changes_at changes' (k + 1) ≡ changes_at changes (k + 1) = before-more changes further [] n (k + 1) within' (omega (arith, before)) in
          subst (λ t. Lead (changes_at changes' (k + 1)) t (text_at texts' (k + 1))) (sym one)
          (subst (λ t. Lead (changes_at changes' (k + 1)) (text_at texts k) t) (sym two)
          (subst (λ cs. Lead cs (text_at texts k) (text_at texts (k + 1))) (sym three) (led k (omega (arith, before, inside)))))
      | inr past ↦
          let last : k ≡ current = omega (arith, past, low, long) in
          let one : text_at texts' k ≡ text_at texts current = before-more texts text [] n k within (omega (arith, last)) ∙ ap (text_at texts) last in
          let two : text_at texts' (k + 1) ≡ text = last-more texts text [] n (k + 1) within (omega (arith, last)) in
          let three : changes_at changes' (k + 1) ≡ further = last-more changes further [] n (k + 1) within' (omega (arith, last)) in
          subst (λ t. Lead (changes_at changes' (k + 1)) t (text_at texts' (k + 1))) (sym one)
          (subst (λ t. Lead (changes_at changes' (k + 1)) (text_at texts current) t) (sym two)
          (subst (λ cs. Lead cs (text_at texts current) text) (sym three) lead))
    ]

-- the changes that led to a text that isn't the first
pub led-to : (texts : List (List ℕ)) (changes : List (List Change)) (current : ℕ) → LeadOn texts changes → (current ≡ 0 → ⊥) → current < length texts
    → Lead (changes_at changes current) (text_at texts (current - 1)) (text_at texts current)
led-to texts changes current led later inside =
    let some : current - 1 + 1 ≡ current = omega (arith, later) in
    subst (λ k. Lead (changes_at changes k) (text_at texts (current - 1)) (text_at texts k)) some (led (current - 1) (omega (arith, some, inside)))

-- what holds in any case holds if a call succeeds
pub on_ok : {T E : Type 0} (result : Result T E) {P : Type 0} → P → OnOk result P
on_ok (Ok done) holds = holds
on_ok (Err fault) holds = tt
