-- Matches with only their first groups known.
use Rattle.std.proofs.Common.{◌≡◌, ℕ, zero, suc, ◌+◌, ◌-◌, ◌<◌, ◌≤◌, ◌==◌, ◌&&◌, ◌||◌, Bool, true, false, List, [], ◌∷◌, ◌++◌, Some, None, map, max, take, replicate, slice_index_or, nat_le, refl, ap, ap₂, sym, subst, ◌∙◌, inl, inr, arith}
use Rattle.std.proofs.Common.{nat_cmp}
use Rattle.std.specs.Ordering.{ord_max}
use Rattle.std.proofs.lemmas.Bool.{cases_Bool, cases_lt}
use Rattle.std.proofs.lemmas.Bool.Decides.{nat_tests}
use Rattle.std.proofs.lemmas.List.Sums.{sum_by-cons}
use Rattle.str_indices.specs.Text.{byte_len}
use Rattle.rope_search_changes.specs.Text.{line_count}
use Rattle.rope_search_changes.specs.FirstGroups.{first_groups}
use Rattle.rope_search_changes.specs.Replacement.{Groups, whole, between, text_of_span, group_text, is_digit, expand, replaced, searched, changes_of}
use Rattle.rope_search_changes.specs.declared.Change.{Change}
use Rattle.rope_search_templates.specs.Laws.{FirstGroupsAreEnough}
use Rattle.rope_search_templates.specs.Templates.{NeedsGroups, names}
use Rattle.rope_search_templates.specs.Pieces.{IsFirstPiece, is_group}
use Rattle.rope_search_templates.specs.declared.pieces.Piece.{Piece}

-- ---- one match

whole-none : (n : ℕ) → whole (replicate n None) ≡ (0, 0)
whole-none zero = refl
whole-none (suc n) = refl

whole-first : (count : ℕ) (groups : Groups) → 1 ≤ count → whole (first_groups count groups) ≡ whole groups
whole-first zero groups some = absurd (omega (arith, some))
whole-first (suc n) [] some = whole-none (10 - suc n)
whole-first (suc n) (None ∷ others) some = refl
whole-first (suc n) (Some span ∷ others) some = refl

abbrev absent : ℕ → Groups
absent n = replicate n None

get-none : (n number : ℕ) → slice_index_or (absent n) number None ≡ None
get-none zero number = refl
get-none (suc n) zero = refl
get-none (suc n) (suc number) = get-none n number

get-first : (groups : Groups) (count rest number : ℕ) → number < count → slice_index_or (take count groups ++ replicate rest None) number None ≡ slice_index_or groups number None
get-first groups zero rest number below = absurd (omega (arith, below))
get-first [] (suc n) rest number below = get-none rest number
get-first (group ∷ groups) (suc n) rest zero below = refl
get-first (group ∷ groups) (suc n) rest (suc number) below = get-first groups n rest number (omega (arith, below))

first-told : (content : List ℕ) (groups : Groups) (count number : ℕ) → number < count → group_text content (first_groups count groups) number ≡ group_text content groups number
first-told content groups count number below = ap (text_of_span content) (get-first groups count (10 - count) number below)

expand-first : (content : List ℕ) (groups : Groups) (count : ℕ) (template : List ℕ) → names (nat_le count) template ≡ false
    → expand content (first_groups count groups) template ≡ expand content groups template
expand-first content groups count [] none = refl
expand-first content groups count (c ∷ []) none = refl
expand-first content groups count (c ∷ d ∷ rest) none = elim (cases_Bool ((c == 36) && (d == 36))) [
  | inl pair ↦ rw pair (ap (λ cs. 36 ∷ cs) (expand-first content groups count rest (rw pair at none)))
  | inr other ↦ elim (cases_Bool ((c == 36) && is_digit d)) [
    | inl named ↦
        let neither : (nat_le count (d - 48) || names (nat_le count) rest) ≡ false = rw (other, named) at none in
        let below : d - 48 < count = grind (arith, nat_tests, or-left (nat_le count (d - 48)) (names (nat_le count) rest) neither) in
        rw (other, named) (ap₂ (λ told behind. told ++ behind) (first-told content groups count (d - 48) below) (expand-first content groups count rest (or-right (nat_le count (d - 48)) (names (nat_le count) rest) neither)))
    | inr more ↦ rw (other, more) (ap (λ cs. c ∷ cs) (expand-first content groups count (d ∷ rest) (rw (other, more) at none)))
  ]
]
  where
    or-left : (a b : Bool) → (a || b) ≡ false → a ≡ false
    or-left false b is = refl
    or-left true b is = absurd (cc)

    or-right : (a b : Bool) → (a || b) ≡ false → b ≡ false
    or-right false b is = is
    or-right true b is = absurd (cc)

-- ---- all matches

module _ (content template : List ℕ) (count : ℕ) (some : 1 ≤ count) (none : names (nat_le count) template ≡ false) where
  abbrev first : Groups → Groups
  first match = first_groups count match

  one-span : (match : Groups) → whole (first match) ≡ whole match
  one-span match = whole-first count match some

  one-text : (match : Groups) → expand content (first match) template ≡ expand content match template
  one-text match = expand-first content match count template none

  same-text : (at : ℕ) (matches : List Groups) → replaced content template at (map first matches) ≡ replaced content template at matches
  same-text at [] = refl
  same-text at (m ∷ ms) =
      ap₂ (λ (w : ℕ × ℕ) told. (between content at w.0 ++ told) ++ replaced content template w.1 (map first ms)) (one-span m) (one-text m)
      ∙ ap (λ rest. (between content at (whole m).0 ++ expand content m template) ++ rest) (same-text (whole m).1 ms)

  abbrev change : ℕ → ℕ → ℕ × ℕ → List ℕ → Change
  change at at_new w told = record { old_end = w.1; new_start = at_new + (w.0 - at); new_end = at_new + (w.0 - at) + byte_len told }

  same-changes : (at at_new : ℕ) (matches : List Groups) → changes_of content template at at_new (map first matches) ≡ changes_of content template at at_new matches
  same-changes at at_new [] = refl
  same-changes at at_new (m ∷ ms) =
      ap₂ (λ (w : ℕ × ℕ) told. change at at_new w told ∷ changes_of content template w.1 (at_new + (w.0 - at) + byte_len told) (map first ms)) (one-span m) (one-text m)
      ∙ ap (λ rest. change at at_new (whole m) (expand content m template) ∷ rest) (same-changes (whole m).1 (at_new + ((whole m).0 - at) + byte_len (expand content m template)) ms)

  same-lines : (matches : List Groups) → searched content template (map first matches) ≡ searched content template matches
  same-lines [] = refl
  same-lines (m ∷ ms) =
      sum_by-cons lines (first m) (map first ms)
      ∙ ap₂ (λ told rest. line_count told + rest) (one-text m) (same-lines ms)
      ∙ sym (sum_by-cons lines m ms)
    where
      lines : Groups → ℕ
      lines match = line_count (expand content match template)

pub first-enough : FirstGroupsAreEnough
first-enough content template count matches needs = record {
  text = same-text content template count needs.some needs.none_further 0 matches;
  changes = same-changes content template count needs.some needs.none_further 0 0 matches;
  lines = same-lines content template count needs.some needs.none_further matches;
}

-- ---- the groups that a template names

-- pieces read so far need this number of groups of a template, the rest of which is this
pub record NeedsSoFar (template left : List ℕ) (count : ℕ) : Type 0 where
  pub some : 1 ≤ count
  pub few : count ≤ 10
  pub further : (n : ℕ) → count ≤ n → names (nat_le n) template ≡ names (nat_le n) left
  pub last : 1 < count → names (nat_le (count - 1)) template ≡ true

pub needs-none : (template : List ℕ) → NeedsSoFar template template 1
needs-none template = record { some = omega arith; few = omega arith; further = λ n low. refl; last = λ more. absurd (omega (arith, more)) }

pub needs-all : (template : List ℕ) (count : ℕ) → NeedsSoFar template [] count → NeedsGroups template count
needs-all template count so = record {
  some = so.some;
  few = so.few;
  none_further = so.further count (omega arith);
  last = so.last;
}

pub needs-more : (template left behind : List ℕ) (count count' : ℕ) (piece : Piece) → IsFirstPiece left piece behind → count' ≤ 10
    → ((n : ℕ) → count' ≤ n → is_group (nat_le n) piece ≡ false) → (0 < count' → is_group (nat_le (count' - 1)) piece ≡ true)
    → NeedsSoFar template left count → NeedsSoFar template behind (max count count')
needs-more template left behind count count' piece first few none last so = elim (cases_lt count count') [
  | inl more ↦
      let is : max count count' ≡ count' = omega (arith, more) in
      subst (NeedsSoFar template behind) (sym is)
      (record {
        some = omega (arith, more);
        few = few;
        further = λ n low. passes n (omega (arith, more, low)) (none n low);
        last = λ _.
            let named : names (nat_le (count' - 1)) left ≡ true = first.names_it (nat_le (count' - 1)) ∙ ap (λ b. b || names (nat_le (count' - 1)) behind) (last (omega (arith, more))) in
            so.further (count' - 1) (omega (arith, more)) ∙ named;
      })
  | inr no_more ↦
      let is : max count count' ≡ count = omega (arith, no_more) in
      subst (NeedsSoFar template behind) (sym is)
      (record {
        some = so.some;
        few = so.few;
        further = λ n low. passes n low (none n (omega (arith, no_more, low)));
        last = so.last;
      })
]
  where
    passes : (n : ℕ) → count ≤ n → is_group (nat_le n) piece ≡ false → names (nat_le n) template ≡ names (nat_le n) behind
    passes n low no_group = so.further n low ∙ first.names_it (nat_le n) ∙ ap (λ b. b || names (nat_le n) behind) no_group

pub max-is : (a b : ℕ) → ord_max nat_cmp a b ≡ max a b
max-is a b = grind (arith, nat_tests)
