-- The expansion of a template, piece by piece.
use Rattle.std.proofs.Common.{◌≡◌, ℕ, zero, suc, ◌-◌, ◌≤◌, ◌==◌, ◌&&◌, ◌||◌, Bool, true, false, List, [], ◌∷◌, ◌++◌, Option, Some, None, is_some, SomeIff, IfSome, nat_le, nat_lt, refl, ap, ap₂, sym, ◌∙◌, arith, inl, inr}
use Rattle.std.proofs.lemmas.Bool.{cases_Bool}
use Rattle.std.proofs.lemmas.Bool.Decides.{nat_tests}
use Rattle.std.proofs.lemmas.Str.{chars-nil}
use Rattle.std.specs.Bool.{then_some}
use Rattle.std.specs.Str.{NonePass}
use Rattle.str_indices.specs.Text.{byte_len}
use Rattle.rope_search_changes.specs.Replacement.{Groups, alone, whole, HasSpansIn, expand, group_text, is_digit}
use Rattle.rope_search_templates.specs.Templates.{IsSame, names, names_explicit_groups, names_groups}
use Rattle.rope_search_templates.specs.Pieces.{StartsPlain}

-- the test that a character is a dollar
abbrev pub is_dollar : ℕ → Bool
is_dollar c = c == 36

-- ---- characters that are copied

expand-other : (content : List ℕ) (groups : Groups) (c : ℕ) (cs : List ℕ) → is_dollar c ≡ false
    → expand content groups (c ∷ cs) ≡ c ∷ expand content groups cs
expand-other content groups c [] other = refl
expand-other content groups c (d ∷ ds) other = rw other refl

pub expand-plain : (content : List ℕ) (groups : Groups) (xs ys : List ℕ) → NonePass is_dollar xs
    → expand content groups (xs ++ ys) ≡ xs ++ expand content groups ys
expand-plain content groups [] ys none = refl
expand-plain content groups (x ∷ xs) ys none =
    expand-other content groups x (xs ++ ys) none.0
    ∙ ap (λ zs. x ∷ zs) (expand-plain content groups xs ys none.1)

pub expand-lone : (content : List ℕ) (groups : Groups) (cs : List ℕ) → StartsPlain cs
    → expand content groups (36 ∷ cs) ≡ 36 ∷ expand content groups cs
expand-lone content groups [] plain = refl
expand-lone content groups (c ∷ cs) plain = rw (plain.0, plain.1) refl

pub expand-group : (content : List ℕ) (groups : Groups) (d : ℕ) (cs : List ℕ) → 48 ≤ d → d ≤ 57
    → expand content groups (36 ∷ d ∷ cs) ≡ group_text content groups (d - 48) ++ expand content groups cs
expand-group content groups d cs low high =
    let other : is_dollar d ≡ false = grind (arith, nat_tests) in
    let digit : is_digit d ≡ true = grind (arith, nat_tests) in
    rw (other, digit) refl

-- ---- and whether groups are named

names-other : (test : ℕ → Bool) (c : ℕ) (cs : List ℕ) → is_dollar c ≡ false → names test (c ∷ cs) ≡ names test cs
names-other test c [] other = refl
names-other test c (d ∷ ds) other = rw other refl

pub names-plain : (test : ℕ → Bool) (xs ys : List ℕ) → NonePass is_dollar xs → names test (xs ++ ys) ≡ names test ys
names-plain test [] ys none = refl
names-plain test (x ∷ xs) ys none = names-other test x (xs ++ ys) none.0 ∙ names-plain test xs ys none.1

pub names-lone : (test : ℕ → Bool) (cs : List ℕ) → StartsPlain cs → names test (36 ∷ cs) ≡ names test cs
names-lone test [] plain = refl
names-lone test (c ∷ cs) plain = rw (plain.0, plain.1) refl

pub names-group : (test : ℕ → Bool) (d : ℕ) (cs : List ℕ) → 48 ≤ d → d ≤ 57 → names test (36 ∷ d ∷ cs) ≡ (test (d - 48) || names test cs)
names-group test d cs low high =
    let other : is_dollar d ≡ false = grind (arith, nat_tests) in
    let digit : is_digit d ≡ true = grind (arith, nat_tests) in
    rw (other, digit) refl

-- if none is named, it is one text
pub expand-fixed : (content : List ℕ) (groups : Groups) (template : List ℕ) → names_groups template ≡ false
    → expand content groups template ≡ expand [] [] template
expand-fixed content groups [] none = refl
expand-fixed content groups (c ∷ []) none = refl
expand-fixed content groups (c ∷ d ∷ rest) none = elim (cases_Bool ((c == 36) && (d == 36))) [
  | inl pair ↦ rw pair (ap (λ cs. 36 ∷ cs) (expand-fixed content groups rest (rw pair at none)))
  | inr other ↦ elim (cases_Bool ((c == 36) && is_digit d)) [
    | inl named ↦ let is : true ≡ false = rw (other, named) at none in absurd (cc)
    | inr more ↦ rw (other, more) (ap (λ cs. c ∷ cs) (expand-fixed content groups (d ∷ rest) (rw (other, more) at none)))
  ]
]

-- if only the whole match is named, the match's span is sufficient
whole-told : (content : List ℕ) (groups : Groups) (number : ℕ) → number ≡ 0 → group_text content (alone (whole groups)) number ≡ group_text content groups number
whole-told content [] zero first = chars-nil
whole-told content (None ∷ others) zero first = chars-nil
whole-told content (Some span ∷ others) zero first = refl
whole-told content groups (suc number) first = absurd (omega (arith, first))

pub expand-alone : (content : List ℕ) (groups : Groups) (template : List ℕ) → names_explicit_groups template ≡ false
    → expand content (alone (whole groups)) template ≡ expand content groups template
expand-alone content groups [] none = refl
expand-alone content groups (c ∷ []) none = refl
expand-alone content groups (c ∷ d ∷ rest) none = elim (cases_Bool ((c == 36) && (d == 36))) [
  | inl pair ↦ rw pair (ap (λ cs. 36 ∷ cs) (expand-alone content groups rest (rw pair at none)))
  | inr other ↦ elim (cases_Bool ((c == 36) && is_digit d)) [
    | inl named ↦
        let neither : (nat_lt 0 (d - 48) || names_explicit_groups rest) ≡ false = rw (other, named) at none in
        let first : d - 48 ≡ 0 = grind (arith, nat_tests, or-left (nat_lt 0 (d - 48)) (names_explicit_groups rest) neither) in
        rw (other, named) (ap₂ (λ told behind. told ++ behind) (whole-told content groups (d - 48) first) (expand-alone content groups rest (or-right (nat_lt 0 (d - 48)) (names_explicit_groups rest) neither)))
    | inr more ↦ rw (other, more) (ap (λ cs. c ∷ cs) (expand-alone content groups (d ∷ rest) (rw (other, more) at none)))
  ]
]
  where
    or-left : (a b : Bool) → (a || b) ≡ false → a ≡ false
    or-left false b is = refl
    or-left true b is = absurd (cc)

    or-right : (a b : Bool) → (a || b) ≡ false → b ≡ false
    or-right false b is = is
    or-right true b is = absurd (cc)

-- ---- a template with one expansion

-- in the empty text an empty match has its span
pub nothing-spans : HasSpansIn [] (alone (0, 0))
nothing-spans zero d low = record {
  ordered = omega arith;
  starts = (omega arith, λ inside. absurd (omega arith));
  stops = (omega arith, λ inside. absurd (omega arith));
}
nothing-spans (suc k) d low = absurd (omega arith)

-- what is known of its length
pub same-some : (template : List ℕ) (len : Option ℕ) → is_some len ≡ true → IfSome len (IsSame template) → names_groups template ≡ false
same-some template (Some n) some same = same.names_none
same-some template None some same = absurd (cc)

pub same-told : (template : List ℕ) (len : Option ℕ) (P : Type 0) → names_groups template ≡ false
    → SomeIff len P (byte_len (expand [] (alone (0, 0)) template)) → IfSome len (IsSame template)
same-told template None P none told = tt
same-told template (Some n) P none told = record {
  names_none = none;
  len_is = sym (told.1 ∙ ap byte_len (expand-fixed [] (alone (0, 0)) template none));
}

-- a length, if it is within a limit
pub then-within : (len limit n : ℕ) → n ≡ len → SomeIff (then_some (nat_le len limit) len) (n ≤ limit) n
then-within len limit n is = elim (cases_Bool (nat_le len limit)) [
  | inl low ↦ rw low (omega (arith, is, le-told len limit low), sym is)
  | inr high ↦ rw high (λ low. absurd (lt-told len limit high (omega (arith, is, low))))
]
  where
    le-told : (a b : ℕ) → nat_le a b ≡ true → a ≤ b
    le-told a b is = grind (arith, nat_tests, is)

    lt-told : (a b : ℕ) → nat_le a b ≡ false → a ≤ b → ⊥
    lt-told a b is low = grind (arith, nat_tests, is, low)
