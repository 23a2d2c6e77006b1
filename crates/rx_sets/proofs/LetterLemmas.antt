-- The sets of letter classes.
use Rattle.std.proofs.Common.{◌≡◌, ℕ, ◌≤◌, ◌↔◌, Bool, true, false, not, IsTrue, IfOk, Result, Ok, Err, List, [], ◌∷◌, refl, sym, subst, ◌∙◌, arith, inl, inr, true≢false}
use Rattle.std.proofs.lemmas.Bool.{or_cases, or_left, or_right, and_parts, and_from, leb-true, le-leb}
use Rattle.unicode.specs.Rows as rows
use Rattle.rx_sets.specs.declared.items.ClassPerlKind.{ClassPerlKind}
use Rattle.rx_sets.specs.Sets.{Range, IsScalar, in_ranges, Holds, IsCanonical, IsSetOf, HasExactly, FoldsInto, in_kind, InPerl}
use Rattle.rx_sets.specs.Unions.{OneOf, Adds, Between}
use Rattle.rx_sets.proofs.UnionLemmas.{IsSetOf-added, IsSetOf-complement, IsSetOf-closed, IsSetOf-map}

some_row : (codes : List Range) (c : ℕ) → OneOf (λ (r : Range). Between r.0 r.1 c) codes → rows.in_ranges codes c ≡ true
unfolding rows.in_ranges
some_row [] c h = absurd h
some_row (r ∷ codes) c (inl h) = or_left _ _ (and_from _ _ (le-leb _ _ h.0) (le-leb _ _ h.1))
some_row (r ∷ codes) c (inr h) = or_right _ _ (some_row codes c h)

row_of : (codes : List Range) (c : ℕ) → rows.in_ranges codes c ≡ true → OneOf (λ (r : Range). Between r.0 r.1 c) codes
unfolding rows.in_ranges
row_of [] c h = absurd (true≢false (sym h))
row_of (r ∷ codes) c h = elim (or_cases _ _ h) [
  | inl here ↦ (let tests = and_parts _ _ here in inl (leb-true _ _ tests.0, leb-true _ _ tests.1))
  | inr later ↦ inr (row_of codes c later)
]

-- a code point lies in one of the ranges of a table
pub one_of_rows : (codes : List Range) (c : ℕ) → IsScalar c → OneOf (λ (r : Range). Between r.0 r.1 c) codes ↔ IsTrue (rows.in_ranges codes c)
one_of_rows codes c scalar = (some_row codes c, row_of codes c)

pub IfOk-added : {E : Type 0} (r : Result (List Range) E) (ranges : List Range) (P : ℕ → Type 0) → IfOk r IsCanonical
    → IfOk r (λ set. HasExactly set (in_ranges ranges)) → Adds [] ranges P → IfOk r (λ set. IsSetOf set P)
IfOk-added (Ok set) ranges P canonical has adds = IsSetOf-added ranges set P canonical has adds
IfOk-added (Err e) ranges P canonical has adds = tt

pub IfOk-complement : {E : Type 0} (r : Result (List Range) E) (set : List Range) (P : ℕ → Type 0) → IfOk r IsCanonical
    → IfOk r (λ others. HasExactly others (λ n. not (in_ranges set n))) → IsSetOf set P → IfOk r (λ others. IsSetOf others (λ c. ¬ P c))
IfOk-complement (Ok others) set P canonical has is = IsSetOf-complement set others P canonical has is
IfOk-complement (Err e) set P canonical has is = tt

pub IfOk-closed : {E : Type 0} (r : Result (List Range) E) (set : List Range) (P : ℕ → Type 0) → IfOk r IsCanonical
    → IfOk r (λ closed. (c : ℕ) → IsScalar c → Holds closed c ↔ FoldsInto (Holds set) c) → IsSetOf set P → IfOk r (λ closed. IsSetOf closed (FoldsInto P))
IfOk-closed (Ok closed) set P canonical has is = IsSetOf-closed set closed P canonical has is
IfOk-closed (Err e) set P canonical has is = tt

pub IfOk-same : {E : Type 0} (r : Result (List Range) E) (P Q : ℕ → Type 0) → ((c : ℕ) → IsScalar c → P c ↔ Q c) → IfOk r (λ set. IsSetOf set P) → IfOk r (λ set. IsSetOf set Q)
IfOk-same (Ok set) P Q iff is = IsSetOf-map set P Q iff is
IfOk-same (Err e) P Q iff is = tt

scalar_within : (c : ℕ) → IsScalar c → c ≤ 0x10_FFFF
scalar_within c (inl low) = omega arith
scalar_within c (inr high) = high.1

-- a table's code points are the kind's
pub rows_name : (kind : ClassPerlKind) (codes : List Range) → rows.HasExactly codes (in_kind kind) → (c : ℕ) → IsScalar c
    → IsTrue (rows.in_ranges codes c) ↔ IsTrue (in_kind kind c)
rows_name kind codes has c scalar =
    let is : rows.in_ranges codes c ≡ in_kind kind c = has c (scalar_within c scalar) in
    (λ h. sym is ∙ h, λ h. is ∙ h)

-- what a capital letter names is what the small one doesn't
pub not_named : (kind : ClassPerlKind) (c : ℕ) → IsScalar c → (¬ IsTrue (in_kind kind c)) ↔ InPerl kind true c
not_named kind c scalar = from_bool (in_kind kind c)
  where
    from_bool : (b : Bool) → (¬ IsTrue b) ↔ IsTrue (not b)
    from_bool b = elim b as (λ v. (¬ IsTrue v) ↔ IsTrue (not v)) [
      | true ↦ (λ no. absurd (no refl), λ h e. true≢false (sym h))
      | false ↦ (λ no. refl, λ h e. true≢false (sym e))
    ]

-- one character
pub just_one : (c d : ℕ) → Between c c d ↔ (d ≡ c)
just_one c d = (λ h. both h.0 h.1, λ e. (omega arith, omega arith))
  where
    both : c ≤ d → d ≤ c → d ≡ c
    both up down = omega arith

-- what is seen as a set is one too
pub IsSetOf-along : (set other : List Range) (P : ℕ → Type 0) → other ≡ set → IsSetOf set P → IsSetOf other P
IsSetOf-along set other P same is = subst (λ (s : List Range). IsSetOf s P) (sym same) is

-- what is equal to a list is what the list is
pub IfOk-along : {T E : Type 0} (r : Result T E) (view : T → List Range) (others : List Range) (Q : List Range → Type 0) → Q others → IfOk r (λ x. view x ≡ others)
    → IfOk r (λ x. Q (view x))
IfOk-along (Ok x) view others Q is same = subst Q (sym same) is
IfOk-along (Err e) view others Q is same = tt

pub IfOk-changed : {T E : Type 0} (r : Result T E) (view : T → List Range) (P Q : ℕ → Type 0) → ((c : ℕ) → IsScalar c → P c ↔ Q c) → IfOk r (λ x. IsSetOf (view x) P) → IfOk r (λ x. IsSetOf (view x) Q)
IfOk-changed (Ok x) view P Q iff is = IsSetOf-map (view x) P Q iff is
IfOk-changed (Err e) view P Q iff is = tt
