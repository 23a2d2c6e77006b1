-- Lists of lists, of which one is changed.
use Rattle.std.proofs.Common.{◌≡◌, ℕ, zero, suc, ◌+◌, ◌-◌, ◌<◌, ◌≤◌, ◌⊎◌, Bool, true, false, ◌&&◌, ◌||◌, cond, nat_le, nat_lt, List, [], ◌∷◌, ◌++◌, length, get_or, set, drop, take, refl, sym, ap, subst, ◌∙◌, arith, inl, inr}
use Rattle.std.specs.Prelude.{Vec, ◌==◌}
use Rattle.std.specs.List.{list_any}
use Rattle.std.proofs.lemmas.Bool.Decides.{nat_tests}
use Rattle.std.proofs.lemmas.List.{append-nil}
use Rattle.rx_walks.specs.Reversed.{has}
use Rattle.rx_utf8.specs.Blocks.{Extends}
use Rattle.rx_utf8.specs.Subsets.{lists_of, in_some}
use Rattle.rx_utf8.proofs.RowLaws.{equal_or_not}

apart : {a : ℕ} → (a < a) ⊎ (a < a) → ⊥
apart (inl h) = absurd (omega (arith, h))
apart (inr h) = absurd (omega (arith, h))

one_less : (a b : ℕ) → (suc a < suc b) ⊎ (suc b < suc a) → (a < b) ⊎ (b < a)
one_less a b (inl h) = inl (omega (arith, h))
one_less a b (inr h) = inr (omega (arith, h))

pub length_lists : {A Z : Type 0} (lists : List (Vec A Z)) → length (lists_of lists) ≡ length lists
length_lists [] = refl
length_lists (x ∷ lists) = omega (arith, length_lists lists)

pub list_at : {A Z : Type 0} (lists : List (Vec A Z)) (i : ℕ) (d : Vec A Z) → i < length lists → get_or (lists_of lists) i [] ≡ (get_or lists i d).items
list_at [] i d within = absurd (omega (arith, within))
list_at (x ∷ lists) zero d within = refl
list_at (x ∷ lists) (suc i) d within = list_at lists i d (omega (arith, within))

pub set_here : {A Z : Type 0} (lists : List (Vec A Z)) (i : ℕ) (list : Vec A Z) → i < length lists → get_or (lists_of (set lists i list)) i [] ≡ list.items
set_here [] i list within = absurd (omega (arith, within))
set_here (x ∷ lists) zero list within = refl
set_here (x ∷ lists) (suc i) list within = set_here lists i list (omega (arith, within))

pub set_there : {A Z : Type 0} (lists : List (Vec A Z)) (i b : ℕ) (list : Vec A Z) → (b < i) ⊎ (i < b) → get_or (lists_of (set lists i list)) b [] ≡ get_or (lists_of lists) b []
set_there [] i b list other = refl
set_there (x ∷ lists) zero zero list other = absurd (apart other)
set_there (x ∷ lists) zero (suc b) list other = refl
set_there (x ∷ lists) (suc i) zero list other = refl
set_there (x ∷ lists) (suc i) (suc b) list other = set_there lists i b list (one_less b i other)

-- one more state in the list of one more byte
abbrev filled_to : List (List ℕ) → ℕ → ℕ → ℕ → ℕ → List ℕ
filled_to base source first to b = get_or base b [] ++ cond (nat_le first b && nat_lt b to) (source ∷ []) []

none_yet : (first byte : ℕ) → (nat_le first byte && nat_lt byte byte) ≡ false
none_yet first byte = grind (arith, nat_tests)

now_one : (first byte : ℕ) → first ≤ byte → (nat_le first byte && nat_lt byte (byte + 1)) ≡ true
now_one first byte from = grind (arith, nat_tests)

as_before : (first byte b : ℕ) → (b < byte) ⊎ (byte < b) → (nat_le first b && nat_lt b byte) ≡ (nat_le first b && nat_lt b (byte + 1))
as_before first byte b (inl h) = grind (arith, nat_tests)
as_before first byte b (inr h) = grind (arith, nat_tests)

pub one_filled : {Z : Type 0} (first byte source : ℕ) → first ≤ byte → (lists : List (Vec ℕ Z)) (base : List (List ℕ)) (old new : Vec ℕ Z) → byte < length lists → old ≡ get_or lists byte old
    → new.items ≡ old.items ++ source ∷ [] → ((b : ℕ) → get_or (lists_of lists) b [] ≡ filled_to base source first byte b)
    → (b : ℕ) → get_or (lists_of (set lists byte new)) b [] ≡ filled_to base source first (byte + 1) b
one_filled {Z = Z} first byte source from lists base old new within is pushed so_far b = by_place (equal_or_not b byte)
  where
    at : get_or (lists_of lists) byte [] ≡ old.items
    at = list_at lists byte old within ∙ ap (λ (x : Vec ℕ Z). x.items) (sym is)

    there : get_or (lists_of (set lists byte new)) byte [] ≡ filled_to base source first (byte + 1) byte
    there = set_here lists byte new within ∙ pushed
        ∙ ap (λ xs. xs ++ source ∷ []) (sym at ∙ so_far byte ∙ ap (λ t. get_or base byte [] ++ cond t (source ∷ []) []) (none_yet first byte) ∙ append-nil (get_or base byte []))
        ∙ ap (λ t. get_or base byte [] ++ cond t (source ∷ []) []) (sym (now_one first byte from))

    by_place : (b ≡ byte) ⊎ ((b < byte) ⊎ (byte < b)) → get_or (lists_of (set lists byte new)) b [] ≡ filled_to base source first (byte + 1) b
    by_place (inl e) = subst (λ x. get_or (lists_of (set lists byte new)) x [] ≡ filled_to base source first (byte + 1) x) (sym e) there
    by_place (inr other) = set_there lists byte b new other ∙ so_far b ∙ ap (λ t. get_or base b [] ++ cond t (source ∷ []) []) (as_before first byte b other)

-- all bytes of a range are done
bound : (first last byte : ℕ) → first ≤ byte → last + 1 ≤ byte → (first ≤ last + 1 → byte ≤ last + 1) → (last < first → byte ≤ first) → (byte ≡ last + 1) ⊎ ((byte ≡ first) × (last < first))
bound first last byte from past end none = by_order (order last first)
  where
    order : (a b : ℕ) → (a < b) ⊎ (b ≤ a)
    order a b = grind arith

    by_order : (last < first) ⊎ (first ≤ last) → (byte ≡ last + 1) ⊎ ((byte ≡ first) × (last < first))
    by_order (inl h) = inr (omega (arith, none h, from), h)
    by_order (inr h) = inl (omega (arith, end (omega (arith, h)), past))

pub all_passed : (first last byte b : ℕ) → first ≤ byte → last + 1 ≤ byte → (first ≤ last + 1 → byte ≤ last + 1) → (last < first → byte ≤ first)
    → (nat_le first b && nat_lt b byte) ≡ (nat_le first b && nat_le b last)
all_passed first last byte b from past end none = by_bound (bound first last byte from past end none)
  where
    by_bound : (byte ≡ last + 1) ⊎ ((byte ≡ first) × (last < first)) → (nat_le first b && nat_lt b byte) ≡ (nat_le first b && nat_le b last)
    by_bound (inl e) = grind (arith, nat_tests)
    by_bound (inr e) = let less = e.1 in let same = e.0 in grind (arith, nat_tests)

-- the sets of some states
or_left : (a b : Bool) → a ≡ true → (a || b) ≡ true
or_left true b e = refl
or_left false b e = absurd (cc e)

or_right : (a b : Bool) → b ≡ true → (a || b) ≡ true
or_right true b e = refl
or_right false b e = e

or_none : (a : Bool) → (a || false) ≡ a
or_none true = refl
or_none false = refl

one_set : {Z : Type 0} (sets : List (Vec ℕ Z)) (t s : ℕ) → t < length sets → in_some (lists_of (take 1 (drop t sets))) s ≡ has (get_or (lists_of sets) t []) s
one_set [] t s within = absurd (omega (arith, within))
one_set (x ∷ sets) zero s within = or_none (has x.items s)
one_set (x ∷ sets) (suc t) s within = one_set sets t s (omega (arith, within))

pub one_of_sets : {Z : Type 0} (sets : List (Vec ℕ Z)) (t s : ℕ) → t < length sets → in_some (lists_of (take (t + 1 - t) (drop t sets))) s ≡ has (get_or (lists_of sets) t []) s
one_of_sets {Z = Z} sets t s within = let one : t + 1 - t ≡ 1 = omega arith in ap (λ k. in_some (lists_of (take k (drop t sets))) s) one ∙ one_set sets t s within

some_set : {Z : Type 0} (sets : List (Vec ℕ Z)) (k i s : ℕ) → i < k → i < length sets → has (get_or (lists_of sets) i []) s ≡ true → in_some (lists_of (take k sets)) s ≡ true
some_set [] k i s below within is = absurd (omega (arith, within))
some_set (x ∷ sets) zero i s below within is = absurd (omega (arith, below))
some_set (x ∷ sets) (suc k) zero s below within is = or_left (has x.items s) _ is
some_set (x ∷ sets) (suc k) (suc i) s below within is = or_right (has x.items s) _ (some_set sets k i s (omega (arith, below)) (omega (arith, within)) is)

pub some_of_sets : {Z : Type 0} (sets : List (Vec ℕ Z)) (from to t s : ℕ) → from ≤ t → t < to → t < length sets → has (get_or (lists_of sets) t []) s ≡ true
    → in_some (lists_of (take (to - from) (drop from sets))) s ≡ true
some_of_sets [] from to t s low high within is = absurd (omega (arith, within))
some_of_sets {Z = Z} (x ∷ sets) zero to t s low high within is = let all : to - 0 ≡ to = omega arith in
    ap (λ k. in_some (lists_of (take k (x ∷ sets))) s) all ∙ some_set (x ∷ sets) to t s high within is
some_of_sets (x ∷ sets) (suc from) to zero s low high within is = absurd (omega (arith, low))
some_of_sets {Z = Z} (x ∷ sets) (suc from) zero (suc t) s low high within is = absurd (omega (arith, high))
some_of_sets {Z = Z} (x ∷ sets) (suc from) (suc to) (suc t) s low high within is =
    let less : suc to - suc from ≡ to - from = omega arith in
    ap (λ k. in_some (lists_of (take k (drop from sets))) s) less ∙ some_of_sets sets from to t s (omega (arith, low)) (omega (arith, high)) (omega (arith, within)) is

-- lists that are kept
pub kept_on : {A : Type 0} (xs ys zs : List (List A)) → Extends xs ys → Extends ys zs → Extends xs zs
kept_on xs ys zs one two = (omega (arith, one.0, two.0), λ s below. two.1 s (omega (arith, below, one.0)) ∙ one.1 s below)

left_at : {A : Type 0} (xs ys : List (List A)) (s : ℕ) → s < length xs → get_or (xs ++ ys) s [] ≡ get_or xs s []
left_at [] ys s below = absurd (omega (arith, below))
left_at (x ∷ xs) ys zero below = refl
left_at (x ∷ xs) ys (suc s) below = left_at xs ys s (omega (arith, below))

left_length : {A : Type 0} (xs ys : List (List A)) → length xs ≤ length (xs ++ ys)
left_length [] ys = omega arith
left_length (x ∷ xs) ys = omega (arith, left_length xs ys)

pub kept_append : {A : Type 0} (xs ys : List (List A)) → Extends xs (xs ++ ys)
kept_append xs ys = (left_length xs ys, λ s below. left_at xs ys s below)

pub end_at : {A : Type 0} (xs : List (List A)) (x : List A) → get_or (xs ++ x ∷ []) (length xs) [] ≡ x
end_at [] x = refl
end_at (y ∷ xs) x = end_at xs x

pub end_length : {A : Type 0} (xs : List (List A)) (x : List A) → length (xs ++ x ∷ []) ≡ length xs + 1
end_length [] x = refl
end_length (y ∷ xs) x = omega (arith, end_length xs x)

pub lists_append : {A Z : Type 0} (xs ys : List (Vec A Z)) → lists_of (xs ++ ys) ≡ lists_of xs ++ lists_of ys
lists_append [] ys = refl
lists_append (x ∷ xs) ys = ap (λ zs. x.items ∷ zs) (lists_append xs ys)

pub known_at : {Z : Type 0} (sets list : List (Vec ℕ Z)) (t : ℕ) (known : Vec ℕ Z) (items : List ℕ) → list ≡ sets → t < length list → known ≡ get_or list t known → items ≡ known.items → get_or (lists_of sets) t [] ≡ items
known_at {Z = Z} sets list t known items same within at is =
    list_at sets t known (omega (arith, within, ap length same)) ∙ ap (λ (x : Vec ℕ Z). x.items) (ap (λ xs. get_or xs t known) (sym same) ∙ sym at) ∙ sym is

pub any_has : (xs : List ℕ) (q : ℕ) → list_any (λ y. y == q) xs ≡ has xs q
any_has [] q = refl
any_has (x ∷ xs) q = ap (λ z. (x == q) || z) (any_has xs q)
