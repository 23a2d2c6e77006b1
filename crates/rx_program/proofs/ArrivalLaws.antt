-- Lists to which numbers are appended, and f of each item of a list.
use Rattle.std.proofs.Common.{◌≡◌, ℕ, zero, suc, ◌+◌, ◌-◌, ◌<◌, ◌⊎◌, Bool, true, false, ◌||◌, ◌==◌, cond, is_some, List, [], ◌∷◌, ◌++◌, length, map, take, set, get_or, slice_get, Option, Some, None, Vec, refl, sym, ap, ap₂, ◌∙◌, arith, length-append, inl, inr}
use Rattle.std.proofs.lemmas.Bool.{eq-eqb, cases_eq}
use Rattle.std.proofs.lemmas.Bool.Decides.{nat_tests}
use Rattle.std.proofs.lemmas.List.{append-nil, append_assoc, take_more, get_or-map, length-map}
use Rattle.rx_walks.specs.Programs.{Node, match, pass, note, look, set as reads_set}
use Rattle.rx_walks.specs.Reversed.{indexed, those, has, is_match}
use Rattle.rx_utf8.specs.Subsets.{lists_of}
use Rattle.rx_program.specs.Arrivals.{is_number, ends_with, with_last, PutsNumber, AreLists, match_in, unions}

-- ---- a number at the end of a list

abbrev pub AllBelow : List ℕ → ℕ → Type 0
AllBelow xs n = (d y : ℕ) → slice_get xs d ≡ Some y → y < n

differ : (x n : ℕ) → x < n → (x == n) ≡ false
differ x n less = grind (arith, nat_tests)

put_fresh : (xs : List ℕ) (n : ℕ) → AllBelow xs n → with_last xs n ≡ xs ++ n ∷ []
put_fresh xs n below = ap (λ b. cond b xs (xs ++ n ∷ [])) (by_last (slice_get xs (length xs - 1)) refl)
  where
    by_last : (o : Option ℕ) → slice_get xs (length xs - 1) ≡ o → is_number o n ≡ false
    by_last None is = refl
    by_last (Some x) is = differ x n (below (length xs - 1) x is)

at_last : (xs : List ℕ) (n : ℕ) → slice_get (xs ++ n ∷ []) (length xs) ≡ Some n
at_last [] n = refl
at_last (x ∷ xs) n = at_last xs n

ends_so : (xs : List ℕ) (n : ℕ) → ends_with (xs ++ n ∷ []) n ≡ true
ends_so xs n =
    let place : length (xs ++ n ∷ []) - 1 ≡ length xs = omega (arith, length-append xs (n ∷ [])) in
    ap (λ k. is_number (slice_get (xs ++ n ∷ []) k) n) place ∙ ap (λ o. is_number o n) (at_last xs n) ∙ eq-eqb n n refl

put_twice : (xs : List ℕ) (n : ℕ) → with_last (with_last xs n) n ≡ with_last xs n
put_twice xs n = by_end (ends_with xs n) refl
  where
    by_end : (b : Bool) → ends_with xs n ≡ b → with_last (cond b xs (xs ++ n ∷ [])) n ≡ cond b xs (xs ++ n ∷ [])
    by_end true is = ap (λ b. cond b xs (xs ++ n ∷ [])) is
    by_end false is = ap (λ b. cond b (xs ++ n ∷ []) ((xs ++ n ∷ []) ++ n ∷ [])) (ends_so xs n)

-- ---- lists to which it is appended

pub puts_same : {n : ℕ} {lists lists' : List (List ℕ)} (test test' : ℕ → Bool) → ((q : ℕ) → test q ≡ test' q) → PutsNumber n test lists lists' → PutsNumber n test' lists lists'
puts_same {n = n} {lists = lists} test test' same puts = record {
  len = puts.len;
  each = λ q below. puts.each q below ∙ ap (λ b. cond b (with_last (get_or lists q []) n) (get_or lists q [])) (same q);
}

pub puts_both : {n : ℕ} {lists lists' lists'' : List (List ℕ)} (test other : ℕ → Bool) → PutsNumber n test lists lists' → PutsNumber n other lists' lists'' → PutsNumber n (λ q. test q || other q) lists lists''
puts_both {n = n} {lists = lists} test other one two = record {
  len = two.len ∙ one.len;
  each = λ q below. two.each q (omega (arith, below, one.len)) ∙ ap (λ xs. cond (other q) (with_last xs n) xs) (one.each q below) ∙ by_tests (test q) (other q) (get_or lists q []);
}
  where
    by_tests : (x y : Bool) (xs : List ℕ) → cond y (with_last (cond x (with_last xs n) xs) n) (cond x (with_last xs n) xs) ≡ cond (x || y) (with_last xs n) xs
    by_tests true true xs = put_twice xs n
    by_tests true false xs = refl
    by_tests false y xs = refl

length_set : {Z : Type 0} (lists : List (Vec ℕ Z)) (at : ℕ) (list : Vec ℕ Z) → length (lists_of (set lists at list)) ≡ length (lists_of lists)
length_set [] at list = refl
length_set (x ∷ lists) zero list = refl
length_set (x ∷ lists) (suc at) list = ap suc (length_set lists at list)

list_at : {Z : Type 0} (lists : List (Vec ℕ Z)) (at : ℕ) (d : Vec ℕ Z) → at < length lists → get_or (lists_of lists) at [] ≡ (get_or lists at d).items
list_at [] at d within = absurd (omega (arith, within))
list_at (x ∷ lists) zero d within = refl
list_at (x ∷ lists) (suc at) d within = list_at lists at d (omega (arith, within))

set_here : {Z : Type 0} (lists : List (Vec ℕ Z)) (at : ℕ) (list : Vec ℕ Z) → at < length lists → get_or (lists_of (set lists at list)) at [] ≡ list.items
set_here [] at list within = absurd (omega (arith, within))
set_here (x ∷ lists) zero list within = refl
set_here (x ∷ lists) (suc at) list within = set_here lists at list (omega (arith, within))

set_there : {Z : Type 0} (lists : List (Vec ℕ Z)) (at q : ℕ) (list : Vec ℕ Z) → (at ≡ q → ⊥) → get_or (lists_of (set lists at list)) q [] ≡ get_or (lists_of lists) q []
set_there [] at q list other = refl
set_there (x ∷ lists) zero zero list other = absurd (other refl)
set_there (x ∷ lists) zero (suc q) list other = refl
set_there (x ∷ lists) (suc at) zero list other = refl
set_there (x ∷ lists) (suc at) (suc q) list other = set_there lists at q list (λ e. other (ap suc e))

unequal : (at q : ℕ) → (at ≡ q → ⊥) → (at == q) ≡ false
unequal at q other = grind (arith, nat_tests)

pub put_here : {Z : Type 0} (n at : ℕ) (lists : List (Vec ℕ Z)) (list list' : Vec ℕ Z) → at < length lists → list ≡ get_or lists at list → list'.items ≡ with_last list.items n
    → PutsNumber n (λ q. at == q) (lists_of lists) (lists_of (set lists at list'))
put_here n at lists list list' within is put = record { len = length_set lists at list'; each = λ q below. by_place q (cases_eq at q) }
  where
    by_place : (q : ℕ) → (at ≡ q) ⊎ (at ≡ q → ⊥) → get_or (lists_of (set lists at list')) q [] ≡ cond (at == q) (with_last (get_or (lists_of lists) q []) n) (get_or (lists_of lists) q [])
    by_place q (inr other) = set_there lists at q list' other ∙ ap (λ b. cond b (with_last (get_or (lists_of lists) q []) n) (get_or (lists_of lists) q [])) (sym (unequal at q other))
    by_place q (inl same) =
        let was : list.items ≡ get_or (lists_of lists) at [] = ap (λ x. x.items) is ∙ sym (list_at lists at list within) in
        ap (λ z. get_or (lists_of (set lists at list')) z []) (sym same)
        ∙ set_here lists at list' within ∙ put ∙ ap (λ xs. with_last xs n) (was ∙ ap (λ z. get_or (lists_of lists) z []) same)
        ∙ ap (λ b. cond b (with_last (get_or (lists_of lists) q []) n) (get_or (lists_of lists) q [])) (sym (eq-eqb at q same))

-- ---- numbers of the items that pass a test

those_next : {X : Type 0} (test : X → Bool) (at : ℕ) (xs : List X) (x : X) → those test at (xs ++ x ∷ []) ≡ those test at xs ++ cond (test x) ((at + length xs) ∷ []) []
those_next test at [] x = let place : at ≡ at + 0 = omega arith in ap (λ k. cond (test x) (k ∷ []) []) place
those_next test at (y ∷ xs) x =
    let place : suc at + length xs ≡ at + suc (length xs) = omega arith in
    by_test (those_next test (suc at) xs x ∙ ap (λ k. those test (suc at) xs ++ cond (test x) (k ∷ []) []) place) (test y)
  where
    by_test : those test (suc at) (xs ++ x ∷ []) ≡ those test (suc at) xs ++ cond (test x) ((at + suc (length xs)) ∷ []) []
        → (b : Bool) → cond b (at ∷ those test (suc at) (xs ++ x ∷ [])) (those test (suc at) (xs ++ x ∷ []))
        ≡ cond b (at ∷ those test (suc at) xs) (those test (suc at) xs) ++ cond (test x) ((at + suc (length xs)) ∷ []) []
    by_test on true = ap (λ zs. at ∷ zs) on
    by_test on false = on

pub those_below : {X : Type 0} (test : X → Bool) (at : ℕ) (xs : List X) → AllBelow (those test at xs) (at + length xs)
those_below test at [] d y e = absurd (cc e)
those_below test at (x ∷ xs) d y e = by_test (λ d' e'. omega (arith, those_below test (suc at) xs d' y e')) (test x) d e
  where
    by_test : ((d : ℕ) → slice_get (those test (suc at) xs) d ≡ Some y → y < at + suc (length xs))
        → (b : Bool) (d : ℕ) → slice_get (cond b (at ∷ those test (suc at) xs) (those test (suc at) xs)) d ≡ Some y → y < at + suc (length xs)
    by_test on true zero e = let same : at ≡ y = cc e in omega (arith, same)
    by_test on true (suc d) e = on d e
    by_test on false d e = on d e

below_both : (xs ys : List ℕ) (n : ℕ) → AllBelow xs n → AllBelow ys n → AllBelow (xs ++ ys) n
below_both [] ys n first second d y e = second d y e
below_both (x ∷ xs) ys n first second zero y e = first zero y e
below_both (x ∷ xs) ys n first second (suc d) y e = below_both xs ys n (λ d' y' e'. first (suc d') y' e') second d y e

-- the number of one more item is appended to the lists whose test it passes
pub lists_next : {X : Type 0} (first : ℕ → List ℕ) (test : ℕ → X → Bool) (count at id : ℕ) (xs ys : List X) (x : X) (lists lists' : List (List ℕ)) → ((q : ℕ) → AllBelow (first q) at) → ys ≡ xs ++ x ∷ [] → id ≡ at + length xs
    → AreLists count (λ q. first q ++ those (test q) at xs) lists → PutsNumber id (λ q. test q x) lists lists' → AreLists count (λ q. first q ++ those (test q) at ys) lists'
lists_next first test count at id xs ys x lists lists' before more number are puts = record {
  len = puts.len ∙ are.len;
  each = λ q below.
      puts.each q (omega (arith, below, are.len)) ∙ ap (λ zs. cond (test q x) (with_last zs id) zs) (are.each q below) ∙ by_test q (test q x)
      ∙ ap (λ zs. first q ++ zs) (sym (those_next (test q) at xs x) ∙ ap (those (test q) at) (sym more));
}
  where
    below_id : (q : ℕ) → AllBelow (first q ++ those (test q) at xs) id
    below_id q = below_both (first q) (those (test q) at xs) id (λ d y e. omega (arith, number, before q d y e)) (λ d y e. omega (arith, number, those_below (test q) at xs d y e))

    by_test : (q : ℕ) (b : Bool) → cond b (with_last (first q ++ those (test q) at xs) id) (first q ++ those (test q) at xs) ≡ first q ++ (those (test q) at xs ++ cond b ((at + length xs) ∷ []) [])
    by_test q true = put_fresh (first q ++ those (test q) at xs) id (below_id q) ∙ append_assoc (first q) (those (test q) at xs) (id ∷ []) ∙ ap (λ k. first q ++ (those (test q) at xs ++ k ∷ [])) number
    by_test q false = ap (λ zs. first q ++ zs) (sym (append-nil (those (test q) at xs)))

-- one list of them grows
pub those_more : {X : Type 0} (test : X → Bool) (xs ys : List X) (x : X) (id : ℕ) (list list' : List ℕ) → ys ≡ xs ++ x ∷ [] → id ≡ length xs → list ≡ those test 0 xs → list' ≡ list ++ cond (test x) (id ∷ []) [] → list' ≡ those test 0 ys
those_more test xs ys x id list list' more number are grown =
    let place : id ≡ 0 + length xs = omega (arith, number) in
    grown ∙ ap₂ (λ zs k. zs ++ cond (test x) (k ∷ []) []) are place ∙ sym (those_next test 0 xs x) ∙ ap (those test 0) (sym more)

-- ---- tests of nodes

pub has_next : (xs : List ℕ) (x q : ℕ) → (has xs q || (x == q)) ≡ has (xs ++ x ∷ []) q
has_next [] x q = by_test (x == q)
  where
    by_test : (b : Bool) → b ≡ (b || false)
    by_test true = refl
    by_test false = refl
has_next (y ∷ xs) x q = by_test (y == q) (has xs q) (x == q) ∙ ap (λ b. (y == q) || b) (has_next xs x q)
  where
    by_test : (a b c : Bool) → ((a || b) || c) ≡ (a || (b || c))
    by_test true b c = refl
    by_test false b c = refl

pub is_a_match : {L S : Type 0} (node : Node L S) → is_match node ≡ is_some (match_in node)
is_a_match (match p) = refl
is_a_match (pass rs) = refl
is_a_match (note slot r) = refl
is_a_match (look l r) = refl
is_a_match (reads_set x r) = refl

-- ---- f of each item

pub taken : {A B : Type 0} (f : A → B) (xs : List A) (i : ℕ) (x : A) → i < length xs → x ≡ get_or xs i x → take (i + 1) (map f xs) ≡ take i (map f xs) ++ f x ∷ []
taken f xs i x within is =
    take_more (map f xs) i (f x) (omega (arith, within, length-map xs f)) ∙ ap (λ z. take i (map f xs) ++ z ∷ []) (get_or-map f xs i x (f x) within ∙ ap f (sym is))

pub indexed_next : {X Y : Type 0} (f : ℕ → X → Y) (at : ℕ) (xs : List X) (x : X) → indexed f at (xs ++ x ∷ []) ≡ indexed f at xs ++ f (at + length xs) x ∷ []
indexed_next f at [] x = let place : at ≡ at + 0 = omega arith in ap (λ k. f k x ∷ []) place
indexed_next f at (y ∷ xs) x =
    let place : suc at + length xs ≡ at + suc (length xs) = omega arith in
    ap (λ zs. f at y ∷ zs) (indexed_next f (suc at) xs x ∙ ap (λ k. indexed f (suc at) xs ++ f k x ∷ []) place)

-- f of one more item, after others
pub indexed_more : {X Y : Type 0} (f : ℕ → X → Y) (xs ys : List X) (x : X) (i : ℕ) (before all all' : List Y) (y : Y) → ys ≡ xs ++ x ∷ [] → i ≡ length xs → y ≡ f i x → all ≡ before ++ indexed f 0 xs → all' ≡ all ++ y ∷ [] → all' ≡ before ++ indexed f 0 ys
indexed_more f xs ys x i before all all' y more number made are grown =
    let place : i ≡ 0 + length xs = omega (arith, number) in
    grown ∙ ap₂ (λ zs z. zs ++ z ∷ []) are (made ∙ ap (λ k. f k x) place) ∙ append_assoc before (indexed f 0 xs) (f (0 + length xs) x ∷ [])
    ∙ ap (λ zs. before ++ zs) (sym (indexed_next f 0 xs x) ∙ ap (indexed f 0) (sym more))

pub unions_are : {L S X : Type 0} (f : ℕ → List ℕ) (at : ℕ) (xs : List X) (lists : List (List ℕ)) → length lists ≡ length xs → ((q : ℕ) → q < length xs → get_or lists q [] ≡ f (at + q))
    → unions {L = L} {S = S} lists ≡ indexed (λ q x. pass (f q)) at xs
unions_are f at [] [] same each = refl
unions_are f at [] (list ∷ lists) same each = absurd (omega (arith, same))
unions_are f at (x ∷ xs) [] same each = absurd (omega (arith, same))
unions_are f at (x ∷ xs) (list ∷ lists) same each =
    let here : list ≡ f at = (let place : at + 0 ≡ at = omega arith in each 0 (omega arith) ∙ ap f place) in
    ap₂ (λ a b. pass a ∷ b) here (unions_are f (suc at) xs lists (omega (arith, same)) (λ q below. each (suc q) (omega (arith, below)) ∙ ap f (omega arith)))

pub lists_are : {L S X : Type 0} (f : ℕ → List ℕ) (xs : List X) (lists : List (List ℕ)) → AreLists (length xs) f lists → unions {L = L} {S = S} lists ≡ indexed (λ q x. pass (f q)) 0 xs
lists_are f xs lists are = unions_are f 0 xs lists are.len (λ q below. are.each q below ∙ ap f (omega arith))
