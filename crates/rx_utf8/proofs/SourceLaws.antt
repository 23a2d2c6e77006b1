-- The states from which bytes lead to positions.
use Rattle.std.proofs.Common.{◌≡◌, ℕ, zero, suc, ◌+◌, ◌-◌, ◌<◌, ◌≤◌, ◌⊎◌, Bool, true, false, ◌&&◌, ◌||◌, ◌==◌, cond, nat_le, List, [], ◌∷◌, ◌++◌, length, get_or, drop, Some, refl, sym, ap, ap₂, subst, ◌∙◌, arith, inl, inr}
use Rattle.std.specs.Prelude.{Vec}
use Rattle.std.specs.List.{All}
use Rattle.std.proofs.lemmas.Bool.Decides.{nat_tests}
use Rattle.std.proofs.lemmas.List.{append_assoc, at_drop_more, get_or_past}
use Rattle.std.proofs.lemmas.List.Elements.{All-get_or}
use Rattle.rx_walks.specs.Reversed.{has}
use Rattle.rx_walks.specs.Transposed.{ReadingPlace, leads_in}
use Rattle.rx_utf8.specs.declared.byte_ranges.ByteRange.{ByteRange}
use Rattle.rx_utf8.specs.declared.entries.Entry.{Entry}
use Rattle.rx_utf8.specs.Automata.{look_up, step_in, IsAutomatonRow, RiseWithin}
use Rattle.rx_utf8.specs.Subsets.{lists_of, covers, entries_of, entries_from, sources}
use Rattle.rx_utf8.proofs.RowLaws.{rise_below, equal_or_not}
use Rattle.rx_utf8.proofs.ListLaws.{length_lists, list_at}

or_assoc : (a b c : Bool) → ((a || b) || c) ≡ (a || (b || c))
or_assoc true b c = refl
or_assoc false b c = refl

or_self : (a : Bool) → (a || (a && false)) ≡ (a && true)
or_self true = refl
or_self false = refl

and_false : (a : Bool) → (a && false) ≡ false
and_false true = refl
and_false false = refl

or_false : (a : Bool) → (a || false) ≡ a
or_false true = refl
or_false false = refl

has_append : (xs ys : List ℕ) (q : ℕ) → has (xs ++ ys) q ≡ (has xs q || has ys q)
has_append [] ys q = refl
has_append (x ∷ xs) ys q = ap (λ z. (x == q) || z) (has_append xs ys q) ∙ sym (or_assoc (x == q) (has xs q) (has ys q))

sources_append : (into : ReadingPlace → Bool) (xs ys : List Entry) (b : ℕ) → sources into (xs ++ ys) b ≡ sources into xs b ++ sources into ys b
sources_append into [] ys b = refl
sources_append into (x ∷ xs) ys b =
    let one = cond (into x.range.next) (cond (covers x.range b) (x.source ∷ []) []) [] in
    ap (λ z. one ++ z) (sources_append into xs ys b) ∙ sym (append_assoc one (sources into xs b) (sources into ys b))

pushed_in : {X Y : Type 0} (f : X → Y) (b : Bool) (x y : X) → f (cond b x y) ≡ cond b (f x) (f y)
pushed_in f true x y = refl
pushed_in f false x y = refl

-- one range
one_range : (u t c : Bool) (xs : List ℕ) (s q : ℕ) (rest : Bool) → (t ≡ true → u ≡ true) → has xs q ≡ ((s == q) && rest) → (c ≡ true → rest ≡ false)
    → has (cond u (cond t (cond c (s ∷ []) []) [] ++ []) [] ++ xs) q ≡ ((s == q) && cond c t rest)
one_range true true true xs s q rest sub e none = ap (λ z. (s == q) || z) (e ∙ ap (λ z. (s == q) && z) (none refl)) ∙ or_self (s == q)
one_range true true false xs s q rest sub e none = e
one_range true false true xs s q rest sub e none = e ∙ ap (λ z. (s == q) && z) (none refl)
one_range true false false xs s q rest sub e none = e
one_range false true c xs s q rest sub e none = absurd (cc (sub refl))
one_range false false true xs s q rest sub e none = e ∙ ap (λ z. (s == q) && z) (none refl)
one_range false false false xs s q rest sub e none = e

below_last : (range : ByteRange) (b : ℕ) → covers range b ≡ true → b < range.last + 1
below_last range b e = grind (arith, nat_tests)

-- each state once, if the ranges of its row are disjoint
row_sources : (T U : ReadingPlace → Bool) → ((x : ReadingPlace) → T x ≡ true → U x ≡ true) → (s b q low high : ℕ) (row : List ByteRange) → RiseWithin low high row
    → has (sources T (entries_of U s row) b) q ≡ ((s == q) && leads_in T (look_up row b))
row_sources T U sub s b q low high [] rise = sym (and_false (s == q))
row_sources T U sub s b q low high (range ∷ row) rise =
    let others = entries_of U s row in
    let entry : Entry = record { source = s; range = range } in
    let xs = sources T others b in
    let again = row_sources T U sub s b q (range.last + 1) high row rise.2 in
    let none : covers range b ≡ true → leads_in T (look_up row b) ≡ false = λ e. ap (leads_in T) (rise_below (range.last + 1) high row b rise.2 (below_last range b e)) in
    ap (λ z. has z q) (sources_append T (cond (U range.next) (entry ∷ []) []) others b ∙ ap (λ z. z ++ xs) (pushed_in (λ (z : List Entry). sources T z b) (U range.next) (entry ∷ []) []))
    ∙ one_range (U range.next) (T range.next) (covers range b) xs s q (leads_in T (look_up row b)) (sub range.next) again none
    ∙ ap (λ z. (s == q) && z) (sym (pushed_in (leads_in T) (covers range b) (Some range.next) (look_up row b)))

at_none : (i : ℕ) → get_or {A = List ByteRange} [] i [] ≡ []
at_none zero = refl
at_none (suc i) = refl

at_next : (row : List ByteRange) (rows : List (List ByteRange)) (i j : ℕ) → i ≡ suc j → get_or (row ∷ rows) i [] ≡ get_or rows j []
at_next row rows i j e = ap (λ n. get_or (row ∷ rows) n []) e

at_first : (row : List ByteRange) (rows : List (List ByteRange)) (i : ℕ) → i ≡ 0 → get_or (row ∷ rows) i [] ≡ row
at_first row rows i e = ap (λ n. get_or (row ∷ rows) n []) e

is_same : (k q : ℕ) → q ≡ k → (k == q) ≡ true
is_same k q e = grind (arith, nat_tests)

is_other : (k q : ℕ) → (q < k) ⊎ (k < q) → (k == q) ≡ false
is_other k q (inl h) = grind (arith, nat_tests)
is_other k q (inr h) = grind (arith, nat_tests)

at_most : (k q : ℕ) → k ≤ q → nat_le k q ≡ true
at_most k q h = grind (arith, nat_tests)

above : (k q : ℕ) → q < k → nat_le k q ≡ false
above k q h = grind (arith, nat_tests)

pub rises_all : (rows : List (List ByteRange)) → All IsAutomatonRow rows → (s : ℕ) → IsAutomatonRow (get_or rows s [])
rises_all rows all s = by_length (within_or_past s (length rows))
  where
    within_or_past : (a b : ℕ) → (a < b) ⊎ (b ≤ a)
    within_or_past a b = grind arith

    by_length : (s < length rows) ⊎ (length rows ≤ s) → IsAutomatonRow (get_or rows s [])
    by_length (inl within) = All-get_or IsAutomatonRow rows s [] within all
    by_length (inr past) = subst IsAutomatonRow (sym (get_or_past rows s [] past)) (omega arith)

rows_sources : (T U : ReadingPlace → Bool) → ((x : ReadingPlace) → T x ≡ true → U x ≡ true) → (k b q : ℕ) (rows : List (List ByteRange)) → ((s : ℕ) → IsAutomatonRow (get_or rows s []))
    → has (sources T (entries_from U k rows) b) q ≡ (nat_le k q && leads_in T (look_up (get_or rows (q - k) []) b))
rows_sources T U sub k b q [] rises = sym (ap (λ row. nat_le k q && leads_in T (look_up row b)) (at_none (q - k)) ∙ and_false (nat_le k q))
rows_sources T U sub k b q (row ∷ rows) rises =
    ap (λ z. has z q) (sources_append T (entries_of U k row) (entries_from U (k + 1) rows) b)
    ∙ has_append (sources T (entries_of U k row) b) (sources T (entries_from U (k + 1) rows) b) q
    ∙ ap₂ (λ x y. x || y) (row_sources T U sub k b q 0 256 row (rises 0)) (rows_sources T U sub (k + 1) b q rows (λ s. rises (suc s)))
    ∙ by_place (equal_or_not q k)
  where
    by_place : (q ≡ k) ⊎ ((q < k) ⊎ (k < q)) → (((k == q) && leads_in T (look_up row b)) || (nat_le (k + 1) q && leads_in T (look_up (get_or rows (q - (k + 1)) []) b))) ≡ (nat_le k q && leads_in T (look_up (get_or (row ∷ rows) (q - k) []) b))
    by_place (inl e) =
        ap₂ (λ x y. (x && leads_in T (look_up row b)) || (y && leads_in T (look_up (get_or rows (q - (k + 1)) []) b))) (is_same k q e) (above (k + 1) q (omega (arith, e)))
        ∙ or_false (leads_in T (look_up row b))
        ∙ sym (ap₂ (λ x y. x && leads_in T (look_up y b)) (at_most k q (omega (arith, e))) (at_first row rows (q - k) (omega (arith, e))))
    by_place (inr (inl less)) =
        ap₂ (λ x y. (x && leads_in T (look_up row b)) || (y && leads_in T (look_up (get_or rows (q - (k + 1)) []) b))) (is_other k q (inl less)) (above (k + 1) q (omega (arith, less)))
        ∙ sym (ap (λ x. x && leads_in T (look_up (get_or (row ∷ rows) (q - k) []) b)) (above k q less))
    by_place (inr (inr more)) =
        ap₂ (λ x y. (x && leads_in T (look_up row b)) || (y && leads_in T (look_up (get_or rows (q - (k + 1)) []) b))) (is_other k q (inr more)) (at_most (k + 1) q (omega (arith, more)))
        ∙ sym (ap₂ (λ x y. x && leads_in T (look_up y b)) (at_most k q (omega (arith, more))) (at_next row rows (q - k) (q - (k + 1)) (omega (arith, more))))

pub step_sources : (T U : ReadingPlace → Bool) → ((x : ReadingPlace) → T x ≡ true → U x ≡ true) → (rows : List (List ByteRange)) → ((s : ℕ) → IsAutomatonRow (get_or rows s [])) → (b q : ℕ)
    → has (sources T (entries_from U 0 rows) b) q ≡ leads_in T (step_in rows q b)
step_sources T U sub rows rises b q =
    rows_sources T U sub 0 b q rows rises ∙ ap₂ (λ x k. x && leads_in T (look_up (get_or rows k []) b)) (at_most 0 q (omega arith)) (from_none q)
  where
    from_none : (n : ℕ) → n - 0 ≡ n
    from_none n = omega arith

-- one row, one more entry
pub entries_next : {Z : Type 0} (into : ReadingPlace → Bool) (rows : List (Vec ByteRange Z)) (s : ℕ) (row : Vec ByteRange Z) → s < length rows → row ≡ get_or rows s row
    → entries_from into s (drop s (lists_of rows)) ≡ entries_of into s row.items ++ entries_from into (s + 1) (drop (s + 1) (lists_of rows))
entries_next {Z = Z} into rows s row within is =
    at_drop_more (entries_from into s) (lists_of rows) s [] (omega (arith, within, length_lists rows))
    ∙ ap (λ x. entries_of into s x ++ entries_from into (s + 1) (drop (s + 1) (lists_of rows))) (list_at rows s row within ∙ ap (λ (x : Vec ByteRange Z). x.items) (sym is))

sources_at : (into : ReadingPlace → Bool) (entries : List Entry) (i b : ℕ) (d : Entry) → i < length entries
    → sources into (drop i entries) b
    ≡ cond (into (get_or entries i d).range.next) (cond (covers (get_or entries i d).range b) ((get_or entries i d).source ∷ []) []) [] ++ sources into (drop (i + 1) entries) b
sources_at into entries i b d within = at_drop_more (λ xs. sources into xs b) entries i d within

pub fill_taken : (into : ReadingPlace → Bool) (entries : List Entry) (i : ℕ) (d : Entry) (old new : List (List ℕ)) → i < length entries → into (get_or entries i d).range.next ≡ true
    → ((b : ℕ) → get_or new b [] ≡ get_or old b [] ++ cond (covers (get_or entries i d).range b) ((get_or entries i d).source ∷ []) [])
    → ((b : ℕ) → get_or old b [] ++ sources into (drop i entries) b ≡ sources into entries b)
    → (b : ℕ) → get_or new b [] ++ sources into (drop (i + 1) entries) b ≡ sources into entries b
fill_taken into entries i d old new within is pushed so_far b =
    let one = cond (covers (get_or entries i d).range b) ((get_or entries i d).source ∷ []) [] in
    let rest = sources into (drop (i + 1) entries) b in
    ap (λ xs. xs ++ rest) (pushed b) ∙ append_assoc (get_or old b []) one rest
    ∙ ap (λ xs. get_or old b [] ++ xs) (sym (sources_at into entries i b d within ∙ ap (λ t. cond t one [] ++ rest) is)) ∙ so_far b

pub fill_left : (into : ReadingPlace → Bool) (entries : List Entry) (i : ℕ) (d : Entry) (old : List (List ℕ)) → i < length entries → into (get_or entries i d).range.next ≡ false
    → ((b : ℕ) → get_or old b [] ++ sources into (drop i entries) b ≡ sources into entries b)
    → (b : ℕ) → get_or old b [] ++ sources into (drop (i + 1) entries) b ≡ sources into entries b
fill_left into entries i d old within is so_far b =
    let rest = sources into (drop (i + 1) entries) b in
    ap (λ xs. get_or old b [] ++ xs) (sym (sources_at into entries i b d within ∙ ap (λ t. cond t (cond (covers (get_or entries i d).range b) ((get_or entries i d).source ∷ []) []) [] ++ rest) is)) ∙ so_far b
