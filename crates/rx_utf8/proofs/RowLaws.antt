-- Rows of ranges of bytes.
use Rattle.std.proofs.Common.{◌≡◌, ℕ, zero, suc, ◌+◌, length, drop, take, get_or, slice_set, ◌<◌, ◌≤◌, ◌⊎◌, Bool, true, false, ◌&&◌, cond, nat_le, nat_eq, List, [], ◌∷◌, ◌++◌, Option, Some, None, refl, sym, ap, subst, ◌∙◌, arith, inl, inr}
use Rattle.std.proofs.lemmas.Bool.Decides.{nat_tests}
use Rattle.rx_utf8.specs.declared.byte_ranges.ByteRange.{ByteRange}
use Rattle.rx_utf8.specs.Automata.{look_up, RiseWithin}

pub rise_more : (low high high' : ℕ) (row : List ByteRange) → high ≤ high' → RiseWithin low high row → RiseWithin low high' row
rise_more low high high' [] more rise = omega (arith, rise, more)
rise_more low high high' (x ∷ row) more rise = (rise.0, rise.1, rise_more (x.last + 1) high high' row more rise.2)

low_high : (low high : ℕ) (row : List ByteRange) → RiseWithin low high row → low ≤ high
low_high low high [] rise = rise
low_high low high (x ∷ row) rise = omega (arith, rise.0, rise.1, low_high (x.last + 1) high row rise.2)

pub not_in : (x : ByteRange) (b : ℕ) → (b < x.first) ⊎ (x.last < b) → (nat_le x.first b && nat_le b x.last) ≡ false
not_in x b out = grind (arith, nat_tests)

skips : (is : Bool) (t : Option ℕ) (o : Option (Option ℕ)) → is ≡ false → o ≡ None → cond is (Some t) o ≡ None
skips true t o e none = absurd (cc e)
skips false t o e none = none

pub rise_above : (low high : ℕ) (row : List ByteRange) (b : ℕ) → RiseWithin low high row → high ≤ b → look_up row b ≡ None
rise_above low high [] b rise past = refl
rise_above low high (x ∷ row) b rise past =
    let last = low_high (x.last + 1) high row rise.2 in
    skips (nat_le x.first b && nat_le b x.last) x.next (look_up row b) (not_in x b (inr (omega (arith, last, past)))) (rise_above (x.last + 1) high row b rise.2 past)

pub rise_below : (low high : ℕ) (row : List ByteRange) (b : ℕ) → RiseWithin low high row → b < low → look_up row b ≡ None
rise_below low high [] b rise before = refl
rise_below low high (x ∷ row) b rise before =
    skips (nat_le x.first b && nat_le b x.last) x.next (look_up row b) (not_in x b (inl (omega (arith, rise.0, before)))) (rise_below (x.last + 1) high row b rise.2 (omega (arith, rise.0, rise.1, before)))

-- a byte before the first of the remaining ranges leads nowhere
pub stops : (row : List ByteRange) (i low b : ℕ) (d : ByteRange) → i < length row → RiseWithin low 256 (drop i row) → b < (get_or row i d).first → look_up (drop i row) b ≡ None
stops [] i low b d lt rise before = absurd (omega (arith, lt))
stops (x ∷ row) zero low b d lt rise before =
    skips (nat_le x.first b && nat_le b x.last) x.next (look_up row b) (not_in x b (inl before)) (rise_below (x.last + 1) 256 row b rise.2 (omega (arith, rise.1, before)))
stops (x ∷ row) (suc i) low b d lt rise before = stops row i low b d (omega (arith, lt)) rise before

-- two rows in sequence
abbrev pub or_else : Option (Option ℕ) → Option (Option ℕ) → Option (Option ℕ)
or_else None other = other
or_else (Some t) other = Some t

cond_or : (is : Bool) (t : Option ℕ) (x y z : Option (Option ℕ)) → x ≡ or_else y z → cond is (Some t) x ≡ or_else (cond is (Some t) y) z
cond_or true t x y z e = refl
cond_or false t x y z e = e

pub look_up-append : (xs ys : List ByteRange) (b : ℕ) → look_up (xs ++ ys) b ≡ or_else (look_up xs b) (look_up ys b)
look_up-append [] ys b = refl
look_up-append (x ∷ xs) ys b = cond_or (nat_le x.first b && nat_le b x.last) x.next (look_up (xs ++ ys) b) (look_up xs b) (look_up ys b) (look_up-append xs ys b)

pub rise_append : (low middle high : ℕ) (xs ys : List ByteRange) → RiseWithin low middle xs → RiseWithin middle high ys → RiseWithin low high (xs ++ ys)
rise_append low middle high [] ys first second = lower low middle ys first second
  where
    lower : (low middle : ℕ) (ys : List ByteRange) → low ≤ middle → RiseWithin middle high ys → RiseWithin low high ys
    lower low middle [] le rise = omega (arith, le, rise)
    lower low middle (y ∷ ys) le rise = (omega (arith, le, rise.0), rise.1, rise.2)
rise_append low middle high (x ∷ xs) ys first second = (first.0, first.1, rise_append (x.last + 1) middle high xs ys first.2 second)

-- a row up to its last range
pub record RiseUpTo (low high : ℕ) (xs : List ByteRange) (x : ByteRange) : Type 0 where
  pub front : RiseWithin low x.first xs
  pub first : x.first ≤ x.last
  pub last : x.last + 1 ≤ high

pub rise_front : (low high : ℕ) (xs : List ByteRange) (x : ByteRange) → RiseWithin low high (xs ++ x ∷ []) → RiseUpTo low high xs x
rise_front low high [] x rise = record { front = rise.0; first = rise.1; last = rise.2 }
rise_front low high (y ∷ xs) x rise = let on = rise_front (y.last + 1) high xs x rise.2 in record { front = (rise.0, rise.1, on.front); first = on.first; last = on.last }

one_byte : (b to : ℕ) → (nat_le to b && nat_le b to) ≡ nat_eq b to
one_byte b to = grind (arith, nat_tests)

pub equal_or_not : (b to : ℕ) → (b ≡ to) ⊎ ((b < to) ⊎ (to < b))
equal_or_not b to = grind arith

eq_true : (b to : ℕ) → b ≡ to → nat_eq b to ≡ true
eq_true b to e = grind (arith, nat_tests)

eq_false : (b to : ℕ) → (b < to) ⊎ (to < b) → nat_eq b to ≡ false
eq_false b to other = grind (arith, nat_tests)

pub or_here : (o : Option (Option ℕ)) (is : Bool) (t : Option ℕ) → o ≡ None → is ≡ true → or_else o (cond is (Some t) None) ≡ Some t
or_here o true t none e = ap (λ x. or_else x (Some t)) none
or_here o false t none e = absurd (cc e)

pub or_none : (o : Option (Option ℕ)) → or_else o None ≡ o
or_none None = refl
or_none (Some t) = refl

-- one more byte after the others
pub look_up-one : (to : ℕ) (t : Option ℕ) (row : List ByteRange) → RiseWithin 0 to row → (b : ℕ)
    → look_up (row ++ record { first = to; last = to; next = t } ∷ []) b ≡ cond (nat_eq b to) (Some t) (look_up row b)
look_up-one to t row rise b = look_up-append row _ b ∙ ap (λ x. or_else (look_up row b) (cond x (Some t) None)) (one_byte b to) ∙ by_byte (equal_or_not b to)
  where
    by_byte : (b ≡ to) ⊎ ((b < to) ⊎ (to < b)) → or_else (look_up row b) (cond (nat_eq b to) (Some t) None) ≡ cond (nat_eq b to) (Some t) (look_up row b)
    by_byte (inl e) =
        let yes = eq_true b to e in
        or_here (look_up row b) (nat_eq b to) t (rise_above 0 to row b rise (omega (arith, e))) yes ∙ ap (λ x. cond x (Some t) (look_up row b)) (sym yes)
    by_byte (inr other) =
        let no' = eq_false b to other in
        ap (λ x. or_else (look_up row b) (cond x (Some t) None)) no' ∙ or_none (look_up row b) ∙ ap (λ x. cond x (Some t) (look_up row b)) (sym no')

pub rise_one : (to : ℕ) (t : Option ℕ) (row : List ByteRange) → RiseWithin 0 to row → RiseWithin 0 (to + 1) (row ++ record { first = to; last = to; next = t } ∷ [])
rise_one to t row rise = rise_append 0 to (to + 1) row _ rise (omega arith, omega arith, omega arith)

-- the last range is extended by the byte
longer_test : (first last to b : ℕ) → last + 1 ≡ to → first ≤ last → (b ≡ to) ⊎ ((b < to) ⊎ (to < b)) → (nat_le first b && nat_le b to) ≡ cond (nat_eq b to) true (nat_le first b && nat_le b last)
longer_test first last to b e le (inl same) = grind (arith, nat_tests)
longer_test first last to b e le (inr (inl below)) = grind (arith, nat_tests)
longer_test first last to b e le (inr (inr above)) = grind (arith, nat_tests)

pub look_up-longer : (to : ℕ) (front : List ByteRange) (x : ByteRange) → x.last + 1 ≡ to → RiseWithin 0 to (front ++ x ∷ []) → (b : ℕ)
    → look_up (front ++ record { first = x.first; last = to; next = x.next } ∷ []) b ≡ cond (nat_eq b to) (Some x.next) (look_up (front ++ x ∷ []) b)
look_up-longer to front x e rise b =
    look_up-append front _ b ∙ ap (λ z. or_else (look_up front b) (cond z (Some x.next) None)) (longer_test x.first x.last to b e up.first (equal_or_not b to)) ∙ by_byte (equal_or_not b to)
    ∙ ap (λ z. cond (nat_eq b to) (Some x.next) z) (sym (look_up-append front (x ∷ []) b))
  where
    up : RiseUpTo 0 to front x
    up = rise_front 0 to front x rise

    by_byte : (b ≡ to) ⊎ ((b < to) ⊎ (to < b)) → or_else (look_up front b) (cond (cond (nat_eq b to) true (nat_le x.first b && nat_le b x.last)) (Some x.next) None)
        ≡ cond (nat_eq b to) (Some x.next) (or_else (look_up front b) (cond (nat_le x.first b && nat_le b x.last) (Some x.next) None))
    by_byte (inl same) =
        let yes = eq_true b to same in
        ap (λ z. or_else (look_up front b) (cond (cond z true (nat_le x.first b && nat_le b x.last)) (Some x.next) None)) yes
        ∙ or_here (look_up front b) true x.next (rise_above 0 x.first front b up.front (omega (arith, same, e, up.first))) refl
        ∙ ap (λ z. cond z (Some x.next) (or_else (look_up front b) (cond (nat_le x.first b && nat_le b x.last) (Some x.next) None))) (sym yes)
    by_byte (inr other) =
        let no' = eq_false b to other in
        ap (λ z. or_else (look_up front b) (cond (cond z true (nat_le x.first b && nat_le b x.last)) (Some x.next) None)) no'
        ∙ ap (λ z. cond z (Some x.next) (or_else (look_up front b) (cond (nat_le x.first b && nat_le b x.last) (Some x.next) None))) (sym no')

pub rise_longer : (to : ℕ) (front : List ByteRange) (x : ByteRange) (t : Option ℕ) → RiseWithin 0 to (front ++ x ∷ []) → RiseWithin 0 (to + 1) (front ++ record { first = x.first; last = to; next = t } ∷ [])
rise_longer to front x t rise =
    let up = rise_front 0 to front x rise in
    rise_append 0 x.first (to + 1) front _ up.front (omega arith, omega (arith, up.first, up.last), omega arith)

-- where the byte and those before lead in a longer row
pub leads_here : (to : ℕ) (t : Option ℕ) (row more : List ByteRange) → ((b : ℕ) → look_up more b ≡ cond (nat_eq b to) (Some t) (look_up row b)) → look_up more to ≡ Some t
leads_here to t row more leads = leads to ∙ ap (λ x. cond x (Some t) (look_up row to)) (eq_true to to refl)

pub leads_before : (to : ℕ) (t : Option ℕ) (row more : List ByteRange) → ((b : ℕ) → look_up more b ≡ cond (nat_eq b to) (Some t) (look_up row b)) → (b : ℕ) → b < to → look_up more b ≡ look_up row b
leads_before to t row more leads b less = leads b ∙ ap (λ x. cond x (Some t) (look_up row b)) (eq_false b to (inl less))

-- a longer row, however it is given
pub one_more : (to : ℕ) (t : Option ℕ) (old new : List ByteRange) → RiseWithin 0 to old → new ≡ old ++ record { first = to; last = to; next = t } ∷ []
    → RiseWithin 0 (to + 1) new × ((b : ℕ) → look_up new b ≡ cond (nat_eq b to) (Some t) (look_up old b))
one_more to t old new rise is =
    (subst (RiseWithin 0 (to + 1)) (sym is) (rise_one to t old rise), (λ b. ap (λ xs. look_up xs b) is ∙ look_up-one to t old rise b))

pub one_longer : (to : ℕ) (t : Option ℕ) (old front new : List ByteRange) (x : ByteRange) → RiseWithin 0 to old → old ≡ front ++ x ∷ [] → x.last + 1 ≡ to → x.next ≡ t
    → new ≡ front ++ record { first = x.first; last = to; next = t } ∷ []
    → RiseWithin 0 (to + 1) new × ((b : ℕ) → look_up new b ≡ cond (nat_eq b to) (Some t) (look_up old b))
one_longer to t old front new x rise was next leads is =
    let rise' : RiseWithin 0 to (front ++ x ∷ []) = subst (RiseWithin 0 to) was rise in
    let whole : new ≡ front ++ record { first = x.first; last = to; next = x.next } ∷ [] = is ∙ ap (λ z. front ++ record { first = x.first; last = to; next = z } ∷ []) (sym leads) in (
      subst (RiseWithin 0 (to + 1)) (sym whole) (rise_longer to front x x.next rise'),
      (λ b. ap (λ xs. look_up xs b) whole ∙ look_up-longer to front x next rise' b ∙ ap (λ z. cond (nat_eq b to) (Some z) (look_up (front ++ x ∷ []) b)) leads
          ∙ ap (λ xs. cond (nat_eq b to) (Some t) (look_up xs b)) (sym was)),
    )

-- a list up to its last item, and with another in its place
last_item : (xs : List ByteRange) (i : ℕ) (d y : ByteRange) → i + 1 ≡ length xs
    → (xs ≡ take i xs ++ get_or xs i d ∷ []) × (slice_set xs i y ≡ take i xs ++ y ∷ [])
last_item [] i d y e = absurd (omega (arith, e))
last_item (x ∷ []) zero d y e = (refl, refl)
last_item (x ∷ x' ∷ xs) zero d y e = absurd (omega (arith, e))
last_item (x ∷ xs) (suc i) d y e = let on = last_item xs i d y (omega (arith, e)) in (ap (λ l. x ∷ l) on.0, ap (λ l. x ∷ l) on.1)

any_default : (xs : List ByteRange) (i : ℕ) (d d' : ByteRange) → i < length xs → get_or xs i d ≡ get_or xs i d'
any_default [] i d d' lt = absurd (omega (arith, lt))
any_default (x ∷ xs) zero d d' lt = refl
any_default (x ∷ xs) (suc i) d d' lt = any_default xs i d d' (omega (arith, lt))

-- the last range, read as x and as y, is extended in its place
pub set_longer : (to i : ℕ) (t : Option ℕ) (old : List ByteRange) (x y : ByteRange) → RiseWithin 0 to old → i + 1 ≡ length old → x ≡ get_or old i x → y ≡ get_or old i y → x.last + 1 ≡ to → x.next ≡ t
    → let new = slice_set old i record { first = y.first; last = to; next = y.next } in
    RiseWithin 0 (to + 1) new × ((b : ℕ) → look_up new b ≡ cond (nat_eq b to) (Some t) (look_up old b))
set_longer to i t old x y rise len is-x is-y next leads =
    let same : y ≡ x = is-y ∙ any_default old i y x (omega (arith, len)) ∙ sym is-x in
    let longer : ByteRange → ByteRange = λ z. record { first = z.first; last = to; next = t } in
    let at = last_item old i x record { first = y.first; last = to; next = y.next } len in
    one_longer to t old (take i old) _ x rise (at.0 ∙ ap (λ z. take i old ++ z ∷ []) (sym is-x)) next leads
    (at.1 ∙ ap (λ (z : Option ℕ). take i old ++ record { first = y.first; last = to; next = z } ∷ []) (ap (λ (z : ByteRange). z.next) same ∙ leads) ∙ ap (λ (z : ByteRange). take i old ++ longer z ∷ []) same)
