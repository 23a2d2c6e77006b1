-- Numbers by their digits, from left to right.
use Rattle.std.proofs.Common.{◌≡◌, ◌↔◌, ℕ, ◌+◌, ◌-◌, ◌*◌, ◌^◌, ◌<◌, ◌≤◌, List, [], ◌∷◌, ◌++◌, length, take, drop, zero, suc, slice_index_or, inl, inr, get_or, codes, sym, ap, ◌∙◌, subst, refl, add-one, append_assoc, append-nil, length-append, arith}
use Rattle.std.proofs.lemmas.List.{append_cancel_left, take_all, drop_all}
use Rattle.rope_search_reports.specs.declared.positions.Position.{Position}
use Rattle.rope_search.specs.Order.{Order, SetText, EditText, SetPattern, FindNext, ReplaceAll, UseBuffer}
use Rattle.rope_search.proofs.NumberLaws.{AreSpelled-first, IsNumber-one}
use Rattle.rope_search.proofs.ReadLaws.{fronts_same}
use Rattle.rope_search.proofs.LineLaws.{positions_same, IsLine-first, IsLine-third}
use Rattle.std.proofs.Math.Seq.{drop-cons}
use Rattle.rope_search.specs.Reads.{IsNumber, AreSpelled, IsWorded, IsLine, digits_after}
use Rattle.rope_search.specs.Header.{Spelling, IsDigit, IsHeaderOf, HasNoSpace, EndsNumber, SpellsFront}

-- more digits never spell less
pub digits_after-le : (n : ℕ) (digits : List ℕ) → n ≤ digits_after n digits
digits_after-le n [] = omega arith
digits_after-le n (digit ∷ digits) = omega (arith, digits_after-le (10 * n + (digit - 48)) digits)

-- a digit that exists and fits
pub Spelling-next : (before digit : ℕ) (digits : List ℕ) (n : ℕ) → IsDigit digit
    → Spelling before (digit ∷ digits) n ↔ Spelling (10 * before + (digit - 48)) digits n
Spelling-next before digit digits n is = (
  λ h. record { decimal = h.decimal.1; value = h.value; fits = h.fits },
  λ h. record { decimal = (is, h.decimal); value = h.value; fits = h.fits },
)

-- no digit, or one too many
pub Spelling-none : (before digit : ℕ) (digits : List ℕ) (n : ℕ) → (IsDigit digit × (10 * before + (digit - 48) < 2 ^ 64) → ⊥)
    → Spelling before (digit ∷ digits) n → ⊥
Spelling-none before digit digits n bad h =
    bad (h.decimal.0, omega (arith, h.fits, h.value, digits_after-le (10 * before + (digit - 48)) digits))

pub Spelling-nil : (n : ℕ) → n < 2 ^ 64 → Spelling n [] n
Spelling-nil n fits = record { decimal = tt; value = refl; fits = fits }

-- a number is spelled by its digits from left to right
pub Spelling-number : (digits : List ℕ) (n : ℕ) → IsNumber digits n → Spelling 0 digits n
Spelling-number digits n h = record { decimal = h.decimal; value = h.value; fits = h.fits }

-- the rest of a list from an index inside it
pub rest_at : (xs : List ℕ) (i : ℕ) → i < length xs → drop i xs ≡ get_or xs i 0 ∷ drop (i + 1) xs
rest_at xs i inside = drop-cons xs i 0 inside ∙ ap (λ n. get_or xs i 0 ∷ drop n xs) (sym (add-one i))

-- one more digit of a number
pub Spelling-step : (digits : List ℕ) (i value next : ℕ) → i < length digits → IsDigit (get_or digits i 0) → next ≡ 10 * value + (get_or digits i 0 - 48)
    → ((n : ℕ) → Spelling 0 digits n ↔ Spelling value (drop i digits) n)
    → (n : ℕ) → Spelling 0 digits n ↔ Spelling next (drop (i + 1) digits) n
Spelling-step digits i value next inside is grown before n =
    let here = rest_at digits i inside in
    let both = Spelling-next value (get_or digits i 0) (drop (i + 1) digits) n is in (
      λ h. subst (λ v. Spelling v (drop (i + 1) digits) n) (sym grown) (both.0 (subst (λ ds. Spelling value ds n) here ((before n).0 h))),
      λ h. (before n).1 (subst (λ ds. Spelling value ds n) (sym here) (both.1 (subst (λ v. Spelling v (drop (i + 1) digits) n) grown h))),
    )

-- a number whose next digit isn't one, or makes it too large
pub Spelling-stop : (digits : List ℕ) (i value : ℕ) → i < length digits
    → (IsDigit (get_or digits i 0) × (10 * value + (get_or digits i 0 - 48) < 2 ^ 64) → ⊥)
    → ((n : ℕ) → Spelling 0 digits n ↔ Spelling value (drop i digits) n)
    → (n : ℕ) → IsNumber digits n → ⊥
Spelling-stop digits i value inside bad before n number =
    Spelling-none value (get_or digits i 0) (drop (i + 1) digits) n bad
    (subst (λ ds. Spelling value ds n) (rest_at digits i inside) ((before n).0 (Spelling-number digits n number)))

-- ---- numbers after spaces

-- a number at the start
pub Begins-number : (bytes digits others : List ℕ) (n : ℕ) → HasNoSpace digits → EndsNumber others → bytes ≡ 32 ∷ digits ++ others → IsNumber digits n
    → SpellsFront bytes (n ∷ []) others
Begins-number bytes digits others n clean ends whole number ns = (first ns, λ h. subst (λ ms. AreSpelled ms bytes) (sym h.1) (digits, others, number, h.2, whole))
  where
    first : (ns : List ℕ) → AreSpelled ns bytes → (later : List ℕ) × (ns ≡ (n ∷ []) ++ later) × AreSpelled later others
    first [] h = let e : [] ≡ 32 ∷ digits ++ others = sym h ∙ whole in absurd (cc)
    first (m ∷ ms) h =
        let parts = AreSpelled-first m ms digits others bytes clean ends whole h in
        (ms, ap (λ k. k ∷ ms) (IsNumber-one digits m n parts.0 number), parts.1)

-- no number at the start
pub Begins-none : (bytes digits others : List ℕ) → HasNoSpace digits → EndsNumber others → bytes ≡ 32 ∷ digits ++ others → ((n : ℕ) → IsNumber digits n → ⊥)
    → (n : ℕ) (ns : List ℕ) → AreSpelled (n ∷ ns) bytes → ⊥
Begins-none bytes digits others clean ends whole none n ns h = none n (AreSpelled-first n ns digits others bytes clean ends whole h).0

-- numbers and then others
pub Begins-then : (a b c xs ys : List ℕ) → SpellsFront a xs b → SpellsFront b ys c → SpellsFront a (xs ++ ys) c
Begins-then a b c xs ys p q ns = (
  λ h.
      let one = (p ns).0 h in
      let other = (q one.0).0 one.2 in
      (other.0, one.1 ∙ ap (λ l. xs ++ l) other.1 ∙ sym (append_assoc xs ys other.0), other.2),
  λ h. (p ns).1 (ys ++ h.0, h.1 ∙ append_assoc xs ys h.0, (q (ys ++ h.0)).1 (h.0, refl, h.2)),
)

spelled_nothing : (ns : List ℕ) → AreSpelled ns [] → ns ≡ []
spelled_nothing [] h = refl
spelled_nothing (n ∷ ns) h = let e : [] ≡ 32 ∷ h.0 ++ h.1 = h.4 in absurd (cc)

-- a word and these numbers, and no more
pub IsWorded-told : (word line rest others ns : List ℕ) → line ≡ word ++ rest → SpellsFront rest ns others → others ≡ [] → (ms : List ℕ) → IsWorded word line ms ↔ ms ≡ ns
IsWorded-told word line rest others ns whole begins none ms = (
  λ h.
      let spelled = subst (AreSpelled ms) (append_cancel_left word h.0 rest (sym h.2 ∙ whole)) h.1 in
      let parts = (begins ms).0 spelled in
      parts.1 ∙ ap (λ l. ns ++ l) (spelled_nothing parts.0 (subst (AreSpelled parts.0) none parts.2)) ∙ append-nil ns,
  λ e. (rest, (begins ms).1 ([], e ∙ sym (append-nil ns), none), whole),
)

-- a word without such numbers
pub IsWorded-none : (word line rest ns : List ℕ) → line ≡ word ++ rest → (AreSpelled ns rest → ⊥) → IsWorded word line ns → ⊥
IsWorded-none word line rest ns whole none h = none (subst (AreSpelled ns) (append_cancel_left word h.0 rest (sym h.2 ∙ whole)) h.1)

-- a word and these numbers, and more
pub IsWorded-more : (word line rest others ns : List ℕ) → line ≡ word ++ rest → SpellsFront rest ns others → (others ≡ [] → ⊥) → (ms : List ℕ) → length ms ≡ length ns
    → IsWorded word line ms → ⊥
IsWorded-more word line rest others ns whole begins some ms same h =
    let spelled = subst (AreSpelled ms) (append_cancel_left word h.0 rest (sym h.2 ∙ whole)) h.1 in
    let parts = (begins ms).0 spelled in
    some (no_more ns ms parts.0 parts.1 same parts.2)
  where
    no_more : (ns ms later : List ℕ) → ms ≡ ns ++ later → length ms ≡ length ns → AreSpelled later others → others ≡ []
    no_more ns ms [] e same h = h
    no_more ns ms (x ∷ later) e same h = absurd (omega (arith, ap length e, same, length-append ns (x ∷ later)))

-- the bytes after the first of some numbers
pub Begins-rest : (bytes xs rest ms ys : List ℕ) → SpellsFront bytes xs rest → length ms ≡ length xs → AreSpelled (ms ++ ys) bytes → AreSpelled ys rest
Begins-rest bytes xs rest ms ys begins same h =
    let parts = (begins (ms ++ ys)).0 h in
    let rests = fronts_same ms xs ys parts.0 same parts.1 in
    subst (λ l. AreSpelled l rest) (sym rests.1) parts.2

-- no byte is left
pub nothing_left : (xs : List ℕ) → length xs ≡ 0 → xs ≡ []
nothing_left [] none = refl
nothing_left (x ∷ xs) none = absurd (omega arith)

-- ---- the command that a line's numbers give

-- the order has the word's payload or number
pub header_text : (line : List ℕ) (len : ℕ) → ((ns : List ℕ) → IsWorded (codes "text") line ns ↔ ns ≡ len ∷ []) → (o : Order) → IsLine o line ↔ IsHeaderOf (SetText len) o
header_text line len told o = (from o, to o)
  where
    there : IsWorded (codes "text") line (len ∷ [])
    there = (told (len ∷ [])).1 refl

    from : (o : Order) → IsLine o line → IsHeaderOf (SetText len) o
    from (SetText payload) h = let e : length payload ∷ [] ≡ len ∷ [] = (told (length payload ∷ [])).0 h in cc
    from p h = absurd (omega (arith, IsLine-first p line h, IsLine-third p line h, ap (λ l. get_or l 0 0) there.2, ap (λ l. get_or l 2 0) there.2))

    to : (o : Order) → IsHeaderOf (SetText len) o → IsLine o line
    to (SetText payload) h = (told (length payload ∷ [])).1 (ap (λ n. n ∷ []) h)
    to p h = absurd h

pub header_pattern : (line : List ℕ) (len : ℕ) → ((ns : List ℕ) → IsWorded (codes "pattern") line ns ↔ ns ≡ len ∷ []) → (o : Order) → IsLine o line ↔ IsHeaderOf (SetPattern len) o
header_pattern line len told o = (from o, to o)
  where
    there : IsWorded (codes "pattern") line (len ∷ [])
    there = (told (len ∷ [])).1 refl

    from : (o : Order) → IsLine o line → IsHeaderOf (SetPattern len) o
    from (SetPattern payload) h = let e : length payload ∷ [] ≡ len ∷ [] = (told (length payload ∷ [])).0 h in cc
    from p h = absurd (omega (arith, IsLine-first p line h, IsLine-third p line h, ap (λ l. get_or l 0 0) there.2, ap (λ l. get_or l 2 0) there.2))

    to : (o : Order) → IsHeaderOf (SetPattern len) o → IsLine o line
    to (SetPattern payload) h = (told (length payload ∷ [])).1 (ap (λ n. n ∷ []) h)
    to p h = absurd h

pub header_replace : (line : List ℕ) (len : ℕ) → ((ns : List ℕ) → IsWorded (codes "replace") line ns ↔ ns ≡ len ∷ []) → (o : Order) → IsLine o line ↔ IsHeaderOf (ReplaceAll len) o
header_replace line len told o = (from o, to o)
  where
    there : IsWorded (codes "replace") line (len ∷ [])
    there = (told (len ∷ [])).1 refl

    from : (o : Order) → IsLine o line → IsHeaderOf (ReplaceAll len) o
    from (ReplaceAll payload) h = let e : length payload ∷ [] ≡ len ∷ [] = (told (length payload ∷ [])).0 h in cc
    from p h = absurd (omega (arith, IsLine-first p line h, IsLine-third p line h, ap (λ l. get_or l 0 0) there.2, ap (λ l. get_or l 2 0) there.2))

    to : (o : Order) → IsHeaderOf (ReplaceAll len) o → IsLine o line
    to (ReplaceAll payload) h = (told (length payload ∷ [])).1 (ap (λ n. n ∷ []) h)
    to p h = absurd h

pub header_use : (line : List ℕ) (k : ℕ) → ((ns : List ℕ) → IsWorded (codes "use") line ns ↔ ns ≡ k ∷ []) → (o : Order) → IsLine o line ↔ IsHeaderOf (UseBuffer k) o
header_use line k told o = (from o, to o)
  where
    there : IsWorded (codes "use") line (k ∷ [])
    there = (told (k ∷ [])).1 refl

    from : (o : Order) → IsLine o line → IsHeaderOf (UseBuffer k) o
    from (UseBuffer n) h = let e : n ∷ [] ≡ k ∷ [] = (told (n ∷ [])).0 h in cc
    from p h = absurd (omega (arith, IsLine-first p line h, IsLine-third p line h, ap (λ l. get_or l 0 0) there.2, ap (λ l. get_or l 2 0) there.2))

    to : (o : Order) → IsHeaderOf (UseBuffer k) o → IsLine o line
    to (UseBuffer n) h = (told (n ∷ [])).1 (ap (λ m. m ∷ []) h)
    to p h = absurd h

pub header_next : (line : List ℕ) (start : Position) → ((ns : List ℕ) → IsWorded (codes "next") line ns ↔ ns ≡ start.line ∷ start.column ∷ [])
    → (o : Order) → IsLine o line ↔ IsHeaderOf (FindNext start) o
header_next line start told o = (from o, to o)
  where
    there : IsWorded (codes "next") line (start.line ∷ start.column ∷ [])
    there = (told (start.line ∷ start.column ∷ [])).1 refl

    same : (a : Position) → a.line ∷ a.column ∷ [] ≡ start.line ∷ start.column ∷ [] → a ≡ start
    same a e =
        let l : a.line ≡ start.line = cc in
        let c : a.column ≡ start.column = cc in
        positions_same a start l c

    from : (o : Order) → IsLine o line → IsHeaderOf (FindNext start) o
    from (FindNext a) h = same a ((told (a.line ∷ a.column ∷ [])).0 h)
    from p h = absurd (omega (arith, IsLine-first p line h, IsLine-third p line h, ap (λ l. get_or l 0 0) there.2, ap (λ l. get_or l 2 0) there.2))

    to : (o : Order) → IsHeaderOf (FindNext start) o → IsLine o line
    to (FindNext a) h = (told (a.line ∷ a.column ∷ [])).1 (let starts : a ≡ start = h in cc)
    to p h = absurd h

-- the numbers of an edit between these positions
abbrev pub edit_numbers : Position → Position → ℕ → List ℕ
edit_numbers from to n = from.line ∷ from.column ∷ to.line ∷ to.column ∷ n ∷ []

positions_known : (from to start end : Position) (n m : ℕ) → edit_numbers start end m ≡ edit_numbers from to n → (start ≡ from) × (end ≡ to) × (m ≡ n)
positions_known from to start end n m e =
    let a : start.line ≡ from.line = cc in
    let b : start.column ≡ from.column = cc in
    let c : end.line ≡ to.line = cc in
    let d : end.column ≡ to.column = cc in
    let l : m ≡ n = cc in
    (positions_same start from a b, positions_same end to c d, l)

pub header_edit : (line : List ℕ) (start end : Position) (len : ℕ) → ((ns : List ℕ) → IsWorded (codes "edit") line ns ↔ ns ≡ edit_numbers start end len)
    → (o : Order) → IsLine o line ↔ IsHeaderOf (EditText start end len) o
header_edit line start end len told o = (from o, to o)
  where
    there : IsWorded (codes "edit") line (edit_numbers start end len)
    there = (told (edit_numbers start end len)).1 refl

    from : (o : Order) → IsLine o line → IsHeaderOf (EditText start end len) o
    from (EditText a b payload) h = positions_known start end a b len (length payload) ((told (edit_numbers a b (length payload))).0 h)
    from p h = absurd (omega (arith, IsLine-first p line h, IsLine-third p line h, ap (λ l. get_or l 0 0) there.2, ap (λ l. get_or l 2 0) there.2))

    to : (o : Order) → IsHeaderOf (EditText start end len) o → IsLine o line
    to (EditText a b payload) h =
        let starts : a ≡ start = h.0 in
        let ends : b ≡ end = h.1 in
        let few : length payload ≡ len = h.2 in
        (told (edit_numbers a b (length payload))).1 (cc)
    to p h = absurd h

-- ---- up to the first space

pub no_space_more : (bytes : List ℕ) (at : ℕ) → at < length bytes → (slice_index_or bytes at 0 ≡ 32 → ⊥) → HasNoSpace (take at bytes) → HasNoSpace (take (at + 1) bytes)
no_space_more [] at inside other none = absurd (omega (arith, inside))
no_space_more (b ∷ bs) zero inside other none = (other, tt)
no_space_more (b ∷ bs) (suc at) inside other none =
    let same : suc at + 1 ≡ suc (at + 1) = omega arith in
    subst (λ n. HasNoSpace (take n (b ∷ bs))) (sym same) (none.0, no_space_more bs at (omega (arith, inside)) other none.1)

pub no_space_all : (bytes : List ℕ) (at : ℕ) → HasNoSpace (take at bytes) → length bytes ≤ at → HasNoSpace (take (length bytes) bytes)
no_space_all bytes at none past = subst HasNoSpace (take_all at bytes past ∙ sym (take_all (length bytes) bytes (omega arith))) none

pub space_ends : (bytes : List ℕ) (at : ℕ) → at < length bytes → slice_index_or bytes at 0 ≡ 32 → EndsNumber (drop at bytes)
space_ends [] at inside is = absurd (omega (arith, inside))
space_ends (b ∷ bs) zero inside is = inr (bs, ap (λ c. c ∷ bs) is)
space_ends (b ∷ bs) (suc at) inside is = space_ends bs at (omega (arith, inside)) is

pub none_left : (bytes : List ℕ) → EndsNumber (drop (length bytes) bytes)
none_left bytes = inl (drop_all (length bytes) bytes (omega arith))
