-- The states of blocks of characters.
use Rattle.std.proofs.Common.{◌≡◌, ℕ, zero, suc, ◌+◌, ◌-◌, ◌*◌, ◌<◌, ◌≤◌, ◌⊎◌, Bool, true, false, ◌&&◌, cond, nat_lt, nat_le, nat_eq, List, [], ◌∷◌, ◌++◌, length, get_or, Option, Some, None, refl, sym, ap, subst, ◌∙◌, arith, inl, inr}
use Rattle.std.specs.Prelude.{Vec}
use Rattle.std.proofs.lemmas.Bool.Decides.{nat_tests}
use Rattle.std.proofs.lemmas.List.{length-map}
use Rattle.rx_utf8.specs.Blocks.{high, is_next, Fits, Extends, any_next, prepared, size, AllBetween, rows_of}
use Rattle.rx_utf8.specs.declared.byte_ranges.ByteRange.{ByteRange}
use Rattle.std.specs.List.{All}
use Rattle.std.proofs.lemmas.List.Elements.{All-append, All-cons, All-nil, All-get_or}
use Rattle.rx_utf8.specs.Automata.{look_up, step_in, RiseWithin, IsAutomatonRow}
use Rattle.rx_utf8.proofs.RowLaws.{rise_above, rise_below, rise_more, rise_append, look_up-append, or_else, or_none, or_here, not_in, leads_here, leads_before}
use Rattle.rx_utf8.proofs.FirstLaws.{next_range}
use Rattle.rx_utf8.proofs.FitLaws.{Full, full_fits, fits_on, fits_alike}

abbrev pub Rows : Type 0
Rows = List (List ByteRange)

pub extends_on : (R S T : Rows) → Extends R S → Extends S T → Extends R T
extends_on R S T rs st = (omega (arith, rs.0, st.0), λ s below. st.1 s (omega (arith, below, rs.0)) ∙ rs.1 s below)

get_or-left : (R S : Rows) (s : ℕ) → s < length R → get_or (R ++ S) s [] ≡ get_or R s []
get_or-left [] S s below = absurd (omega (arith, below))
get_or-left (row ∷ R) S zero below = refl
get_or-left (row ∷ R) S (suc s) below = get_or-left R S s (omega (arith, below))

length-left : (R S : Rows) → length R ≤ length (R ++ S)
length-left [] S = omega arith
length-left (row ∷ R) S = omega (arith, length-left R S)

pub extends_append : (R S : Rows) → Extends R (R ++ S)
extends_append R S = (length-left R S, λ s below. get_or-left R S s below)

pub fits_extend : (R S : Rows) (p : ℕ → Bool) (r v : ℕ) (t : Option (Option ℕ)) → Extends R S → Fits (step_in R) (length R) p r v t → Fits (step_in S) (length S) p r v t
fits_extend R S p r v t rs fits = fits_on (step_in R) (step_in S) (length R) (length S) rs.0 (λ s past b. ap (λ row. look_up row b) (sym (rs.1 s past.1))) p r v t fits

-- whole blocks
abbrev full_state : ℕ → Option (Option ℕ)
full_state zero = Some None
full_state (suc r) = Some (Some (suc r))

next_byte : (b : ℕ) → (nat_le 128 b && nat_le b 191) ≡ is_next b
next_byte b = ap (λ x. nat_le 128 b && x) (below b)
  where
    below : (b : ℕ) → nat_le b 191 ≡ nat_lt b 192
    below b = grind (arith, nat_tests)

row_at : (R : Rows) (s : ℕ) (t : Option ℕ) → get_or R s [] ≡ any_next t → (b : ℕ) → step_in R s b ≡ cond (is_next b) (Some t) None
row_at R s t e b = ap (λ row. look_up row b) e ∙ ap (λ x. cond x (Some t) None) (next_byte b)

full_from : (R : Rows) → Extends prepared R → (r : ℕ) → r ≤ 3 → Full (step_in R) (length R) full_state r
full_from R on zero few = refl
full_from R on (suc zero) few = (1, refl, (omega arith, omega (arith, on.0)), row_at R 1 None (on.1 1 (omega arith)), full_from R on zero (omega arith))
full_from R on (suc (suc zero)) few = (2, refl, (omega arith, omega (arith, on.0)), row_at R 2 (Some 1) (on.1 2 (omega arith)), full_from R on (suc zero) (omega arith))
full_from R on (suc (suc (suc zero))) few = (3, refl, (omega arith, omega (arith, on.0)), row_at R 3 (Some 2) (on.1 3 (omega arith)), full_from R on (suc (suc zero)) (omega arith))
full_from R on (suc (suc (suc (suc r)))) few = absurd (omega (arith, few))

block : (r v c : ℕ) → r ≤ 3 → high r c ≡ v → (v * size r ≤ c) × (c ≤ v * size r + (size r - 1))
block zero v c few e = (omega (arith, e), omega (arith, e))
block (suc zero) v c few e = (omega (arith, e), omega (arith, e))
block (suc (suc zero)) v c few e = (omega (arith, e), omega (arith, e))
block (suc (suc (suc zero))) v c few e = (omega (arith, e), omega (arith, e))
block (suc (suc (suc (suc r)))) v c few e = absurd (omega (arith, few))

pub whole_fits : (R : Rows) (p : ℕ → Bool) (r v : ℕ) → 0 < r → r ≤ 3 → Extends prepared R → AllBetween p (v * size r) (v * size r + (size r - 1)) true → Fits (step_in R) (length R) p r v (Some (Some r))
whole_fits R p zero v some few on all = absurd (omega (arith, some))
whole_fits R p (suc r) v some few on all = full_fits (step_in R) (length R) p full_state (suc r) v (full_from R on (suc r) few) (λ c e. let at = block (suc r) v c few e in all c at.0 at.1)

-- ranges with the same characters of the block
pub part_fits : (R : Rows) (p q : ℕ → Bool) (r v : ℕ) (t : Option (Option ℕ)) → r ≤ 3 → ((c : ℕ) → v * size r ≤ c → c ≤ v * size r + (size r - 1) → p c ≡ q c) → Fits (step_in R) (length R) p r v t → Fits (step_in R) (length R) q r v t
part_fits R p q r v t few same fits = fits_alike (step_in R) (length R) p q r v t (λ c e. let at = block r v c few e in same c at.0 at.1) fits

-- a row is filled up to a byte
pub record Filled (R : Rows) (p : ℕ → Bool) (r v to : ℕ) (row : List ByteRange) : Type 0 where
  pub fits : (b : ℕ) → 128 ≤ b → b < to → Fits (step_in R) (length R) p r (v * 64 + (b - 128)) (look_up row b)
  pub below : (b : ℕ) → b < 128 → look_up row b ≡ None
  pub rises : RiseWithin 0 to row

pub before_or_at : (b to : ℕ) → b < to + 1 → (b < to) ⊎ (to ≡ b)
before_or_at b to e = grind arith

filled_next : (R S : Rows) (p : ℕ → Bool) (r v to : ℕ) (row more : List ByteRange) (t : Option (Option ℕ)) → Extends R S → 128 ≤ to → Filled R p r v to row
    → Fits (step_in S) (length S) p r (v * 64 + (to - 128)) t → look_up more to ≡ t → ((b : ℕ) → b < to → look_up more b ≡ look_up row b) → RiseWithin 0 (to + 1) more → Filled S p r v (to + 1) more
filled_next R S p r v to row more t on high filled fit at others rises = record {
  fits = λ b low before. elim (before_or_at b to before) [
    | inl less ↦ subst (Fits (step_in S) (length S) p r (v * 64 + (b - 128))) (sym (others b less)) (fits_extend R S p r (v * 64 + (b - 128)) (look_up row b) on (filled.fits b low less))
    | inr e ↦ subst (λ x. Fits (step_in S) (length S) p r (v * 64 + (x - 128)) (look_up more x)) e (subst (Fits (step_in S) (length S) p r (v * 64 + (to - 128))) (sym at) fit)
  ];
  below = λ b low. others b (omega (arith, low, high)) ∙ filled.below b low;
  rises = rises;
}

pub filled_skip : (R S : Rows) (p : ℕ → Bool) (r v to : ℕ) (row : List ByteRange) → Extends R S → 128 ≤ to → Filled R p r v to row
    → Fits (step_in S) (length S) p r (v * 64 + (to - 128)) None → Filled S p r v (to + 1) row
filled_skip R S p r v to row on high filled fit =
    filled_next R S p r v to row row None on high filled fit (rise_above 0 to row to filled.rises (omega arith)) (λ b less. refl) (rise_more 0 to (to + 1) row (omega arith) filled.rises)

pub filled_push : (R S : Rows) (p : ℕ → Bool) (r v to : ℕ) (row more : List ByteRange) (t : Option ℕ) → Extends R S → 128 ≤ to → Filled R p r v to row
    → Fits (step_in S) (length S) p r (v * 64 + (to - 128)) (Some t) → ((b : ℕ) → look_up more b ≡ cond (nat_eq b to) (Some t) (look_up row b)) → RiseWithin 0 (to + 1) more
    → Filled S p r v (to + 1) more
filled_push R S p r v to row more t on high filled fit leads rises =
    filled_next R S p r v to row more (Some t) on high filled fit (leads_here to t row more leads) (λ b less. leads_before to t row more leads b less) rises

-- and becomes a state
get_or-end : (R : Rows) (row : List ByteRange) → get_or (R ++ row ∷ []) (length R) [] ≡ row
get_or-end [] row = refl
get_or-end (x ∷ R) row = get_or-end R row

length-end : (R : Rows) (row : List ByteRange) → length R < length (R ++ row ∷ [])
length-end [] row = omega arith
length-end (x ∷ R) row = omega (arith, length-end R row)

next_at : (b : ℕ) → is_next b ≡ false → (b < 128) ⊎ (192 ≤ b)
next_at b e = grind (arith, nat_tests)

pub filled_fits : (R : Rows) (p : ℕ → Bool) (r v : ℕ) (row : List ByteRange) → 0 < r → 0 < length R → Filled R p (r - 1) v 192 row → Fits (step_in (R ++ row ∷ [])) (length (R ++ row ∷ [])) p r v (Some (Some (length R)))
filled_fits R p zero v row some more filled = absurd (omega (arith, some))
filled_fits R p (suc r) v row some more filled =
    let less : suc r - 1 ≡ r = omega arith in
    let filled' : Filled R p r v 192 row = subst (λ x. Filled R p x v 192 row) less filled in
    let here = λ (b : ℕ). ap (λ x. look_up x b) (get_or-end R row) in (
      (more, length-end R row),
      (λ b is. let within = next_range b is in subst (Fits (step_in (R ++ row ∷ [])) (length (R ++ row ∷ [])) p r (v * 64 + (b - 128))) (sym (here b))
          (fits_extend R (R ++ row ∷ []) p r (v * 64 + (b - 128)) (look_up row b) (extends_append R (row ∷ [])) (filled'.fits b within.0 within.1))),
      (λ b is. here b ∙ elim (next_at b is) [ inl low ↦ filled'.below b low | inr high ↦ rise_above 0 192 row b filled'.rises high ]),
    )

-- of ranges up to a place, and from one on
pub part_alike : (p m q : ℕ → Bool) (r v n n' : ℕ) → n ≡ size r → n' ≡ size r → ((x : ℕ) → x ≤ v * n + (n' - 1) → p x ≡ m x) → ((x : ℕ) → v * n ≤ x → m x ≡ q x)
    → (x : ℕ) → v * size r ≤ x → x ≤ v * size r + (size r - 1) → p x ≡ q x
part_alike p m q r v n n' e e' to from x low high' =
    to x (subst (λ k. x ≤ v * k + (n' - 1)) (sym e) (subst (λ k. x ≤ v * size r + (k - 1)) (sym e') high'))
    ∙ from x (subst (λ k. v * k ≤ x) (sym e) low)

pub row_fits : (R S : Rows) (p q : ℕ → Bool) (r v number : ℕ) (row : List ByteRange) → 0 < r → r ≤ 3 → 0 < length R → ((x : ℕ) → v * size r ≤ x → x ≤ v * size r + (size r - 1) → p x ≡ q x)
    → Filled R p (r - 1) v 192 row → S ≡ R ++ row ∷ [] → number ≡ length R → Fits (step_in S) (length S) q r v (Some (Some number))
row_fits R S p q r v number row some few more same filled is at =
    let fits = part_fits (R ++ row ∷ []) p q r v (Some (Some (length R))) few same (filled_fits R p r v row some more filled) in
    subst (λ s. Fits (step_in S) (length S) q r v (Some (Some s))) (sym at)
    (subst (λ T. Fits (step_in T) (length T) q r v (Some (Some (length R)))) (sym is) fits)

-- one more row, whose ranges are disjoint
pub rows_one_more : (R : Rows) (row : List ByteRange) (to : ℕ) → to ≤ 256 → All IsAutomatonRow R → RiseWithin 0 to row → All IsAutomatonRow (R ++ row ∷ [])
rows_one_more R row to few all rises = All-append IsAutomatonRow R (row ∷ []) all (All-cons IsAutomatonRow row [] (rise_more 0 to 256 row few rises) (All-nil IsAutomatonRow))

item_of : {Z : Type 0} (rows : List (Vec ByteRange Z)) (s : ℕ) (row : Vec ByteRange Z) → s < length rows → get_or (rows_of rows) s [] ≡ (get_or rows s row).items
item_of [] s row below = absurd (omega (arith, below))
item_of (x ∷ rows) zero row below = refl
item_of (x ∷ rows) (suc s) row below = item_of rows s row (omega (arith, below))

pub row_in : {Z : Type 0} (rows list : List (Vec ByteRange Z)) (s : ℕ) (row : Vec ByteRange Z) (items : List ByteRange) → list ≡ rows → s < length list → row ≡ get_or list s row → items ≡ row.items
    → All IsAutomatonRow (rows_of rows) → IsAutomatonRow items
row_in {Z = Z} rows list s row items same below at is all =
    let below' : s < length rows = omega (arith, below, ap length same) in
    let here : get_or (rows_of rows) s [] ≡ items = item_of rows s row below' ∙ ap (λ (x : Vec ByteRange Z). x.items) (ap (λ xs. get_or xs s row) (sym same) ∙ sym at) ∙ sym is in
    subst IsAutomatonRow here (All-get_or IsAutomatonRow (rows_of rows) s [] (omega (arith, below', length-map rows (λ (x : Vec ByteRange Z). x.items))) all)

-- the row of a last byte is filled up to a code point
pub record LastFilled (p : ℕ → Bool) (low code : ℕ) (row : List ByteRange) : Type 0 where
  pub leads : (b : ℕ) → 128 ≤ b → b < 128 + (code - low) → look_up row b ≡ cond (p (low + (b - 128))) (Some None) None
  pub rises : RiseWithin 128 (128 + (code - low)) row

before_or_past : (b to : ℕ) → (b < to) ⊎ (to ≤ b)
before_or_past b to = grind arith

within : (first last b : ℕ) → first ≤ b → b ≤ last → (nat_le first b && nat_le b last) ≡ true
within first last b from to = grind (arith, nat_tests)

leads_all : (p : ℕ → Bool) (low code last : ℕ) (is : Bool) (row more : List ByteRange) → low ≤ code → AllBetween p code last is → LastFilled p low code row
    → ((b : ℕ) → b < 128 + (code - low) → look_up more b ≡ look_up row b)
    → ((b : ℕ) → 128 + (code - low) ≤ b → b < 128 + (last + 1 - low) → look_up more b ≡ cond is (Some None) None)
    → (b : ℕ) → 128 ≤ b → b < 128 + (last + 1 - low) → look_up more b ≡ cond (p (low + (b - 128))) (Some None) None
leads_all p low code last is row more from all filled before past b low' high' = elim (before_or_past b (128 + (code - low))) [
  | inl less ↦ before b less ∙ filled.leads b low' less
  | inr more' ↦ past b more' high' ∙ ap (λ z. cond z (Some None) None) (sym (all (low + (b - 128)) (omega (arith, more', from, low')) (omega (arith, high', from, low'))))
]

pub last_skip : (p : ℕ → Bool) (low code last : ℕ) (row : List ByteRange) → low ≤ code → code ≤ last → AllBetween p code last false → LastFilled p low code row → LastFilled p low (last + 1) row
last_skip p low code last row from to all filled = record {
  leads = leads_all p low code last false row row from all filled (λ b less. refl) (λ b past less. rise_above 128 (128 + (code - low)) row b filled.rises past);
  rises = rise_more 128 (128 + (code - low)) (128 + (last + 1 - low)) row (omega (arith, from, to)) filled.rises;
}

pub last_push : (p : ℕ → Bool) (low code last : ℕ) (row more : List ByteRange) → low ≤ code → code ≤ last → AllBetween p code last true → LastFilled p low code row
    → more ≡ row ++ record { first = code - low + 128; last = last - low + 128; next = None } ∷ [] → LastFilled p low (last + 1) more
last_push p low code last row more from to all filled is =
    let x : ByteRange = record { first = code - low + 128; last = last - low + 128; next = None } in
    let rises : RiseWithin 128 (128 + (last + 1 - low)) (row ++ x ∷ []) =
    rise_append 128 (128 + (code - low)) (128 + (last + 1 - low)) row (x ∷ []) filled.rises (omega arith, omega (arith, from, to), omega (arith, from, to)) in
    let leads = leads_all p low code last true row (row ++ x ∷ []) from all filled
    (λ b less. look_up-append row (x ∷ []) b ∙ ap (λ z. or_else (look_up row b) (cond z (Some None) None)) (not_in x b (inl (omega (arith, less)))) ∙ or_none (look_up row b))
    (λ b past less. look_up-append row (x ∷ []) b ∙ or_here (look_up row b) (nat_le x.first b && nat_le b x.last) None (rise_above 128 (128 + (code - low)) row b filled.rises past)
    (within x.first x.last b (omega (arith, past)) (omega (arith, less, from, to)))) in
    subst (LastFilled p low (last + 1)) (sym is) (record { leads = leads; rises = rises })

-- and becomes a state
pub last_fits : (R : Rows) (p : ℕ → Bool) (r v : ℕ) (row : List ByteRange) → r ≡ 1 → ((b : ℕ) → 128 ≤ b → b < 192 → look_up row b ≡ cond (p (v * 64 + (b - 128))) (Some None) None) → RiseWithin 128 192 row
    → Filled R p (r - 1) v 192 row
last_fits R p r v row e leads rises =
    let zero' : 0 ≡ r - 1 = omega (arith, e) in
    subst (λ x. Filled R p x v 192 row) zero' (record {
      fits = leads;
      below = λ b low. rise_below 128 192 row b rises low;
      rises = rise_append 0 128 192 [] row (omega arith) rises;
    })
