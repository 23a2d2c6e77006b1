-- The decoder reads the members.
use Rattle.std.proofs.Common.{◌≡◌, ℕ, zero, suc, ◌+◌, ◌-◌, ◌*◌, ◌/◌, ◌%◌, ◌<◌, ◌≤◌, Bool, true, false, ◌&&◌, cond, nat_lt, nat_le, nat_eq, List, [], ◌∷◌, ◌++◌, Some, option_map, refl, sym, ap, ap₂, ◌∙◌, arith, inl, inr}
use Rattle.std.proofs.lemmas.Bool.Decides.{nat_tests}
use Rattle.std.proofs.lemmas.Str.{len_utf8_bounds}
use Rattle.std.proofs.Math.Utf8.{encode}
use Rattle.std.specs.Str.{continuation_len, lead_bits}
use Rattle.std.specs.Char.{len_utf8}
use lib.Utf8.{scalar, scalar_cases}
use Rattle.rx_walks.specs.Characters.{member_len}
use Rattle.rx_utf8.specs.Blocks.{high, is_next, rest, of_len, first_len}
use Rattle.rx_utf8.proofs.Helpers.{same_some, both, cond_true, cond_some, map_some, same_option}
use Rattle.rx_walks.specs.Laws.{FirstCharacterStands}
use Rattle.rx_utf8.proofs.CharacterLaws.{MemberFirst, member_stands, stands_member}

-- the last n bytes of a character
abbrev pub tails : ℕ → ℕ → List ℕ
tails zero c = []
tails (suc n) c = (128 + high n c % 64) ∷ tails n c

abbrev pub lead : ℕ → ℕ → ℕ
lead zero d = d
lead (suc zero) d = 192 + d
lead (suc (suc zero)) d = 224 + d
lead (suc (suc (suc n))) d = 240 + d

next_is : (d : ℕ) → is_next (128 + d % 64) ≡ true
next_is d = grind (arith, nat_tests)

pub next_range : (b : ℕ) → is_next b ≡ true → (128 ≤ b) × (b < 192)
next_range b e = let h = both (nat_le 128 b) (nat_lt b 192) e in (grind (arith, nat_tests, h.0), grind (arith, nat_tests, h.1))

back : (d : ℕ) → d / 64 * 64 + (128 + d % 64 - 128) ≡ d
back d = omega arith

reads_back : (p : ℕ → Bool) (n c : ℕ) (ts : List ℕ) → p c ≡ true → rest p n (high n c) (tails n c ++ ts) ≡ Some n
reads_back p zero c ts is = cond_true (p c) _ _ is
reads_back p (suc n) c ts is = cond_true _ _ _ (next_is (high n c)) ∙ ap (option_map suc) (ap (λ v. rest p n v (tails n c ++ ts)) (back (high n c)) ∙ reads_back p n c ts is)

pub record Read (p : ℕ → Bool) (n v : ℕ) (bs : List ℕ) (k : ℕ) : Type 0 where
  pub c : ℕ
  pub is_in : p c ≡ true
  pub bits : high n c ≡ v
  pub left : List ℕ
  pub bytes : bs ≡ tails n c ++ left
  pub counted : k ≡ n

pub read_is : (p : ℕ → Bool) (n v : ℕ) (bs : List ℕ) (k : ℕ) → rest p n v bs ≡ Some k → Read p n v bs k
read_is p zero v bs k e = let h = cond_some (p v) (Some 0) k e in record { c = v; is_in = h.0; bits = refl; left = bs; bytes = refl; counted = same_some h.1 refl }
read_is p (suc n) v [] k e = absurd (cc e)
read_is p (suc n) v (b ∷ bs) k e =
    let h = cond_some (is_next b) _ k e in
    let m = map_some (rest p n (v * 64 + (b - 128)) bs) k h.1 in
    let r = read_is p n (v * 64 + (b - 128)) bs m.0 m.1 in
    let within = next_range b h.0 in
    let byte : b ≡ 128 + high n r.c % 64 = omega (arith, within.0, within.1, r.bits) in
    record { c = r.c; is_in = r.is_in; bits = omega (arith, within.0, within.1, r.bits); left = r.left; bytes = ap₂ (λ x y. x ∷ y) byte r.bytes; counted = m.2 ∙ ap suc r.counted }

-- the bytes of a character
shape : (c n : ℕ) (p q r : Bool) → cond p 1 (cond q 2 (cond r 3 4)) ≡ suc n
    → cond p (c ∷ []) (cond q ((192 + c / 64) ∷ (128 + c % 64) ∷ []) (cond r ((224 + c / 4096) ∷ (128 + c / 64 % 64) ∷ (128 + c % 64) ∷ []) ((240 + c / 262144) ∷ (128 + c / 4096 % 64) ∷ (128 + c / 64 % 64) ∷ (128 + c % 64) ∷ []))) ≡ lead n (high n c) ∷ tails n c
shape c zero true q r e = refl
shape c (suc n) true q r e = absurd (omega (arith, e))
shape c (suc zero) false true r e = refl
shape c zero false true r e = absurd (omega (arith, e))
shape c (suc (suc n)) false true r e = absurd (omega (arith, e))
shape c (suc (suc zero)) false false true e = ap (λ x. (224 + x) ∷ (128 + c / 64 % 64) ∷ (128 + c % 64) ∷ []) (omega arith)
shape c zero false false true e = absurd (omega (arith, e))
shape c (suc zero) false false true e = absurd (omega (arith, e))
shape c (suc (suc (suc n))) false false true e = absurd (omega (arith, e))
shape c (suc (suc (suc zero))) false false false e = ap₂ (λ x y. (240 + x) ∷ (128 + y % 64) ∷ (128 + c / 64 % 64) ∷ (128 + c % 64) ∷ []) (omega arith) (omega arith)
shape c zero false false false e = absurd (omega (arith, e))
shape c (suc zero) false false false e = absurd (omega (arith, e))
shape c (suc (suc zero)) false false false e = absurd (omega (arith, e))
shape c (suc (suc (suc (suc n)))) false false false e = absurd (omega (arith, e))

encode_is : (n c : ℕ) → len_utf8 c ≡ suc n → encode c ≡ lead n (high n c) ∷ tails n c
unfolding encode
encode_is n c e = shape c n (nat_lt c 128) (nat_lt c 2048) (nat_lt c 65536) e

-- the first byte determines how many follow, and the first bits
low_bound : (c : ℕ) → len_utf8 c ≡ 2 → 128 ≤ c
low_bound c e = grind (arith, nat_tests)

lead_back : (b c : ℕ) (p q r : Bool) → nat_lt b 128 ≡ p → nat_lt b 224 ≡ q → nat_lt b 240 ≡ r
    → high (cond p 0 (cond q 1 (cond r 2 3))) c ≡ cond p b (cond q (b - 192) (cond r (b - 224) (b - 240))) → len_utf8 c ≡ suc (cond p 0 (cond q 1 (cond r 2 3)))
    → b ≡ lead (cond p 0 (cond q 1 (cond r 2 3))) (high (cond p 0 (cond q 1 (cond r 2 3))) c)
lead_back b c true q r is₁ is₂ is₃ e len = sym e
lead_back b c false true r is₁ is₂ is₃ e len = omega (arith, e, low_bound c len)
lead_back b c false false true is₁ is₂ is₃ e len = let at : 224 ≤ b = grind (arith, nat_tests) in omega (arith, e, at)
lead_back b c false false false is₁ is₂ is₃ e len = let at : 240 ≤ b = grind (arith, nat_tests) in omega (arith, e, at)

pub below_all : (c : ℕ) → scalar c ≡ true → c < 1114112
below_all c s = elim (scalar_cases c s) [ inl h ↦ omega (arith, h) | inr h ↦ h.1 ]

lead_reads : (n c : ℕ) → c < 1114112 → len_utf8 c ≡ suc n → (continuation_len (lead n (high n c)) ≡ n) × (lead_bits (lead n (high n c)) ≡ high n c)
lead_reads zero c top e = let a : c < 128 = grind (arith, nat_tests) in (grind (arith, nat_tests), grind (arith, nat_tests))
lead_reads (suc zero) c top e = let a : c < 2048 = grind (arith, nat_tests) in (grind (arith, nat_tests), grind (arith, nat_tests))
lead_reads (suc (suc zero)) c top e = let a : c < 65536 = grind (arith, nat_tests) in (grind (arith, nat_tests), grind (arith, nat_tests))
lead_reads (suc (suc (suc zero))) c top e = (grind (arith, nat_tests), grind (arith, nat_tests))
lead_reads (suc (suc (suc (suc n)))) c top e = absurd (omega (arith, e, (len_utf8_bounds c).1))

eq_from : (a b : ℕ) → nat_eq a b ≡ true → a ≡ b
eq_from a b e = grind (arith, nat_tests)

eq_to : (a b : ℕ) → a ≡ b → nat_eq a b ≡ true
eq_to a b e = grind (arith, nat_tests)

pub first_stands : (member : ℕ → Bool) (bs : List ℕ) (k : ℕ) → first_len member bs ≡ Some k → MemberFirst member bs k
first_stands member [] k e = absurd (cc e)
first_stands member (b ∷ bs) k e =
    let n = continuation_len b in
    let m = map_some (rest (of_len member n) n (lead_bits b) bs) k e in
    let r = read_is (of_len member n) n (lead_bits b) bs m.0 m.1 in
    let h = both (scalar r.c) _ r.is_in in
    let h' = both (nat_eq (len_utf8 r.c) (suc n)) (member r.c) h.1 in
    let len = eq_from (len_utf8 r.c) (suc n) h'.0 in
    let byte : b ≡ lead n (high n r.c) = lead_back b r.c (nat_lt b 128) (nat_lt b 224) (nat_lt b 240) refl refl refl r.bits len in
    record { c = r.c; scalar = h.0; is_in = h'.1; rest = r.left; bytes = ap₂ (λ x y. x ∷ y) byte r.bytes ∙ ap (λ x. x ++ r.left) (sym (encode_is n r.c len)); counted = m.2 ∙ ap suc r.counted ∙ sym len }

pub stands_at : (member : ℕ → Bool) (bs : List ℕ) (k n : ℕ) (s : MemberFirst member bs k) → len_utf8 s.c ≡ suc n → first_len member bs ≡ Some k
stands_at member bs k n s len =
    let h = high n s.c in
    let one = lead_reads n s.c (below_all s.c s.scalar) len in
    let here : bs ≡ lead n h ∷ (tails n s.c ++ s.rest) = s.bytes ∙ ap (λ x. x ++ s.rest) (encode_is n s.c len) in
    let is : of_len member n s.c ≡ true = ap₂ (λ x y. x && y) s.scalar (ap₂ (λ x y. x && y) (eq_to (len_utf8 s.c) (suc n) len) s.is_in) in
    ap (first_len member) here
    ∙ ap₂ (λ x y. option_map suc (rest (of_len member x) x y (tails n s.c ++ s.rest))) one.0 one.1
    ∙ ap (option_map suc) (reads_back (of_len member n) n s.c s.rest is)
    ∙ ap Some (sym len ∙ sym s.counted)

positive : (n : ℕ) → 1 ≤ n → (m : ℕ) × (n ≡ suc m)
positive zero e = absurd (omega (arith, e))
positive (suc m) e = (m, refl)

pub stands_first : (member : ℕ → Bool) (bs : List ℕ) (k : ℕ) → MemberFirst member bs k → first_len member bs ≡ Some k
stands_first member bs k s = let n = positive (len_utf8 s.c) (len_utf8_bounds s.c).0 in stands_at member bs k n.0 s n.1

pub first_is : FirstCharacterStands → (member : ℕ → Bool) (bs : List ℕ) → first_len member bs ≡ member_len member bs
first_is law member bs = same_option (first_len member bs) (member_len member bs) (λ k e. stands_member law member bs k (first_stands member bs k e)) (λ k e. stands_first member bs k (member_stands law member bs k e))
