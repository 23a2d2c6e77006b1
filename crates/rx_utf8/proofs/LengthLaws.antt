-- The code points of a set, by their number of bytes.
use Rattle.std.proofs.Common.{◌≡◌, ℕ, zero, suc, ◌+◌, ◌-◌, ◌<◌, ◌≤◌, ◌⊎◌, Bool, true, false, ◌&&◌, ◌||◌, nat_le, nat_eq, List, [], refl, sym, ap, ap₂, ◌∙◌, arith, inl, inr}
use Rattle.std.proofs.lemmas.Bool.Decides.{nat_tests}
use Rattle.std.specs.Char.{len_utf8}
use lib.Utf8.{scalar, scalar_cases, low_scalar}
use Rattle.rx_sets.specs.Sets.{Range, ordinal, in_ranges}
use Rattle.rx_utf8.specs.Automata.{is_in}
use Rattle.rx_utf8.specs.Blocks.{of_len, is_within_shifted, shifted_into, pick, AreMembers}
use Rattle.rx_utf8.proofs.Helpers.{both}

-- a part of the set is its members of a length
same_part : (a s e : Bool) (f : ℕ → Bool) (x o : ℕ) → (a ≡ true → (s ≡ true) × (e ≡ true) × (x ≡ o)) → (s ≡ true → e ≡ true → a ≡ true) → (a && f x) ≡ (s && (e && f o))
same_part true s e f x o to from = let h = to refl in ap f h.2 ∙ sym (ap₂ (λ y z. y && (z && f o)) h.0 h.1)
same_part false true true f x o to from = absurd (cc (from refl refl))
same_part false true false f x o to from = refl
same_part false false e f x o to from = refl

same_parts : (a b s e : Bool) (f : ℕ → Bool) (x y o : ℕ) → (a ≡ true → (s ≡ true) × (e ≡ true) × (x ≡ o)) → (b ≡ true → (s ≡ true) × (e ≡ true) × (y ≡ o))
    → (s ≡ true → e ≡ true → (a ≡ true) ⊎ (b ≡ true)) → ((a && f x) || (b && f y)) ≡ (s && (e && f o))
same_parts true true s e f x y o first second from = let h = first refl in ap₂ (λ u v. u || v) (ap f h.2) (ap f (second refl).2) ∙ same (f o) ∙ sym (ap₂ (λ u v. u && (v && f o)) h.0 h.1)
  where
    same : (u : Bool) → (u || u) ≡ u
    same true = refl
    same false = refl
same_parts true false s e f x y o first second from = let h = first refl in or_no (f x) ∙ ap f h.2 ∙ sym (ap₂ (λ u v. u && (v && f o)) h.0 h.1)
  where
    or_no : (u : Bool) → (u || false) ≡ u
    or_no true = refl
    or_no false = refl
same_parts false true s e f x y o first second from = let h = second refl in ap f h.2 ∙ sym (ap₂ (λ u v. u && (v && f o)) h.0 h.1)
same_parts false false true true f x y o first second from = elim (from refl refl) [ inl h ↦ absurd (cc h) | inr h ↦ absurd (cc h) ]
same_parts false false true false f x y o first second from = refl
same_parts false false false e f x y o first second from = refl

within_is : (low high shift c : ℕ) → is_within_shifted low high shift c ≡ true → (low + shift ≤ c) × (c ≤ high + shift)
within_is low high shift c e = let h = both (nat_le (low + shift) c) (nat_le c (high + shift)) e in (grind (arith, nat_tests, h.0), grind (arith, nat_tests, h.1))

is_inside : (low high shift c : ℕ) → low + shift ≤ c → c ≤ high + shift → is_within_shifted low high shift c ≡ true
is_inside low high shift c from to = grind (arith, nat_tests)

low_ordinal : (c : ℕ) → c < 0xD800 → ordinal c ≡ c
low_ordinal c less = grind (arith, nat_tests)

high_ordinal : (c : ℕ) → 0xD800 ≤ c → ordinal c ≡ c - 0x800
high_ordinal c more = grind (arith, nat_tests)

high_scalar : (c : ℕ) → 0xE000 ≤ c → c < 0x11_0000 → scalar c ≡ true
high_scalar c from to = grind (arith, nat_tests)

len_is : (c n : ℕ) → len_utf8 c ≡ n → nat_eq (len_utf8 c) n ≡ true
len_is c n e = grind (arith, nat_tests)

len_from : (c n : ℕ) → nat_eq (len_utf8 c) n ≡ true → len_utf8 c ≡ n
len_from c n e = grind (arith, nat_tests)

len_one : (c : ℕ) → c < 128 → len_utf8 c ≡ 1
len_one c less = grind (arith, nat_tests)

len_two : (c : ℕ) → 128 ≤ c → c < 2048 → len_utf8 c ≡ 2
len_two c from less = grind (arith, nat_tests)

len_three : (c : ℕ) → 2048 ≤ c → c < 65536 → len_utf8 c ≡ 3
len_three c from less = grind (arith, nat_tests)

len_four : (c : ℕ) → 65536 ≤ c → len_utf8 c ≡ 4
len_four c from = grind (arith, nat_tests)

from_one : (c : ℕ) → len_utf8 c ≡ 1 → c < 128
from_one c e = grind (arith, nat_tests)

from_two : (c : ℕ) → len_utf8 c ≡ 2 → (128 ≤ c) × (c < 2048)
from_two c e = (grind (arith, nat_tests), grind (arith, nat_tests))

from_three : (c : ℕ) → len_utf8 c ≡ 3 → (2048 ≤ c) × (c < 65536)
from_three c e = (grind (arith, nat_tests), grind (arith, nat_tests))

from_four : (c : ℕ) → len_utf8 c ≡ 4 → 65536 ≤ c
from_four c e = grind (arith, nat_tests)

module _ (ranges : List Range) where
  of_one : (c : ℕ) → shifted_into [] ranges 0 0x7F 0 c ≡ of_len (is_in ranges) 0 c
  of_one c = same_part (is_within_shifted 0 0x7F 0 c) (scalar c) (nat_eq (len_utf8 c) 1) (in_ranges ranges) (c - 0) (ordinal c)
      (λ e. let at = within_is 0 0x7F 0 c e in
      let less : c < 128 = omega (arith, at.1) in
      let low : c < 0xD800 = omega (arith, at.1) in
      (low_scalar c low, len_is c 1 (len_one c less), omega (arith, low_ordinal c low)))
      (λ s e. let h = from_one c (len_from c 1 e) in is_inside 0 0x7F 0 c (omega arith) (omega (arith, h)))

  of_two : (c : ℕ) → shifted_into [] ranges 0x80 0x7FF 0 c ≡ of_len (is_in ranges) 1 c
  of_two c = same_part (is_within_shifted 0x80 0x7FF 0 c) (scalar c) (nat_eq (len_utf8 c) 2) (in_ranges ranges) (c - 0) (ordinal c)
      (λ e. let at = within_is 0x80 0x7FF 0 c e in
      let low : c < 0xD800 = omega (arith, at.1) in
      let from : 128 ≤ c = omega (arith, at.0) in
      let less : c < 2048 = omega (arith, at.1) in
      (low_scalar c low, len_is c 2 (len_two c from less), omega (arith, low_ordinal c low)))
      (λ s e. let h = from_two c (len_from c 2 e) in is_inside 0x80 0x7FF 0 c (omega (arith, h.0)) (omega (arith, h.1)))

  of_three : (c : ℕ) → ((is_within_shifted 0x800 0xD7FF 0 c && in_ranges ranges (c - 0)) || (is_within_shifted 0xD800 0xF7FF 0x800 c && in_ranges ranges (c - 0x800))) ≡ of_len (is_in ranges) 2 c
  of_three c = same_parts (is_within_shifted 0x800 0xD7FF 0 c) (is_within_shifted 0xD800 0xF7FF 0x800 c) (scalar c) (nat_eq (len_utf8 c) 3) (in_ranges ranges) (c - 0) (c - 0x800) (ordinal c)
      (λ e. let at = within_is 0x800 0xD7FF 0 c e in
      let low : c < 0xD800 = omega (arith, at.1) in
      let from : 2048 ≤ c = omega (arith, at.0) in
      let less : c < 65536 = omega (arith, at.1) in
      (low_scalar c low, len_is c 3 (len_three c from less), omega (arith, low_ordinal c low)))
      (λ e. let at = within_is 0xD800 0xF7FF 0x800 c e in
      let from : 2048 ≤ c = omega (arith, at.0) in
      let less : c < 65536 = omega (arith, at.1) in
      let high : 0xE000 ≤ c = omega (arith, at.0) in
      let past : 0xD800 ≤ c = omega (arith, at.0) in
      let top : c < 0x11_0000 = omega (arith, at.1) in
      (high_scalar c high top, len_is c 3 (len_three c from less), sym (high_ordinal c past)))
      (λ s e. let h = from_three c (len_from c 3 e) in elim (scalar_cases c s) [
        | inl low ↦ inl (is_inside 0x800 0xD7FF 0 c (omega (arith, h.0)) (omega (arith, low)))
        | inr high ↦ inr (is_inside 0xD800 0xF7FF 0x800 c (omega (arith, high.0)) (omega (arith, h.1)))
      ])

  of_four : (c : ℕ) → shifted_into [] ranges 0xF800 0x10_F7FF 0x800 c ≡ of_len (is_in ranges) 3 c
  of_four c = same_part (is_within_shifted 0xF800 0x10_F7FF 0x800 c) (scalar c) (nat_eq (len_utf8 c) 4) (in_ranges ranges) (c - 0x800) (ordinal c)
      (λ e. let at = within_is 0xF800 0x10_F7FF 0x800 c e in
      let from : 65536 ≤ c = omega (arith, at.0) in
      let high : 0xE000 ≤ c = omega (arith, at.0) in
      let past : 0xD800 ≤ c = omega (arith, at.0) in
      let top : c < 0x11_0000 = omega (arith, at.1) in
      (high_scalar c high top, len_is c 4 (len_four c from), sym (high_ordinal c past)))
      (λ s e. let h = from_four c (len_from c 4 e) in elim (scalar_cases c s) [
        | inl low ↦ absurd (omega (arith, low, h))
        | inr high ↦ is_inside 0xF800 0x10_F7FF 0x800 c (omega (arith, h)) (omega (arith, high.1))
      ])

  pub parts_are_members : (one two half three four : List Range) → ((c : ℕ) → in_ranges one c ≡ shifted_into [] ranges 0 0x7F 0 c) → ((c : ℕ) → in_ranges two c ≡ shifted_into [] ranges 0x80 0x7FF 0 c)
      → ((c : ℕ) → in_ranges half c ≡ shifted_into [] ranges 0x800 0xD7FF 0 c) → ((c : ℕ) → in_ranges three c ≡ shifted_into half ranges 0xD800 0xF7FF 0x800 c)
      → ((c : ℕ) → in_ranges four c ≡ shifted_into [] ranges 0xF800 0x10_F7FF 0x800 c) → AreMembers (pick one two three four) (is_in ranges)
  parts_are_members one two half three four ones twos halves threes fours zero c few = ones c ∙ of_one c
  parts_are_members one two half three four ones twos halves threes fours (suc zero) c few = twos c ∙ of_two c
  parts_are_members one two half three four ones twos halves threes fours (suc (suc zero)) c few =
      threes c ∙ ap (λ x. x || (is_within_shifted 0xD800 0xF7FF 0x800 c && in_ranges ranges (c - 0x800))) (halves c) ∙ of_three c
  parts_are_members one two half three four ones twos halves threes fours (suc (suc (suc zero))) c few = fours c ∙ of_four c
  parts_are_members one two half three four ones twos halves threes fours (suc (suc (suc (suc n)))) c few = absurd (omega (arith, few))
