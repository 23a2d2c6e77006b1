-- Bytes that begin a text: a text, and then a part of a character.
use Rattle.std.proofs.Common.{◌≡◌, ℕ, ◌+◌, ◌-◌, ◌*◌, ◌/◌, ◌%◌, ◌<◌, ◌≤◌, ◌⊎◌, inl, inr, ⊎_elim, Bool, true, false, ◌&&◌, List, [], ◌∷◌, ◌++◌, length, take, drop, refl, sym, ap, subst, ◌∙◌, arith, length-append, take-append-drop, get_or, None, Some, Option, IsUtf8}
use Rattle.std.proofs.lemmas.Bool.{cases_lt, cases_eq}
use Rattle.std.proofs.lemmas.Bool.Decides.{nat_tests}
use Rattle.std.proofs.lemmas.Str.{IsUtf8-append, IsUtf8-nil, IsUtf8-encode, IsUtf8-drop, IsCharBoundary-from_take, encode_ascii, length-encode, len_utf8_bounds}
use Rattle.std.proofs.lemmas.List.{take-append-le, drop-append-le, take_all}
use Rattle.std.proofs.Math.Seq.{take-add}
use Rattle.std.proofs.Math.Utf8.{encode, encodes, scalar, scalars}
use Rattle.std.specs.Option.{is_some}
use Rattle.std.specs.Str.{IsValidUpTo}
use Rattle.std.specs.Str.Lossy.{utf8_error_len}
use Rattle.ropey.specs.Reading.{BeginsText}

-- ---- characters by their bytes
two : (c : ℕ) → 128 ≤ c → c < 2048 → encode c ≡ (192 + c / 64) ∷ (128 + c % 64) ∷ []
unfolding encode
two c low high = grind (arith, nat_tests)

three : (c : ℕ) → 2048 ≤ c → c < 65536 → encode c ≡ (224 + c / 4096) ∷ (128 + (c / 64) % 64) ∷ (128 + c % 64) ∷ []
unfolding encode
three c low high = grind (arith, nat_tests)

four : (c : ℕ) → 65536 ≤ c → encode c ≡ (240 + c / 262144) ∷ (128 + (c / 4096) % 64) ∷ (128 + (c / 64) % 64) ∷ (128 + c % 64) ∷ []
unfolding encode
four c low = grind (arith, nat_tests)

-- a second byte that may follow the first
pub record Second (a b : ℕ) : Type 0 where
  pub low : 128 ≤ b
  pub high : b < 192
  pub not_short_3 : a ≡ 224 → 160 ≤ b
  pub not_surrogate : a ≡ 237 → b < 160
  pub not_short_4 : a ≡ 240 → 144 ≤ b
  pub not_large : a ≡ 244 → b < 144

text_two : (a b : ℕ) → 194 ≤ a → a < 224 → Second a b → IsUtf8 (a ∷ b ∷ [])
text_two a b l h s =
    let c : ℕ = (a - 192) * 64 + (b - 128) in
    let first : 192 + c / 64 ≡ a = omega arith in
    let second : 128 + c % 64 ≡ b = omega arith in
    let valid : scalar c ≡ true = grind (arith, nat_tests) in
    let is : encode c ≡ a ∷ b ∷ [] = two c (omega arith) (omega arith) ∙ (λ i. first i ∷ second i ∷ []) in
    subst IsUtf8 is (IsUtf8-encode c valid)

text_three : (a b d : ℕ) → 224 ≤ a → a < 240 → Second a b → 128 ≤ d → d < 192 → IsUtf8 (a ∷ b ∷ d ∷ [])
text_three a b d l h s low high =
    let c : ℕ = (a - 224) * 4096 + (b - 128) * 64 + (d - 128) in
    let first : 224 + c / 4096 ≡ a = omega arith in
    let second : 128 + (c / 64) % 64 ≡ b = omega arith in
    let third : 128 + c % 64 ≡ d = omega arith in
    let valid : scalar c ≡ true = grind (arith, nat_tests) in
    let is : encode c ≡ a ∷ b ∷ d ∷ [] = three c (grind arith) (omega arith) ∙ (λ i. first i ∷ second i ∷ third i ∷ []) in
    subst IsUtf8 is (IsUtf8-encode c valid)

text_four : (a b d e : ℕ) → 240 ≤ a → a ≤ 244 → Second a b → 128 ≤ d → d < 192 → 128 ≤ e → e < 192 → IsUtf8 (a ∷ b ∷ d ∷ e ∷ [])
text_four a b d e l h s low high low' high' =
    let c : ℕ = (a - 240) * 262144 + (b - 128) * 4096 + (d - 128) * 64 + (e - 128) in
    let first : 240 + c / 262144 ≡ a = omega arith in
    let second : 128 + (c / 4096) % 64 ≡ b = omega arith in
    let third : 128 + (c / 64) % 64 ≡ d = omega arith in
    let fourth : 128 + c % 64 ≡ e = omega arith in
    let valid : scalar c ≡ true = grind (arith, nat_tests) in
    let is : encode c ≡ a ∷ b ∷ d ∷ e ∷ [] = four c (grind arith) ∙ (λ i. first i ∷ second i ∷ third i ∷ fourth i ∷ []) in
    subst IsUtf8 is (IsUtf8-encode c valid)

-- ---- a part of a character
abbrev pub Part : List ℕ → Type 0
Part [] = Unit {0}
Part (a ∷ []) = (194 ≤ a) × (a ≤ 244)
Part (a ∷ b ∷ []) = (224 ≤ a) × (a ≤ 244) × Second a b
Part (a ∷ b ∷ d ∷ []) = (240 ≤ a) × (a ≤ 244) × Second a b × (128 ≤ d) × (d < 192)
Part (a ∷ b ∷ d ∷ e ∷ bs) = ⊥

-- each first byte has a second one
has_second : (a b : ℕ) → Second a b → (b : ℕ) × Second a b
has_second a b s = (b, s)

second_128 : (a : ℕ) → (a ≡ 224 → ⊥) → (a ≡ 240 → ⊥) → (b : ℕ) × Second a b
second_128 a other_3 other_4 = has_second a 128 (record { low = omega arith; high = omega arith; not_short_3 = λ e. absurd (other_3 e); not_surrogate = λ e. omega arith; not_short_4 = λ e. absurd (other_4 e); not_large = λ e. omega arith })

a_second : (a : ℕ) → (b : ℕ) × Second a b
a_second a =
    ⊎_elim (λ (is : a ≡ 224). has_second a 160 (record { low = omega arith; high = omega arith; not_short_3 = λ e. omega arith; not_surrogate = λ e. absurd (omega arith); not_short_4 = λ e. absurd (omega arith); not_large = λ e. absurd (omega arith) })) (λ (other_3 : a ≡ 224 → ⊥).
    ⊎_elim (λ (is : a ≡ 240). has_second a 144 (record { low = omega arith; high = omega arith; not_short_3 = λ e. absurd (omega arith); not_surrogate = λ e. absurd (omega arith); not_short_4 = λ e. omega arith; not_large = λ e. absurd (omega arith) }))
    (λ (other_4 : a ≡ 240 → ⊥). second_128 a other_3 other_4)
    (cases_eq a 240)) (cases_eq a 224)

begins : (bs more : List ℕ) → IsUtf8 (bs ++ more) → BeginsText bs
begins bs more text = (more, text)

pub begins_from_part : (bs : List ℕ) → Part bs → BeginsText bs
begins_from_part [] h = ([], IsUtf8-nil)
begins_from_part (a ∷ []) h =
    let second = a_second a in
    ⊎_elim (λ (below : a < 224). begins (a ∷ []) (second.0 ∷ []) (text_two a second.0 h.0 below second.1)) (λ (from : 224 ≤ a).
    ⊎_elim (λ (below : a < 240). begins (a ∷ []) (second.0 ∷ 128 ∷ []) (text_three a second.0 128 from below second.1 (omega arith) (omega arith)))
    (λ (above : 240 ≤ a). begins (a ∷ []) (second.0 ∷ 128 ∷ 128 ∷ []) (text_four a second.0 128 128 above h.1 second.1 (omega arith) (omega arith) (omega arith) (omega arith)))
    (cases_lt a 240)) (cases_lt a 224)
begins_from_part (a ∷ b ∷ []) h =
    ⊎_elim (λ (below : a < 240). begins (a ∷ b ∷ []) (128 ∷ []) (text_three a b 128 h.0 below h.2 (omega arith) (omega arith)))
    (λ (above : 240 ≤ a). begins (a ∷ b ∷ []) (128 ∷ 128 ∷ []) (text_four a b 128 128 above h.1 h.2 (omega arith) (omega arith) (omega arith) (omega arith)))
    (cases_lt a 240)
begins_from_part (a ∷ b ∷ d ∷ []) h = (128 ∷ [], text_four a b d 128 h.0 h.1 h.2 h.3 h.4 (omega arith) (omega arith))
begins_from_part (a ∷ b ∷ d ∷ e ∷ bs) h = absurd h

-- no text is at their front
abbrev BeginsNone : List ℕ → Type 0
BeginsNone bs = (m : ℕ) → 0 < m → IsUtf8 (take m bs) → ⊥

part_from_none : (bs : List ℕ) → BeginsNone bs → utf8_error_len bs ≡ None → Part bs
unfolding utf8_error_len
part_from_none [] none cut = tt
part_from_none (a ∷ []) none cut = (grind (arith, nat_tests), grind (arith, nat_tests))
part_from_none (a ∷ b ∷ []) none cut =
    let low : 194 ≤ a = grind (arith, nat_tests) in
    let second : Second a b = record { low = grind (arith, nat_tests); high = grind (arith, nat_tests); not_short_3 = λ e. grind (arith, nat_tests); not_surrogate = λ e. grind (arith, nat_tests); not_short_4 = λ e. grind (arith, nat_tests); not_large = λ e. grind (arith, nat_tests) } in
    ⊎_elim (λ (below : a < 224). absurd (none 2 (omega arith) (text_two a b low below second))) (λ (from : 224 ≤ a). (from, grind (arith, nat_tests), second)) (cases_lt a 224)
part_from_none (a ∷ b ∷ d ∷ []) none cut =
    let low : 194 ≤ a = grind (arith, nat_tests) in
    let second : Second a b = record { low = grind (arith, nat_tests); high = grind (arith, nat_tests); not_short_3 = λ e. grind (arith, nat_tests); not_surrogate = λ e. grind (arith, nat_tests); not_short_4 = λ e. grind (arith, nat_tests); not_large = λ e. grind (arith, nat_tests) } in
    let third : 128 ≤ d = grind (arith, nat_tests) in
    let third' : d < 192 = grind (arith, nat_tests) in
    ⊎_elim (λ (below : a < 224). absurd (none 2 (omega arith) (text_two a b low below second))) (λ (from : 224 ≤ a).
    ⊎_elim (λ (below : a < 240). absurd (none 3 (omega arith) (text_three a b d from below second third third')))
    (λ (above : 240 ≤ a). (above, grind (arith, nat_tests), second, third, third'))
    (cases_lt a 240)) (cases_lt a 224)
part_from_none (a ∷ b ∷ d ∷ e ∷ bs) none cut = absurd (grind (arith, nat_tests))

none_from_part : (bs : List ℕ) → Part bs → utf8_error_len bs ≡ None
unfolding utf8_error_len
none_from_part [] h = refl
none_from_part (a ∷ []) h = grind (arith, nat_tests)
none_from_part (a ∷ b ∷ []) h = grind (arith, nat_tests)
none_from_part (a ∷ b ∷ d ∷ []) h = grind (arith, nat_tests)
none_from_part (a ∷ b ∷ d ∷ e ∷ bs) h = absurd h

-- ---- a character's bytes, and what stands before the last of them
by_range : (P : Type 0) (c : ℕ) → (c < 128 → P) → (128 ≤ c → c < 2048 → P) → (2048 ≤ c → c < 65536 → P) → (65536 ≤ c → P) → P
by_range P c one two three four = ⊎_elim one (λ (from : 128 ≤ c). ⊎_elim (two from) (λ (from' : 2048 ≤ c). ⊎_elim (three from') four (cases_lt c 65536)) (cases_lt c 2048)) (cases_lt c 128)

-- the bytes of a character before some others of it
module _ (c : ℕ) (valid : scalar c ≡ true) (y : List ℕ) (some : 0 < length y) where
  top : c < 1114112
  top = grind (arith, nat_tests)

  apart : (c < 55296) ⊎ (57344 ≤ c)
  apart = ⊎_elim (λ (low : c < 55296). inl low) (λ (high : 55296 ≤ c). inr (grind (arith, nat_tests))) (cases_lt c 55296)

  part_one : (a : ℕ) → encode c ≡ a ∷ y → Part (a ∷ [])
  part_one a is = by_range (Part (a ∷ [])) c
      (λ low. absurd (omega (arith, some, ap length (sym (encode_ascii c low) ∙ is))))
      (λ low high. let e = sym (two c low high) ∙ is in (omega (arith, ap (λ l. get_or l 0 0) e), omega (arith, ap (λ l. get_or l 0 0) e)))
      (λ low high. let e = sym (three c low high) ∙ is in (omega (arith, ap (λ l. get_or l 0 0) e), omega (arith, ap (λ l. get_or l 0 0) e)))
      (λ low. let e = sym (four c low) ∙ is in (omega (arith, ap (λ l. get_or l 0 0) e), omega (arith, top, ap (λ l. get_or l 0 0) e)))

  part_two : (a b : ℕ) → encode c ≡ a ∷ b ∷ y → Part (a ∷ b ∷ [])
  part_two a b is = by_range (Part (a ∷ b ∷ [])) c
      (λ low. absurd (omega (arith, some, ap length (sym (encode_ascii c low) ∙ is))))
      (λ low high. absurd (omega (arith, some, ap length (sym (two c low high) ∙ is))))
      (λ low high.
      let e = sym (three c low high) ∙ is in
      let a_is : 224 + c / 4096 ≡ a = ap (λ l. get_or l 0 0) e in
      let b_is : 128 + (c / 64) % 64 ≡ b = ap (λ l. get_or l 1 0) e in
      (omega arith, omega arith, record { low = omega arith; high = omega arith; not_short_3 = λ is. omega arith; not_surrogate = λ is. grind (arith, apart); not_short_4 = λ is. absurd (omega arith); not_large = λ is. absurd (omega arith) }))
      (λ low.
      let e = sym (four c low) ∙ is in
      let a_is : 240 + c / 262144 ≡ a = ap (λ l. get_or l 0 0) e in
      let b_is : 128 + (c / 4096) % 64 ≡ b = ap (λ l. get_or l 1 0) e in
      let fits = top in
      (omega arith, omega arith, record { low = omega arith; high = omega arith; not_short_3 = λ is. absurd (omega arith); not_surrogate = λ is. absurd (omega arith); not_short_4 = λ is. omega arith; not_large = λ is. omega arith }))

  part_three : (a b d : ℕ) → encode c ≡ a ∷ b ∷ d ∷ y → Part (a ∷ b ∷ d ∷ [])
  part_three a b d is = by_range (Part (a ∷ b ∷ d ∷ [])) c
      (λ low. absurd (omega (arith, some, ap length (sym (encode_ascii c low) ∙ is))))
      (λ low high. absurd (omega (arith, some, ap length (sym (two c low high) ∙ is))))
      (λ low high. absurd (omega (arith, some, ap length (sym (three c low high) ∙ is))))
      (λ low.
      let e = sym (four c low) ∙ is in
      let a_is : 240 + c / 262144 ≡ a = ap (λ l. get_or l 0 0) e in
      let b_is : 128 + (c / 4096) % 64 ≡ b = ap (λ l. get_or l 1 0) e in
      let d_is : 128 + (c / 64) % 64 ≡ d = ap (λ l. get_or l 2 0) e in
      let fits = top in
      (omega arith, omega arith, record { low = omega arith; high = omega arith; not_short_3 = λ is. absurd (omega arith); not_surrogate = λ is. absurd (omega arith); not_short_4 = λ is. omega arith; not_large = λ is. omega arith }, omega arith, omega arith))

  four_bytes : length (encode c) ≤ 4
  four_bytes = by_range (length (encode c) ≤ 4) c
      (λ low. omega (arith, ap length (encode_ascii c low)))
      (λ low high. omega (arith, ap length (two c low high)))
      (λ low high. omega (arith, ap length (three c low high)))
      (λ low. omega (arith, ap length (four c low)))

  part_of_char : (bs : List ℕ) → encode c ≡ bs ++ y → Part bs
  part_of_char [] is = tt
  part_of_char (a ∷ []) is = part_one a is
  part_of_char (a ∷ b ∷ []) is = part_two a b is
  part_of_char (a ∷ b ∷ d ∷ []) is = part_three a b d is
  part_of_char (a ∷ b ∷ d ∷ e ∷ bs) is = absurd (omega (arith, some, four_bytes, ap length is, length-append bs y))

-- ---- what `str::from_utf8` tells
both_true : (x y : Bool) → x && y ≡ true → (x ≡ true) × (y ≡ true)
both_true true y h = (refl, h)
both_true false y h = cc

-- bytes that begin a text, but with no character at their front, are a part of one
part_from_text : (bs more cs : List ℕ) → BeginsNone bs → scalars cs ≡ true → encodes cs ≡ bs ++ more → Part bs
part_from_text [] more cs none valid whole = tt
part_from_text (b ∷ bs) more [] none valid whole = absurd (omega (arith, ap length whole))
part_from_text (b ∷ bs) more (c ∷ cs) none valid whole =
    let front = b ∷ bs in
    let char = encode c in
    let is_scalar = (both_true (scalar c) (scalars cs) valid).0 in
    ⊎_elim
    (λ (cut : length front < length char).
    let same : take (length front) char ≡ front =
    sym (take-append-le (length front) char (encodes cs) (omega arith)) ∙ ap (take (length front)) whole ∙ take-append-le (length front) front more (omega arith) ∙ take_all (length front) front (omega arith) in
    let parts : char ≡ front ++ drop (length front) char = sym (take-append-drop (length front) char) ∙ ap (λ l. l ++ drop (length front) char) same in
    part_of_char c is_scalar (drop (length front) char) (omega (arith, ap length parts, length-append front (drop (length front) char))) front parts)
    (λ (whole_char : length char ≤ length front).
    let same : take (length char) front ≡ char =
    sym (take-append-le (length char) front more whole_char) ∙ ap (take (length char)) (sym whole) ∙ take-append-le (length char) char (encodes cs) (omega arith) ∙ take_all (length char) char (omega arith) in
    absurd (none (length char) (omega (arith, length-encode c, (len_utf8_bounds c).0)) (subst IsUtf8 (sym same) (IsUtf8-encode c is_scalar))))
    (cases_lt (length front) (length char))

-- behind the longest text there is none
none_behind : (bs : List ℕ) (n : ℕ) → IsValidUpTo bs n → BeginsNone (drop n bs)
none_behind bs n cut m some text = cut.longest (n + m) (omega arith) (subst IsUtf8 (sym (take-add n m bs)) (IsUtf8-append (take n bs) (take m (drop n bs)) cut.front text))

-- what stands at fault isn't cut by the end: no text begins so
pub begins_no_text : (bs : List ℕ) (n : ℕ) (fault : Option ℕ) → IsValidUpTo bs n → fault ≡ utf8_error_len (drop n bs) → is_some fault ≡ true → BeginsText bs → ⊥
begins_no_text bs n fault cut is some text =
    let more = text.0 in
    let short = cut.short in
    let front : take n (bs ++ more) ≡ take n bs = take-append-le n bs more (omega arith) in
    let boundary = IsCharBoundary-from_take (bs ++ more) n text.1 (omega (arith, length-append bs more)) (subst IsUtf8 (sym front) cut.front) in
    let behind : IsUtf8 (drop n bs ++ more) = subst IsUtf8 (drop-append-le n bs more (omega arith)) (IsUtf8-drop (bs ++ more) n text.1 boundary) in
    none_is_some fault (is ∙ none_from_part (drop n bs) (part_from_text (drop n bs) more behind.0 (none_behind bs n cut) behind.1.0 behind.1.1)) some
  where
    none_is_some : (fault : Option ℕ) → fault ≡ None → is_some fault ≡ true → ⊥
    none_is_some (Some k) e some = cc
    none_is_some None e some = cc

-- the end cuts it: it is a part of a character
pub is_part : (bs : List ℕ) (n : ℕ) (fault : Option ℕ) → IsValidUpTo bs n → fault ≡ utf8_error_len (drop n bs) → is_some fault ≡ false → Part (drop n bs)
is_part bs n (Some k) cut is none = cc
is_part bs n None cut is none = part_from_none (drop n bs) (none_behind bs n cut) (sym is)

pub part_is_short : (bs : List ℕ) → Part bs → length bs < 4
part_is_short [] h = omega arith
part_is_short (a ∷ []) h = omega arith
part_is_short (a ∷ b ∷ []) h = omega arith
part_is_short (a ∷ b ∷ d ∷ []) h = omega arith
part_is_short (a ∷ b ∷ d ∷ e ∷ bs) h = absurd h
