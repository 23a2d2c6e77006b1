-- The characters on both sides of an offset, from a few bytes of each side.
use Rattle.std.proofs.Common.{◌≡◌, ℕ, zero, suc, ◌-◌, ◌≤◌, ◌⊎◌, Bool, true, false, List, [], ◌∷◌, ◌++◌, length, take, drop, reverse, min, cond, Option, Some, None, refl, sym, ap, ◌∙◌, arith, inl, inr}
use Rattle.std.specs.Str.{is_utf8, IsUtf8, chars}
use Rattle.std.proofs.Math.Utf8.{encode}
use Rattle.std.proofs.lemmas.Str.{IsUtf8-from_is_utf8, is_utf8-from_IsUtf8, IsUtf8-past_char, chars-nil, chars_past_char}
use Rattle.std.proofs.lemmas.List.{take-append-drop, take-append-le, reverse-append, reverse-reverse, length-reverse, length-drop}
use Rattle.rx_walks.specs.Characters.{only_one, character_of}

-- a text without bytes after its first character, and one with a second character
pub one_character : (text rest : List ℕ) (c : ℕ) → IsUtf8 text → text ≡ encode c ++ rest → length rest ≡ 0 → Some c ≡ only_one (chars text)
one_character text [] c utf8 e none = sym (ap only_one (chars_past_char text [] c utf8 e ∙ ap (λ cs. c ∷ cs) chars-nil))
one_character text (b ∷ rest) c utf8 e none = absurd (omega (arith, none))

pub two_characters : (text rest more : List ℕ) (c d : ℕ) → IsUtf8 text → text ≡ encode c ++ rest → rest ≡ encode d ++ more → None ≡ only_one (chars text)
two_characters text rest more c d utf8 e f =
    sym (ap only_one (chars_past_char text rest c utf8 e ∙ ap (λ cs. c ∷ cs) (chars_past_char rest more d (IsUtf8-past_char text rest c utf8 e) f)))

pub one_of_text : (bytes : List ℕ) (o : Option ℕ) → IsUtf8 bytes → o ≡ only_one (chars bytes) → o ≡ character_of bytes
one_of_text bytes o utf8 e = e ∙ sym (ap (λ b. cond b (only_one (chars bytes)) None) (is_utf8-from_IsUtf8 bytes utf8))

pub none_of_others : (bytes : List ℕ) → (IsUtf8 bytes → ⊥) → None ≡ character_of bytes
none_of_others bytes is_not = go (is_utf8 bytes) refl
  where
    go : (b : Bool) → is_utf8 bytes ≡ b → None ≡ cond b (only_one (chars bytes)) None
    go true e = absurd (is_not (IsUtf8-from_is_utf8 bytes e))
    go false e = refl

pub take_all : (n : ℕ) (xs : List ℕ) → length xs ≤ n → take n xs ≡ xs
take_all zero [] le = refl
take_all (suc n) [] le = refl
take_all zero (x ∷ xs) le = absurd (omega (arith, le))
take_all (suc n) (x ∷ xs) le = ap (λ ys. x ∷ ys) (take_all n xs (omega (arith, le)))

pub less_or_more : (k n : ℕ) → (k ≤ n) ⊎ (n ≤ k)
less_or_more zero n = inl (omega arith)
less_or_more (suc k) zero = inr (omega arith)
less_or_more (suc k) (suc n) = elim (less_or_more k n) [ inl le ↦ inl (omega (arith, le)) | inr le ↦ inr (omega (arith, le)) ]

-- the last bytes, in order and in reverse order
pub back_is : (xs : List ℕ) (k m : ℕ) → m ≡ min k (length xs) → take (length xs - (length xs - m)) (drop (length xs - m) xs) ≡ reverse (take k (reverse xs))
back_is xs k m e =
    let j = length xs - m in
    let tail = drop j xs in
    let head = take j xs in
    let len : length tail ≡ m = omega (arith, e, length-drop j xs) in
    let left : take (length xs - j) tail ≡ tail = take_all (length xs - j) tail (omega (arith, e, len)) in
    let back : reverse xs ≡ reverse tail ++ reverse head = ap (λ ys. reverse ys) (sym (take-append-drop j xs)) ∙ reverse-append head tail in
    let right : reverse (take k (reverse xs)) ≡ tail = elim (less_or_more k (length xs)) [
      | inl le ↦ ap (λ ys. reverse (take k ys)) back
          ∙ ap (λ ys. reverse ys) (take-append-le k (reverse tail) (reverse head) (omega (arith, e, le, len, length-reverse tail))
          ∙ take_all k (reverse tail) (omega (arith, e, len, length-reverse tail)))
          ∙ reverse-reverse tail
      | inr le ↦ let none : j ≡ 0 = omega (arith, e, le) in
          ap (λ ys. reverse ys) (take_all k (reverse xs) (omega (arith, le, length-reverse xs))) ∙ reverse-reverse xs ∙ sym (ap (λ i. drop i xs) none)
    ] in
    left ∙ sym right
