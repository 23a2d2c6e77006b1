-- The first character of a list of bytes.
use Rattle.std.proofs.Common.{◌≡◌, ℕ, zero, suc, ◌+◌, ◌<◌, ◌≤◌, ◌⊎◌, Bool, true, false, ◌&&◌, cond, nat_lt, ◌/◌, List, [], ◌∷◌, ◌++◌, take, drop, Option, Some, None, refl, sym, ap, ap₂, ◌∙◌, arith, inl, inr}
use Rattle.std.proofs.lemmas.Bool.Decides.{nat_tests}
use Rattle.std.proofs.lemmas.List.{take_at, append-nil}
use Rattle.std.proofs.lemmas.Str.{IsUtf8-from_is_utf8, is_utf8-from_IsUtf8, IsUtf8-encode, encodes-chars, scalars-chars, chars-encodes, encode_same, length-encode, len_utf8_bounds}
use Rattle.std.proofs.Math.Utf8.{encode, encodes, scalars}
use Rattle.std.specs.Str.{is_utf8, chars}
use Rattle.std.specs.Char.{IsScalar, len_utf8}
use Rattle.rx_walks.specs.Characters.{only_one, character_of, first_some, first_character, len_if, member_len, StandsFirst}
use Rattle.rx_walks.proofs.WalkLaws.{same_some}

pub take_drop : (k : ℕ) (bs : List ℕ) → bs ≡ take k bs ++ drop k bs
take_drop zero bs = refl
take_drop (suc k) [] = refl
take_drop (suc k) (b ∷ bs) = ap (λ xs. b ∷ xs) (take_drop k bs)

pub both : (a b : Bool) → (a && b) ≡ true → (a ≡ true) × (b ≡ true)
both true b e = (refl, e)
both false b e = absurd (cc e)

one_in : (cs : List ℕ) (c : ℕ) → only_one cs ≡ Some c → cs ≡ c ∷ []
one_in [] c e = absurd (cc e)
one_in (d ∷ []) c e = ap (λ x. x ∷ []) (same_some refl e)
one_in (d ∷ d' ∷ cs) c e = absurd (cc e)

-- bytes that are a character are its UTF-8
pub character_is : (bs : List ℕ) (c : ℕ) → character_of bs ≡ Some c → IsScalar c × (bs ≡ encode c)
character_is bs c e = tested (is_utf8 bs) refl e
  where
    tested : (b : Bool) → is_utf8 bs ≡ b → cond b (only_one (chars bs)) None ≡ Some c → IsScalar c × (bs ≡ encode c)
    tested false is e = absurd (cc e)
    tested true is e =
        let text = IsUtf8-from_is_utf8 bs is in
        let one = one_in (chars bs) c e in
        ((both _ _ (ap scalars (sym one) ∙ scalars-chars bs text)).0, sym (encodes-chars bs text) ∙ ap encodes one ∙ append-nil (encode c))

alone : (c : ℕ) → IsScalar c → scalars (c ∷ []) ≡ true
alone c scalar = ap (λ b. b && true) scalar

pub character_of-encode : (c : ℕ) → IsScalar c → character_of (encode c) ≡ Some c
character_of-encode c scalar =
    let text = is_utf8-from_IsUtf8 (encode c) (IsUtf8-encode c scalar) in
    let one : chars (encode c) ≡ c ∷ [] = ap chars (sym (append-nil (encode c))) ∙ chars-encodes (c ∷ []) (alone c scalar) in
    ap₂ (λ x y. cond x (only_one y) None) text one

-- the first of two options
pub some_first : (a b : Option ℕ) (c : ℕ) → first_some a b ≡ Some c → (a ≡ Some c) ⊎ (b ≡ Some c)
some_first None b c e = inr e
some_first (Some d) b c e = inl e

pub first_of : (a b : Option ℕ) (c : ℕ) → (a ≡ None) ⊎ (a ≡ Some c) → (a ≡ Some c) ⊎ (b ≡ Some c) → first_some a b ≡ Some c
first_of a b c (inr same) where' = ap (λ x. first_some x b) same
first_of a b c (inl none) (inl is) = absurd (cc (none, is))
first_of a b c (inl none) (inr is) = ap (λ x. first_some x b) none ∙ is

-- the first character is found
at_length : (bs : List ℕ) (k c : ℕ) → character_of (take k bs) ≡ Some c → StandsFirst bs c
at_length bs k c e = let one = character_is (take k bs) c e in record { scalar = one.0; rest = drop k bs; stands = take_drop k bs ∙ ap (λ x. x ++ drop k bs) one.1 }

pub first_stands : (bs : List ℕ) (c : ℕ) → first_character bs ≡ Some c → StandsFirst bs c
first_stands bs c e = elim (some_first (character_of (take 1 bs)) _ c e) [
  | inl at ↦ at_length bs 1 c at
  | inr e' ↦ elim (some_first (character_of (take 2 bs)) _ c e') [
    | inl at ↦ at_length bs 2 c at
    | inr e'' ↦ elim (some_first (character_of (take 3 bs)) _ c e'') [ inl at ↦ at_length bs 3 c at | inr at ↦ at_length bs 4 c at ]
  ]
]

pub stands_first : (bs : List ℕ) (c : ℕ) → StandsFirst bs c → first_character bs ≡ Some c
stands_first bs c first = let bounds = len_utf8_bounds c in by_length (len_utf8 c) refl bounds.0 bounds.1
  where
    none_or_same : (k : ℕ) (o : Option ℕ) → character_of (take k bs) ≡ o → (o ≡ None) ⊎ (o ≡ Some c)
    none_or_same k None e = inl refl
    none_or_same k (Some d) e = let other = at_length bs k d e in inr (ap Some (encode_same d c other.rest first.rest (sym other.stands ∙ first.stands)).0)

    at : (k : ℕ) → len_utf8 c ≡ k → character_of (take k bs) ≡ Some c
    at k e = ap character_of (ap₂ take (sym e) first.stands ∙ take_at (encode c) first.rest (len_utf8 c) (length-encode c)) ∙ character_of-encode c first.scalar

    by_length : (k : ℕ) → len_utf8 c ≡ k → 1 ≤ k → k ≤ 4 → first_character bs ≡ Some c
    by_length zero e low high = absurd (omega (arith, low))
    by_length (suc zero) e low high = first_of _ _ c (none_or_same 1 _ refl) (inl (at 1 e))
    by_length (suc (suc zero)) e low high = first_of _ _ c (none_or_same 1 _ refl) (inr (first_of _ _ c (none_or_same 2 _ refl) (inl (at 2 e))))
    by_length (suc (suc (suc zero))) e low high = first_of _ _ c (none_or_same 1 _ refl) (inr (first_of _ _ c (none_or_same 2 _ refl) (inr (first_of _ _ c (none_or_same 3 _ refl) (inl (at 3 e))))))
    by_length (suc (suc (suc (suc zero)))) e low high = first_of _ _ c (none_or_same 1 _ refl) (inr (first_of _ _ c (none_or_same 2 _ refl) (inr (first_of _ _ c (none_or_same 3 _ refl) (inr (at 4 e))))))
    by_length (suc (suc (suc (suc (suc k))))) e low high = absurd (omega (arith, high))

-- a first character that is a member
pub member_stands : (member : ℕ → Bool) (bs : List ℕ) (k : ℕ) → member_len member bs ≡ Some k → (c : ℕ) × StandsFirst bs c × (member c ≡ true) × (k ≡ len_utf8 c)
member_stands member bs k e = by_first (first_character bs) refl e
  where
    by_member : (c : ℕ) → first_character bs ≡ Some c → (b : Bool) → member c ≡ b → cond b (Some (len_utf8 c)) None ≡ Some k → (c : ℕ) × StandsFirst bs c × (member c ≡ true) × (k ≡ len_utf8 c)
    by_member c is false out e = absurd (cc e)
    by_member c is true into e = (c, first_stands bs c is, into, sym (same_some refl e))

    by_first : (o : Option ℕ) → first_character bs ≡ o → len_if member o ≡ Some k → (c : ℕ) × StandsFirst bs c × (member c ≡ true) × (k ≡ len_utf8 c)
    by_first None is e = absurd (cc e)
    by_first (Some c) is e = by_member c is (member c) refl e

-- no character starts with a continuation byte
pick : (c n₂ n₃ n₄ : ℕ) (bs₂ bs₃ bs₄ : List ℕ) (p q r : Bool) → (p ≡ true → c < 128)
    → (b : ℕ) × (bs : List ℕ) × (cond p (c ∷ []) (cond q ((192 + n₂) ∷ bs₂) (cond r ((224 + n₃) ∷ bs₃) ((240 + n₄) ∷ bs₄))) ≡ b ∷ bs) × (128 ≤ b → 192 ≤ b)
pick c n₂ n₃ n₄ bs₂ bs₃ bs₄ true q r low = (c, [], refl, λ at. absurd (omega (arith, at, low refl)))
pick c n₂ n₃ n₄ bs₂ bs₃ bs₄ false true r low = (192 + n₂, bs₂, refl, λ at. omega arith)
pick c n₂ n₃ n₄ bs₂ bs₃ bs₄ false false true low = (224 + n₃, bs₃, refl, λ at. omega arith)
pick c n₂ n₃ n₄ bs₂ bs₃ bs₄ false false false low = (240 + n₄, bs₄, refl, λ at. omega arith)

low_byte : (c : ℕ) → nat_lt c 128 ≡ true → c < 128
low_byte c e = grind (arith, nat_tests)

pub first_byte : (c : ℕ) → (b : ℕ) × (bs : List ℕ) × (encode c ≡ b ∷ bs) × (128 ≤ b → 192 ≤ b)
unfolding encode
first_byte c = pick c (c / 64) (c / 4096) (c / 262144) _ _ _ (nat_lt c 128) (nat_lt c 2048) (nat_lt c 65536) (low_byte c)
