-- The last character of a list of bytes, and the bytes that decide whether an assertion holds.
use Rattle.std.proofs.Common.{◌≡◌, ℕ, zero, suc, ◌+◌, ◌<◌, ◌≤◌, ◌⊎◌, Bool, true, false, cond, nat_lt, ◌/◌, ◌%◌, List, [], ◌∷◌, ◌++◌, take, drop, reverse, Option, Some, None, refl, sym, ap, ap₂, ◌∙◌, arith, inl, inr}
use Rattle.std.proofs.lemmas.List.{take_at, append_assoc, reverse-append, reverse-reverse, length-reverse, take-append-drop}
use Rattle.std.proofs.lemmas.Nat.{mod_below}
use Rattle.std.proofs.lemmas.Bool.Decides.{nat_tests}
use Rattle.std.proofs.lemmas.Str.{length-encode, len_utf8_bounds, encode_same, encode_ascii}
use Rattle.std.proofs.Math.Utf8.{encode, low_scalar}
use Rattle.std.specs.Char.{len_utf8}
use Rattle.std.specs.Prelude.{IsTrue}
use Rattle.rx_walks.specs.Characters.{character_of, first_some, last_character, StandsLast}
use Rattle.rx_walks.specs.Looks.{Look, start_text, end_text, start_line, end_line, word_boundary, no_word_boundary, whole, side_of, side_before, side_after, asks_characters, IsEdgeOrAscii, holds_between}
use Rattle.rx_walks.proofs.CharacterLaws.{character_is, character_of-encode, some_first, first_of}

-- the characters of more than one byte that may be on a side
abbrev last_of_more : List ℕ → Option ℕ
last_of_more back = first_some (character_of (reverse (take 2 back))) (first_some (character_of (reverse (take 3 back))) (character_of (reverse (take 4 back))))

abbrev first_of_more : List ℕ → Option ℕ
first_of_more bytes = first_some (character_of (take 2 bytes)) (first_some (character_of (take 3 bytes)) (character_of (take 4 bytes)))

-- four bytes on each side decide which character is there
same_before : (before : List ℕ) → side_before (take 4 before) ≡ side_before before
same_before [] = refl
same_before (a ∷ []) = refl
same_before (a ∷ b ∷ []) = refl
same_before (a ∷ b ∷ c ∷ []) = refl
same_before (a ∷ b ∷ c ∷ d ∷ bs) = refl

same_after : (after : List ℕ) → side_after (take 4 after) ≡ side_after after
same_after [] = refl
same_after (a ∷ []) = refl
same_after (a ∷ b ∷ []) = refl
same_after (a ∷ b ∷ c ∷ []) = refl
same_after (a ∷ b ∷ c ∷ d ∷ bs) = refl

pub four_bytes_tell : (is_word : ℕ → Bool) (terminator : ℕ) (l : Look) (before after : List ℕ)
    → holds_between is_word terminator l (take 4 before) (take 4 after) ≡ holds_between is_word terminator l before after
four_bytes_tell is_word terminator start_text [] after = refl
four_bytes_tell is_word terminator start_text (b ∷ before) after = refl
four_bytes_tell is_word terminator end_text before [] = refl
four_bytes_tell is_word terminator end_text before (b ∷ after) = refl
four_bytes_tell is_word terminator start_line [] after = refl
four_bytes_tell is_word terminator start_line (b ∷ before) after = refl
four_bytes_tell is_word terminator end_line before [] = refl
four_bytes_tell is_word terminator end_line before (b ∷ after) = refl
four_bytes_tell is_word terminator word_boundary before after = cc (same_before before, same_after after)
four_bytes_tell is_word terminator no_word_boundary before after = cc (same_before before, same_after after)

-- an ASCII byte is a whole character
pub ascii_alone : (b : ℕ) → b < 128 → character_of (b ∷ []) ≡ Some b
ascii_alone b low = ap character_of (sym (encode_ascii b low)) ∙ character_of-encode b (low_scalar b (omega (arith, low)))

pub ascii_before : (b : ℕ) (before : List ℕ) → b < 128 → side_before (b ∷ before) ≡ whole b
ascii_before b before low = ap (λ o. side_of (b ∷ before) (first_some o (last_of_more (b ∷ before)))) (ascii_alone b low)

pub ascii_after : (b : ℕ) (after : List ℕ) → b < 128 → side_after (b ∷ after) ≡ whole b
ascii_after b after low = ap (λ o. side_of (b ∷ after) (first_some o (first_of_more (b ∷ after)))) (ascii_alone b low)

-- therefore one byte is as good as all
one_before : (before : List ℕ) → IsEdgeOrAscii before → side_before (take 1 before) ≡ side_before before
one_before [] low = refl
one_before (b ∷ before) low = ascii_before b [] low ∙ sym (ascii_before b before low)

one_after : (after : List ℕ) → IsEdgeOrAscii after → side_after (take 1 after) ≡ side_after after
one_after [] low = refl
one_after (b ∷ after) low = ascii_after b [] low ∙ sym (ascii_after b after low)

pub one_byte_tells : (is_word : ℕ → Bool) (terminator : ℕ) (l : Look) (before after : List ℕ) → (IsTrue (asks_characters l) → IsEdgeOrAscii before × IsEdgeOrAscii after)
    → holds_between is_word terminator l (take 1 before) (take 1 after) ≡ holds_between is_word terminator l before after
one_byte_tells is_word terminator start_text [] after low = refl
one_byte_tells is_word terminator start_text (b ∷ before) after low = refl
one_byte_tells is_word terminator end_text before [] low = refl
one_byte_tells is_word terminator end_text before (b ∷ after) low = refl
one_byte_tells is_word terminator start_line [] after low = refl
one_byte_tells is_word terminator start_line (b ∷ before) after low = refl
one_byte_tells is_word terminator end_line before [] low = refl
one_byte_tells is_word terminator end_line before (b ∷ after) low = refl
one_byte_tells is_word terminator word_boundary before after low = cc (one_before before (low refl).0, one_after after (low refl).1)
one_byte_tells is_word terminator no_word_boundary before after low = cc (one_before before (low refl).0, one_after after (low refl).1)

-- continuation bytes after another byte
abbrev Continues : List ℕ → Type 0
Continues [] = Unit {0}
Continues (b ∷ bs) = (128 ≤ b) × (b < 192) × Continues bs

abbrev IsLead : ℕ → Type 0
IsLead b = (b < 128) ⊎ (192 ≤ b)

-- a character from its last byte to its first: continuation bytes, and the first one
record FromLast (bytes : List ℕ) : Type 0 where
  lead : ℕ
  back : List ℕ
  is : reverse bytes ≡ back ++ lead ∷ []
  continues : Continues back
  leads : IsLead lead

from_last_pick : (c n₂ n₃ n₄ x y z : ℕ) (p q r : Bool) → (p ≡ true → c < 128) → x < 64 → y < 64 → z < 64
    → FromLast (cond p (c ∷ []) (cond q ((192 + n₂) ∷ (128 + x) ∷ []) (cond r ((224 + n₃) ∷ (128 + y) ∷ (128 + x) ∷ []) ((240 + n₄) ∷ (128 + z) ∷ (128 + y) ∷ (128 + x) ∷ []))))
from_last_pick c n₂ n₃ n₄ x y z true q r low in_x in_y in_z = record { lead = c; back = []; is = refl; continues = tt; leads = inl (low refl) }
from_last_pick c n₂ n₃ n₄ x y z false true r low in_x in_y in_z =
    record { lead = 192 + n₂; back = (128 + x) ∷ []; is = refl; continues = (omega arith, omega (arith, in_x), tt); leads = inr (omega arith) }
from_last_pick c n₂ n₃ n₄ x y z false false true low in_x in_y in_z = record {
  lead = 224 + n₃;
  back = (128 + x) ∷ (128 + y) ∷ [];
  is = refl;
  continues = (omega arith, omega (arith, in_x), (omega arith, omega (arith, in_y), tt));
  leads = inr (omega arith);
}
from_last_pick c n₂ n₃ n₄ x y z false false false low in_x in_y in_z = record {
  lead = 240 + n₄;
  back = (128 + x) ∷ (128 + y) ∷ (128 + z) ∷ [];
  is = refl;
  continues = (omega arith, omega (arith, in_x), (omega arith, omega (arith, in_y), (omega arith, omega (arith, in_z), tt)));
  leads = inr (omega arith);
}

low_byte : (c : ℕ) → nat_lt c 128 ≡ true → c < 128
low_byte c e = grind (arith, nat_tests)

from_last : (c : ℕ) → FromLast (encode c)
unfolding encode
from_last c = from_last_pick c (c / 64) (c / 4096) (c / 262144) (c % 64) (c / 64 % 64) (c / 4096 % 64) (nat_lt c 128) (nat_lt c 2048) (nat_lt c 65536) (low_byte c)
    (mod_below c 64 (omega arith)) (mod_below (c / 64) 64 (omega arith)) (mod_below (c / 4096) 64 (omega arith))

-- there is one way to the first byte that isn't a continuation byte
not_lead : (b : ℕ) → 128 ≤ b → b < 192 → IsLead b → ⊥
not_lead b low high (inl below) = omega (arith, low, below)
not_lead b low high (inr above) = omega (arith, high, above)

one_run : (xs ys rs ss : List ℕ) (b d : ℕ) → Continues xs → Continues ys → IsLead b → IsLead d → xs ++ b ∷ rs ≡ ys ++ d ∷ ss → (xs ≡ ys) × (b ≡ d)
one_run [] [] rs ss b d in_x in_y at_b at_d e = (refl, cc e)
one_run [] (y ∷ ys) rs ss b d in_x in_y at_b at_d e = let same : b ≡ y = cc e in absurd (not_lead b (omega (arith, same, in_y.0)) (omega (arith, same, in_y.1)) at_b)
one_run (x ∷ xs) [] rs ss b d in_x in_y at_b at_d e = let same : x ≡ d = cc e in absurd (not_lead d (omega (arith, same, in_x.0)) (omega (arith, same, in_x.1)) at_d)
one_run (x ∷ xs) (y ∷ ys) rs ss b d in_x in_y at_b at_d e =
    let head : x ≡ y = cc e in
    let tails : xs ++ b ∷ rs ≡ ys ++ d ∷ ss = cc e in
    let on = one_run xs ys rs ss b d in_x.2 in_y.2 at_b at_d tails in
    (ap₂ (λ z zs. z ∷ zs) head on.0, on.1)

from_back : (front : List ℕ) (c : ℕ) → reverse (front ++ encode c) ≡ (from_last c).back ++ (from_last c).lead ∷ reverse front
from_back front c =
    reverse-append front (encode c)
    ∙ ap (λ x. x ++ reverse front) (from_last c).is
    ∙ append_assoc (from_last c).back ((from_last c).lead ∷ []) (reverse front)

same_last : (front other : List ℕ) (c d : ℕ) → front ++ encode c ≡ other ++ encode d → c ≡ d
same_last front other c d e =
    let run = one_run _ _ _ _ _ _ (from_last c).continues (from_last d).continues (from_last c).leads (from_last d).leads
    (sym (from_back front c) ∙ ap reverse e ∙ from_back other d) in
    let back : reverse (encode c) ≡ reverse (encode d) = (from_last c).is ∙ ap₂ (λ xs x. xs ++ x ∷ []) run.0 run.1 ∙ sym (from_last d).is in
    let same : encode c ≡ encode d = sym (reverse-reverse (encode c)) ∙ ap reverse back ∙ reverse-reverse (encode d) in
    (encode_same c d [] [] (ap (λ xs. xs ++ []) same)).0

-- the last character is found
at_length : (back : List ℕ) (k c : ℕ) → character_of (reverse (take k back)) ≡ Some c → StandsLast (reverse back) c
at_length back k c e = let one = character_is (reverse (take k back)) c e in record {
  scalar = one.0;
  front = reverse (drop k back);
  stands = ap reverse (sym (take-append-drop k back)) ∙ reverse-append (take k back) (drop k back) ∙ ap (λ x. reverse (drop k back) ++ x) one.1;
}

pub last_stands : (back : List ℕ) (c : ℕ) → last_character back ≡ Some c → StandsLast (reverse back) c
last_stands back c e = elim (some_first (character_of (reverse (take 1 back))) _ c e) [
  | inl at ↦ at_length back 1 c at
  | inr e' ↦ elim (some_first (character_of (reverse (take 2 back))) _ c e') [
    | inl at ↦ at_length back 2 c at
    | inr e'' ↦ elim (some_first (character_of (reverse (take 3 back))) _ c e'') [ inl at ↦ at_length back 3 c at | inr at ↦ at_length back 4 c at ]
  ]
]

pub stands_last : (back : List ℕ) (c : ℕ) → StandsLast (reverse back) c → last_character back ≡ Some c
stands_last back c last = let bounds = len_utf8_bounds c in by_length (len_utf8 c) refl bounds.0 bounds.1
  where
    none_or_same : (k : ℕ) (o : Option ℕ) → character_of (reverse (take k back)) ≡ o → (o ≡ None) ⊎ (o ≡ Some c)
    none_or_same k None e = inl refl
    none_or_same k (Some d) e = let other = at_length back k d e in inr (ap Some (same_last other.front last.front d c (sym other.stands ∙ last.stands)))

    turned : back ≡ reverse (encode c) ++ reverse last.front
    turned = sym (reverse-reverse back) ∙ ap reverse last.stands ∙ reverse-append last.front (encode c)

    at : (k : ℕ) → len_utf8 c ≡ k → character_of (reverse (take k back)) ≡ Some c
    at k e =
        ap (λ x. character_of (reverse x))
        (ap₂ take (sym e) turned ∙ take_at (reverse (encode c)) (reverse last.front) (len_utf8 c) (length-reverse (encode c) ∙ length-encode c))
        ∙ ap character_of (reverse-reverse (encode c)) ∙ character_of-encode c last.scalar

    by_length : (k : ℕ) → len_utf8 c ≡ k → 1 ≤ k → k ≤ 4 → last_character back ≡ Some c
    by_length zero e low high = absurd (omega (arith, low))
    by_length (suc zero) e low high = first_of _ _ c (none_or_same 1 _ refl) (inl (at 1 e))
    by_length (suc (suc zero)) e low high = first_of _ _ c (none_or_same 1 _ refl) (inr (first_of _ _ c (none_or_same 2 _ refl) (inl (at 2 e))))
    by_length (suc (suc (suc zero))) e low high = first_of _ _ c (none_or_same 1 _ refl) (inr (first_of _ _ c (none_or_same 2 _ refl) (inr (first_of _ _ c (none_or_same 3 _ refl) (inl (at 3 e))))))
    by_length (suc (suc (suc (suc zero)))) e low high = first_of _ _ c (none_or_same 1 _ refl) (inr (first_of _ _ c (none_or_same 2 _ refl) (inr (first_of _ _ c (none_or_same 3 _ refl) (inr (at 4 e))))))
    by_length (suc (suc (suc (suc (suc k))))) e low high = absurd (omega (arith, high))
