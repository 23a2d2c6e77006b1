-- The weights of the bytes of a text if each character counts at its first byte.
use Rattle.std.proofs.Common.{inl, inr, ◌≡◌, ℕ, ◌+◌, ◌/◌, ◌%◌, ◌<◌, ◌≤◌, List, [], ◌∷◌, ◌++◌, map, cond, nat_le, refl, ap, ◌∙◌, arith}
use Rattle.std.specs.Char.{encode_utf8, len_utf8}
use Rattle.std.specs.Prelude.{encode_utf8_all}
use Rattle.std.proofs.lemmas.Bool.{cases_lt}
use Rattle.std.proofs.lemmas.Bool.Decides.{nat_tests}
use Rattle.std.proofs.lemmas.List.{map-append}
use Rattle.std.proofs.lemmas.Str.{encode_ascii, len_utf8_ascii}
use Rattle.str_indices.specs.Text.{units_of}
use Rattle.str_indices.specs.Bytes.{is_lead, is_lead_of_four, char_weights, pair_weights, unit_weights}
use Rattle.str_indices.specs.Encodings.{encode_two, encode_three, encode_four, len_two, len_three, len_four}
use Rattle.str_indices.specs.Weights.{map_len}
use Rattle.str_indices.specs.FirstAndLastBytes.{CountsFirstBytes, at_first_bytes, first_block}

-- the weight w of a character is f of its first byte, and f of its others is 0
record CountsFirst (f : ℕ → ℕ) (w : ℕ → ℕ) : Type 0 where
  one : (c : ℕ) → c < 128 → f c ≡ w c
  two : (c : ℕ) → 128 ≤ c → c < 2048 → f (192 + c / 64) ≡ w c
  three : (c : ℕ) → 2048 ≤ c → c < 65536 → f (224 + c / 4096) ≡ w c
  four : (c : ℕ) → 65536 ≤ c → f (240 + c / 262144) ≡ w c
  others : (n : ℕ) → f (128 + n % 64) ≡ 0

map-encode : (f w : ℕ → ℕ) (c : ℕ) → CountsFirst f w → map f (encode_utf8 c) ≡ first_block (len_utf8 c) (w c)
map-encode f w c k =
    elim (cases_lt c 128) [
      | inl ascii ↦ rw (encode_ascii c ascii, len_utf8_ascii c ascii, k.one c ascii) refl
      | inr from_two ↦ elim (cases_lt c 2048) [
        | inl two ↦ rw (encode_two c from_two two, len_two c from_two two, k.two c from_two two, k.others c) refl
        | inr from_three ↦ elim (cases_lt c 65536) [
          | inl three ↦ rw (encode_three c from_three three, len_three c from_three three, k.three c from_three three, k.others c, k.others (c / 64)) refl
          | inr four ↦ rw (encode_four c four, len_four c four, k.four c four, k.others c, k.others (c / 64), k.others (c / 4096)) refl
        ]
      ]
    ]

map-encodes : (f w : ℕ → ℕ) (text : List ℕ) → CountsFirst f w → map f (encode_utf8_all text) ≡ at_first_bytes (λ c _. w c) text
map-encodes f w [] k = refl
map-encodes f w (c ∷ cs) k =
    map-append f (encode_utf8 c) (encode_utf8_all cs)
    ∙ ap (λ bs. bs ++ map f (encode_utf8_all cs)) (map-encode f w c k)
    ∙ ap (λ bs. first_block (len_utf8 c) (w c) ++ bs) (map-encodes f w cs k)

leads : CountsFirst (λ b. cond (is_lead b) 1 0) (λ _. 1)
leads = record {
  one = λ c h. grind (arith, nat_tests);
  two = λ c l h. grind (arith, nat_tests);
  three = λ c l h. grind (arith, nat_tests);
  four = λ c l. grind (arith, nat_tests);
  others = λ n. grind (arith, nat_tests);
}

pub char_weights_of_text : (text : List ℕ) → char_weights (encode_utf8_all text) ≡ at_first_bytes (λ _ _. 1) text
char_weights_of_text text = map-encodes (λ b. cond (is_lead b) 1 0) (λ _. 1) text leads

pairs : CountsFirst (λ b. cond (is_lead_of_four b) 1 0) (λ c. cond (nat_le 0x1_0000 c) 1 0)
pairs = record {
  one = λ c h. grind (arith, nat_tests);
  two = λ c l h. grind (arith, nat_tests);
  three = λ c l h. grind (arith, nat_tests);
  four = λ c l. grind (arith, nat_tests);
  others = λ n. grind (arith, nat_tests);
}

pub pair_weights_of_text : (text : List ℕ) → pair_weights (encode_utf8_all text) ≡ at_first_bytes (λ c _. cond (nat_le 0x1_0000 c) 1 0) text
pair_weights_of_text text = map-encodes (λ b. cond (is_lead_of_four b) 1 0) (λ c. cond (nat_le 0x1_0000 c) 1 0) text pairs

units : CountsFirst (λ b. cond (is_lead b) 1 0 + cond (is_lead_of_four b) 1 0) units_of
units = record {
  one = λ c h. grind (arith, nat_tests);
  two = λ c l h. grind (arith, nat_tests);
  three = λ c l h. grind (arith, nat_tests);
  four = λ c l. grind (arith, nat_tests);
  others = λ n. grind (arith, nat_tests);
}

pub unit_weights_of_text : (text : List ℕ) → unit_weights (encode_utf8_all text) ≡ at_first_bytes (λ c _. units_of c) text
unit_weights_of_text text = map-encodes (λ b. cond (is_lead b) 1 0 + cond (is_lead_of_four b) 1 0) units_of text units

pub chars_at_first_bytes : CountsFirstBytes char_weights (λ _ _. 1)
chars_at_first_bytes = record { of_text = char_weights_of_text; len = map_len (λ b. cond (is_lead b) 1 0) }

pub pairs_at_first_bytes : CountsFirstBytes pair_weights (λ c _. cond (nat_le 0x1_0000 c) 1 0)
pairs_at_first_bytes = record { of_text = pair_weights_of_text; len = map_len (λ b. cond (is_lead_of_four b) 1 0) }

pub units_at_first_bytes : CountsFirstBytes unit_weights (λ c _. units_of c)
units_at_first_bytes = record { of_text = unit_weights_of_text; len = map_len (λ b. cond (is_lead b) 1 0 + cond (is_lead_of_four b) 1 0) }
