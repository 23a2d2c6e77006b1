-- The weights of the bytes of a text if each break counts at its last byte.
use Rattle.std.proofs.Common.{inl, inr, ◌≡◌, ℕ, ◌+◌, ◌/◌, ◌%◌, ◌<◌, ◌≤◌, Bool, false, List, [], ◌∷◌, cond, refl, ap, ◌∙◌, arith}
use Rattle.std.specs.Prelude.{encode_utf8_all}
use Rattle.std.proofs.lemmas.Bool.{cases_lt}
use Rattle.std.proofs.lemmas.Bool.Decides.{nat_tests}
use Rattle.std.proofs.lemmas.Nat.{shr-shr}
use Rattle.std.proofs.lemmas.Str.{encode_ascii, len_utf8_ascii}
use Rattle.str_indices.specs.Text.{is_line_break, is_crlf_break, is_lf_break, ends_break, starts_with_lf}
use Rattle.str_indices.specs.Bytes.{tested_weights, ends_line, ends_crlf_line, ends_lf_line, line_weights, crlf_line_weights, lf_line_weights}
use Rattle.str_indices.specs.Encodings.{encode_two, encode_three, encode_four, len_two, len_three, len_four}
use Rattle.str_indices.specs.Weights.{tested_len}
use Rattle.str_indices.specs.FirstAndLastBytes.{CountsLastBytes, at_last_bytes}

-- a text begins with an LF exactly if its bytes do
pub starts_with_lf-encodes : (text : List ℕ) → starts_with_lf (encode_utf8_all text) ≡ starts_with_lf text
starts_with_lf-encodes [] = refl
starts_with_lf-encodes (c ∷ cs) =
    elim (cases_lt c 128) [
      | inl ascii ↦ rw (encode_ascii c ascii) refl
      | inr from_two ↦ elim (cases_lt c 2048) [
        | inl two ↦ rw (encode_two c from_two two) (grind (arith, nat_tests))
        | inr from_three ↦ elim (cases_lt c 65536) [
          | inl three ↦ rw (encode_three c from_three three) (grind (arith, nat_tests))
          | inr four ↦ rw (encode_four c four) (grind (arith, nat_tests))
        ]
      ]
    ]

-- the test of a byte passes at the last byte of a break, and at no other
record FindsBreaks (is_break : ℕ → Bool) (test : ℕ → ℕ → ℕ → List ℕ → Bool) : Type 0 where
  one : (b2 b1 c : ℕ) (rest : List ℕ) → c < 128 → test b2 b1 c rest ≡ ends_break is_break c rest
  two_first : (b2 b1 c : ℕ) (rest : List ℕ) → 128 ≤ c → c < 2048 → test b2 b1 (192 + c / 64) rest ≡ false
  two_last : (b2 c : ℕ) (rest : List ℕ) → 128 ≤ c → c < 2048 → test b2 (192 + c / 64) (128 + c % 64) rest ≡ ends_break is_break c rest
  three_first : (b2 b1 c : ℕ) (rest : List ℕ) → 2048 ≤ c → c < 65536 → test b2 b1 (224 + c / 4096) rest ≡ false
  three_second : (b2 c : ℕ) (rest : List ℕ) → 2048 ≤ c → c < 65536 → test b2 (224 + c / 4096) (128 + c / 64 % 64) rest ≡ false
  three_last : (c : ℕ) (rest : List ℕ) → 2048 ≤ c → c < 65536 → test (224 + c / 4096) (128 + c / 64 % 64) (128 + c % 64) rest ≡ ends_break is_break c rest
  four_first : (b2 b1 c : ℕ) (rest : List ℕ) → 65536 ≤ c → test b2 b1 (240 + c / 262144) rest ≡ false
  four_second : (b2 c : ℕ) (rest : List ℕ) → 65536 ≤ c → test b2 (240 + c / 262144) (128 + c / 4096 % 64) rest ≡ false
  four_third : (c : ℕ) (rest : List ℕ) → 65536 ≤ c → test (240 + c / 262144) (128 + c / 4096 % 64) (128 + c / 64 % 64) rest ≡ false
  four_last : (c : ℕ) (rest : List ℕ) → 65536 ≤ c → test (128 + c / 4096 % 64) (128 + c / 64 % 64) (128 + c % 64) rest ≡ ends_break is_break c rest

weight-false : (b : Bool) (rest : List ℕ) → b ≡ false → cond b 1 0 ∷ rest ≡ 0 ∷ rest
weight-false b rest e = rw e refl

weight-same : (b d : Bool) (xs ys : List ℕ) → b ≡ d → xs ≡ ys → cond b 1 0 ∷ xs ≡ cond d 1 0 ∷ ys
weight-same b d xs ys e f = rw (e, f) refl

ends_break_same : (is_break : ℕ → Bool) (c : ℕ) (cs : List ℕ) → ends_break is_break c (encode_utf8_all cs) ≡ ends_break is_break c cs
ends_break_same is_break c cs = rw (starts_with_lf-encodes cs) refl

abbrev break_count : (ℕ → Bool) → ℕ → List ℕ → ℕ
break_count is_break c rest = cond (ends_break is_break c rest) 1 0

-- for any two bytes before the text
tested_weights_of_text : (is_break : ℕ → Bool) (test : ℕ → ℕ → ℕ → List ℕ → Bool) (b2 b1 : ℕ) (text : List ℕ) → FindsBreaks is_break test
    → tested_weights test b2 b1 (encode_utf8_all text) ≡ at_last_bytes (break_count is_break) text
tested_weights_of_text is_break test b2 b1 [] k = refl
tested_weights_of_text is_break test b2 b1 (c ∷ cs) k =
    let rest = encode_utf8_all cs in
    let same = ends_break_same is_break c cs in
    elim (cases_lt c 128) [
      | inl ascii ↦
          rw (encode_ascii c ascii, len_utf8_ascii c ascii)
          (weight-same _ _ _ _ (k.one b2 b1 c rest ascii ∙ same) (tested_weights_of_text is_break test b1 c cs k))
      | inr from_two ↦ elim (cases_lt c 2048) [
        | inl two ↦
            rw (encode_two c from_two two, len_two c from_two two)
            (weight-false _ _ (k.two_first b2 b1 c _ from_two two)
            ∙ ap (λ ws. 0 ∷ ws) (weight-same _ _ _ _ (k.two_last b1 c rest from_two two ∙ same) (tested_weights_of_text is_break test (192 + c / 64) (128 + c % 64) cs k)))
        | inr from_three ↦ elim (cases_lt c 65536) [
          | inl three ↦
              rw (encode_three c from_three three, len_three c from_three three)
              (weight-false _ _ (k.three_first b2 b1 c _ from_three three)
              ∙ ap (λ ws. 0 ∷ ws) (weight-false _ _ (k.three_second b1 c _ from_three three))
              ∙ ap (λ ws. 0 ∷ 0 ∷ ws) (weight-same _ _ _ _ (k.three_last c rest from_three three ∙ same) (tested_weights_of_text is_break test (128 + c / 64 % 64) (128 + c % 64) cs k)))
          | inr four ↦
              rw (encode_four c four, len_four c four)
              (weight-false _ _ (k.four_first b2 b1 c _ four)
              ∙ ap (λ ws. 0 ∷ ws) (weight-false _ _ (k.four_second b1 c _ four))
              ∙ ap (λ ws. 0 ∷ 0 ∷ ws) (weight-false _ _ (k.four_third c _ four))
              ∙ ap (λ ws. 0 ∷ 0 ∷ 0 ∷ ws) (weight-same _ _ _ _ (k.four_last c rest four ∙ same) (tested_weights_of_text is_break test (128 + c / 64 % 64) (128 + c % 64) cs k)))
        ]
      ]
    ]

lines : FindsBreaks is_line_break ends_line
lines = record {
  one = λ b2 b1 c rest h. grind (arith, nat_tests);
  two_first = λ b2 b1 c rest l h. grind (arith, nat_tests);
  two_last = λ b2 c rest l h. grind (arith, nat_tests);
  three_first = λ b2 b1 c rest l h. grind (arith, nat_tests);
  three_second = λ b2 c rest l h. grind (arith, nat_tests);
  three_last = λ c rest l h. (let e : c / 64 / 64 ≡ c / 4096 = shr-shr c 6 6 in grind (arith, nat_tests));
  four_first = λ b2 b1 c rest l. grind (arith, nat_tests);
  four_second = λ b2 c rest l. grind (arith, nat_tests);
  four_third = λ c rest l. grind (arith, nat_tests);
  four_last = λ c rest l. grind (arith, nat_tests);
}

crlf : FindsBreaks is_crlf_break ends_crlf_line
crlf = record {
  one = λ b2 b1 c rest h. grind (arith, nat_tests);
  two_first = λ b2 b1 c rest l h. grind (arith, nat_tests);
  two_last = λ b2 c rest l h. grind (arith, nat_tests);
  three_first = λ b2 b1 c rest l h. grind (arith, nat_tests);
  three_second = λ b2 c rest l h. grind (arith, nat_tests);
  three_last = λ c rest l h. grind (arith, nat_tests);
  four_first = λ b2 b1 c rest l. grind (arith, nat_tests);
  four_second = λ b2 c rest l. grind (arith, nat_tests);
  four_third = λ c rest l. grind (arith, nat_tests);
  four_last = λ c rest l. grind (arith, nat_tests);
}

lf : FindsBreaks is_lf_break ends_lf_line
lf = record {
  one = λ b2 b1 c rest h. grind (arith, nat_tests);
  two_first = λ b2 b1 c rest l h. grind (arith, nat_tests);
  two_last = λ b2 c rest l h. grind (arith, nat_tests);
  three_first = λ b2 b1 c rest l h. grind (arith, nat_tests);
  three_second = λ b2 c rest l h. grind (arith, nat_tests);
  three_last = λ c rest l h. grind (arith, nat_tests);
  four_first = λ b2 b1 c rest l. grind (arith, nat_tests);
  four_second = λ b2 c rest l. grind (arith, nat_tests);
  four_third = λ c rest l. grind (arith, nat_tests);
  four_last = λ c rest l. grind (arith, nat_tests);
}

pub line_weights_of_text : (text : List ℕ) → line_weights (encode_utf8_all text) ≡ at_last_bytes (break_count is_line_break) text
line_weights_of_text text = tested_weights_of_text is_line_break ends_line 0 0 text lines

pub crlf_line_weights_of_text : (text : List ℕ) → crlf_line_weights (encode_utf8_all text) ≡ at_last_bytes (break_count is_crlf_break) text
crlf_line_weights_of_text text = tested_weights_of_text is_crlf_break ends_crlf_line 0 0 text crlf

pub lf_line_weights_of_text : (text : List ℕ) → lf_line_weights (encode_utf8_all text) ≡ at_last_bytes (break_count is_lf_break) text
lf_line_weights_of_text text = tested_weights_of_text is_lf_break ends_lf_line 0 0 text lf

pub lines_at_last_bytes : CountsLastBytes line_weights (λ c rest. cond (ends_break is_line_break c rest) 1 0)
lines_at_last_bytes = record { of_text = line_weights_of_text; len = tested_len ends_line 0 0 }

pub crlf_lines_at_last_bytes : CountsLastBytes crlf_line_weights (λ c rest. cond (ends_break is_crlf_break c rest) 1 0)
crlf_lines_at_last_bytes = record { of_text = crlf_line_weights_of_text; len = tested_len ends_crlf_line 0 0 }

pub lf_lines_at_last_bytes : CountsLastBytes lf_line_weights (λ c rest. cond (ends_break is_lf_break c rest) 1 0)
lf_lines_at_last_bytes = record { of_text = lf_line_weights_of_text; len = tested_len ends_lf_line 0 0 }
