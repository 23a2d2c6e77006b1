-- From the numbers of a text's bytes to its ends: what the public functions answer.
use Rattle.std.proofs.Common.{inl, inr, ◌≢◌, ◌≡◌, ℕ, zero, suc, ◌+◌, ◌-◌, ◌<◌, ◌≤◌, List, [], ◌∷◌, ◌++◌, length, take, drop, sum, cond, min, get_or, true, nat_le, refl, ap, subst, sym, ◌∙◌, arith, length-append}
use Rattle.std.specs.Prelude.{encode_utf8_all, replicate}
use Rattle.std.specs.Char.{encode_utf8, len_utf8}
use Rattle.std.specs.Str.{chars, IsUtf8, IsCharBoundary, all_scalars}
use Rattle.std.proofs.lemmas.Bool.{cases_lt, and_parts}
use Rattle.std.proofs.lemmas.Bool.Decides.{nat_tests}
use Rattle.std.proofs.lemmas.List.{take_min, take_all, length-replicate, get_or-append_right, get_or_append_left, drop_at}
use Rattle.std.proofs.lemmas.List.Sums.{sum_by-cons}
use Rattle.std.proofs.lemmas.Str.{encodes-chars, scalars-chars, length-encode, len_utf8_bounds, len_utf8_ascii, IsCharBoundary-at_seam, IsCharBoundary-from_rest}
use Rattle.str_indices.specs.Text.{end_place, char_ends, ends_from, starts_from, ends_up_to, units_of, units, surrogate_pairs}
use Rattle.str_indices.specs.Bytes.{IsFirstPast}
use Rattle.str_indices.specs.Encodings.{encode_two, encode_three, encode_four, len_two, len_four}
use Rattle.str_indices.proofs.Blocks.{length-first_block, sum-first_block, sum-take_past}
use Rattle.str_indices.proofs.Spread.{length-ends_from, sum-at_first_bytes, sum-take-last_bytes, first_past-starts, first_past-ends, up_to-append, up_to-replicate_past, up_to-replicate_within, up_to-start}
use Rattle.str_indices.specs.FirstAndLastBytes.{CountsFirstBytes, CountsLastBytes, at_first_bytes, at_last_bytes, first_block}

firsts : (weights : List ℕ → List ℕ) (count : ℕ → List ℕ → ℕ) → CountsFirstBytes weights count → (bytes : List ℕ) → IsUtf8 bytes → weights bytes ≡ at_first_bytes count (chars bytes)
firsts weights count k bytes text = ap weights (sym (encodes-chars bytes text)) ∙ k.of_text (chars bytes)

lasts : (weights : List ℕ → List ℕ) (count : ℕ → List ℕ → ℕ) → CountsLastBytes weights count → (bytes : List ℕ) → IsUtf8 bytes → weights bytes ≡ at_last_bytes count (chars bytes)
lasts weights count k bytes text = ap weights (sym (encodes-chars bytes text)) ∙ k.of_text (chars bytes)

all_bytes : (weights : List ℕ → List ℕ) (bytes : List ℕ) → length (weights bytes) ≡ length bytes → sum (take (length bytes) (weights bytes)) ≡ sum (weights bytes)
all_bytes weights bytes e = ap sum (take_all (length bytes) (weights bytes) (omega arith))

-- ---- each character counts at its last byte
pub last_bytes-count : (weights : List ℕ → List ℕ) (count : ℕ → List ℕ → ℕ) → CountsLastBytes weights count → (bytes : List ℕ) → IsUtf8 bytes
    → sum (take (length bytes) (weights bytes)) ≡ length (ends_from count 0 (chars bytes))
last_bytes-count weights count k bytes text =
    all_bytes weights bytes (k.len bytes)
    ∙ ap sum (lasts weights count k bytes text)
    ∙ sym (length-ends_from count 0 (chars bytes))

pub last_bytes-up_to : (weights : List ℕ → List ℕ) (count : ℕ → List ℕ → ℕ) → CountsLastBytes weights count → (bytes : List ℕ) → IsUtf8 bytes → (b : ℕ)
    → sum (take (min b (length bytes)) (weights bytes)) ≡ ends_up_to b (ends_from count 0 (chars bytes))
last_bytes-up_to weights count k bytes text b =
    ap (λ n. sum (take (min b n) (weights bytes))) (sym (k.len bytes))
    ∙ ap sum (take_min b (weights bytes))
    ∙ ap (λ ws. sum (take b ws)) (lasts weights count k bytes text)
    ∙ sum-take-last_bytes count 0 b (chars bytes)
    ∙ ap (λ n. ends_up_to n (ends_from count 0 (chars bytes))) (let e : 0 + b ≡ b = omega arith in e)

pub last_bytes-place : (weights : List ℕ → List ℕ) (count : ℕ → List ℕ → ℕ) → CountsLastBytes weights count → (bytes : List ℕ) → IsUtf8 bytes → (j r : ℕ)
    → IsFirstPast (weights bytes) j r → min (r + 1) (length bytes) ≡ get_or (ends_from count 0 (chars bytes)) j (length bytes)
last_bytes-place weights count k bytes text j r found =
    let same = lasts weights count k bytes text in
    let moved = subst (λ ws. IsFirstPast ws j r) same found in
    let long : length (at_last_bytes count (chars bytes)) ≡ length bytes = ap length (sym same) ∙ k.len bytes in
    let e : 0 + length (at_last_bytes count (chars bytes)) ≡ length bytes = omega arith in
    omega (arith, first_past-ends count 0 j r (chars bytes) moved, ap (λ n. get_or (ends_from count 0 (chars bytes)) j n) e)

-- the place past the byte that is found, or the length, as the end of break k
pub last_bytes-line : (weights : List ℕ → List ℕ) (count : ℕ → List ℕ → ℕ) → CountsLastBytes weights count → (text bytes : List ℕ) (k at : ℕ) → IsUtf8 text → k ≢ 0 → bytes ≡ text → IsFirstPast (weights bytes) (k - 1) at
    → (min (at + 1) (length text) ≡ end_place (ends_from count 0 (chars text)) k (length text)) × (at ≤ length text)
last_bytes-line weights count counts text bytes k at utf8 some same found =
    let e : k ≡ suc (k - 1) = omega arith in (
      last_bytes-place weights count counts text utf8 (k - 1) at (subst (λ bs. IsFirstPast (weights bs) (k - 1) at) same found)
          ∙ ap (λ k. end_place (ends_from count 0 (chars text)) k (length text)) (sym e),
      omega (arith, found.within, counts.len bytes, ap length same),
    )

-- ---- each character counts at its first byte
pub first_bytes-count : (weights : List ℕ → List ℕ) (count : ℕ → List ℕ → ℕ) → CountsFirstBytes weights count → (bytes : List ℕ) → IsUtf8 bytes
    → sum (take (length bytes) (weights bytes)) ≡ length (ends_from count 0 (chars bytes))
first_bytes-count weights count k bytes text =
    all_bytes weights bytes (k.len bytes)
    ∙ ap sum (firsts weights count k bytes text)
    ∙ sum-at_first_bytes count (chars bytes)
    ∙ sym (length-ends_from count 0 (chars bytes))

pub first_bytes-place : (weights : List ℕ → List ℕ) (count : ℕ → List ℕ → ℕ) → CountsFirstBytes weights count → (bytes : List ℕ) → IsUtf8 bytes → (j r : ℕ)
    → IsFirstPast (weights bytes) j r → r ≡ get_or (starts_from count 0 (chars bytes)) j (length bytes)
first_bytes-place weights count k bytes text j r found =
    let same = firsts weights count k bytes text in
    let moved = subst (λ ws. IsFirstPast ws j r) same found in
    let long : length (at_first_bytes count (chars bytes)) ≡ length bytes = ap length (sym same) ∙ k.len bytes in
    let e : 0 + length (at_first_bytes count (chars bytes)) ≡ length bytes = omega arith in
    omega (arith, first_past-starts count 0 j r (chars bytes) moved, ap (λ n. get_or (starts_from count 0 (chars bytes)) j n) e)

-- a byte that doesn't start a character
pub continues : (c i : ℕ) → 0 < i → i < len_utf8 c → (128 ≤ get_or (encode_utf8 c) i 0) × (get_or (encode_utf8 c) i 0 < 192)
continues c zero some high = absurd (omega arith)
continues c (suc zero) some high =
    elim (cases_lt c 128) [
      | inl ascii ↦ absurd (omega (arith, len_utf8_ascii c ascii))
      | inr from_two ↦ elim (cases_lt c 2048) [
        | inl two ↦ rw (encode_two c from_two two) (omega arith, omega arith)
        | inr from_three ↦ elim (cases_lt c 65536) [
          | inl three ↦ rw (encode_three c from_three three) (omega arith, omega arith)
          | inr four ↦ rw (encode_four c four) (omega arith, omega arith)
        ]
      ]
    ]
continues c (suc (suc zero)) some high =
    elim (cases_lt c 128) [
      | inl ascii ↦ absurd (omega (arith, len_utf8_ascii c ascii))
      | inr from_two ↦ elim (cases_lt c 2048) [
        | inl two ↦ absurd (omega (arith, len_two c from_two two))
        | inr from_three ↦ elim (cases_lt c 65536) [
          | inl three ↦ rw (encode_three c from_three three) (omega arith, omega arith)
          | inr four ↦ rw (encode_four c four) (omega arith, omega arith)
        ]
      ]
    ]
continues c (suc (suc (suc i))) some high =
    elim (cases_lt c 65536) [
      | inl below ↦ absurd (omega (arith, below_four c below))
      | inr four ↦
          let last : i ≡ 0 = omega (arith, len_four c four) in
          rw (encode_four c four, last) (omega arith, omega arith)
    ]
  where
    below_four : (c : ℕ) → c < 65536 → len_utf8 c ≤ 3
    below_four c h = grind (arith, nat_tests)

-- b is rounded down to a boundary f
pub record RoundsDown (bytes : List ℕ) (b f : ℕ) : Type 0 where
  pub bound : f ≤ b
  pub boundary : IsCharBoundary bytes f
  pub nearest : (i : ℕ) → f < i → i ≤ b → ¬ (IsCharBoundary bytes i)

-- the same for what follows the first character
rounds_down-rest : (c : ℕ) (rest : List ℕ) (b f : ℕ) → len_utf8 c ≤ f → RoundsDown (encode_utf8 c ++ rest) b f → RoundsDown rest (b - len_utf8 c) (f - len_utf8 c)
rounds_down-rest c rest b f past found =
    let n = len_utf8 c in
    let whole = encode_utf8 c ++ rest in
    let long : length whole ≡ n + length rest = omega (arith, length-append (encode_utf8 c) rest, length-encode c) in
    let same : get_or whole f 0 ≡ get_or rest (f - n) 0 = get_or-append_right (encode_utf8 c) rest n f 0 (length-encode c) past in
    let there : drop n whole ≡ rest = drop_at (encode_utf8 c) rest n (length-encode c) in
    record {
      bound = omega (arith, found.bound);
      boundary = (omega (arith, found.boundary.0), λ inside low. subst (λ byte. 192 ≤ byte) same (found.boundary.1 (omega arith) (subst (λ byte. 128 ≤ byte) (sym same) low)));
      nearest = λ i above below at_i.
          found.nearest (n + i) (omega arith) (omega (arith, found.bound))
          (IsCharBoundary-from_rest whole n i (omega arith) (subst (λ bs. IsCharBoundary bs i) (sym there) at_i));
    }

-- the bytes before the boundary count the ends up to b
sum-take-rounded : (count : ℕ → List ℕ → ℕ) (at b f : ℕ) (text : List ℕ) → all_scalars text ≡ true → RoundsDown (encode_utf8_all text) b f
    → sum (take f (at_first_bytes count text)) ≡ ends_up_to (at + b) (ends_from count at text)
sum-take-rounded count at b f [] scalar found =
    let none : f ≡ 0 = omega (arith, found.boundary.0) in
    ap (λ k. sum (take k [])) none
sum-take-rounded count at b f (c ∷ cs) scalar found =
    let n = len_utf8 c in
    let w = count c cs in
    let long : 1 ≤ n = (len_utf8_bounds c).0 in
    let rest = at_first_bytes count cs in
    let ends = ends_from count (at + n) cs in
    let bytes = encode_utf8_all cs in
    elim (cases_lt f n) [
      | inr past ↦
          let i = f - n in
          let e : f ≡ n + i = omega arith in
          let same : at + n + (b - n) ≡ at + b = omega (arith, found.bound) in
          ap (λ k. sum (take k (first_block n w ++ rest))) e
          ∙ sum-take_past (first_block n w) rest i n (length-first_block n w long)
          ∙ omega (
            arith,
            sum-first_block n w,
            sum-take-rounded count (at + n) (b - n) i cs (and_parts _ _ scalar).1 (rounds_down-rest c bytes b f past found),
            up_to-append (at + b) (replicate w (at + n)) ends,
            up_to-replicate_within w (at + n) (at + b) (omega (arith, found.bound)),
            ap (λ k. ends_up_to k ends) same,
          )
      | inl inside ↦ elim (cases_lt 0 f) [
        | inl some ↦
            let in_char = continues c f some inside in
            let same : get_or (encode_utf8 c ++ bytes) f 0 ≡ get_or (encode_utf8 c) f 0 = get_or_append_left (encode_utf8 c) bytes 0 f (omega (arith, length-encode c)) in
            absurd (omega (arith, in_char.1, same, found.boundary.1 (omega (arith, length-append (encode_utf8 c) bytes, length-encode c)) (omega (arith, in_char.0, same))))
        | inr start ↦
            let zero_sum : sum (take f (first_block n w ++ rest)) ≡ 0 = ap (λ k. sum (take k (first_block n w ++ rest))) (let e : f ≡ 0 = omega arith in e) in
            elim (cases_lt b n) [
              | inl before ↦
                  omega (arith, zero_sum, up_to-append (at + b) (replicate w (at + n)) ends, up_to-replicate_past w (at + n) (at + b) (omega arith), up_to-start count (at + n) (at + b) cs (omega arith))
              | inr after ↦
                  absurd (found.nearest n (omega arith) after
                  (subst (λ k. IsCharBoundary (encode_utf8 c ++ bytes) k) (length-encode c)
                  (IsCharBoundary-at_seam (encode_utf8 c ++ bytes) (encode_utf8 c) bytes refl (cs, ((and_parts _ _ scalar).1, refl)))))
            ]
      ]
    ]

pub first_bytes-up_to : (weights : List ℕ → List ℕ) (count : ℕ → List ℕ → ℕ) → CountsFirstBytes weights count → (bytes : List ℕ) → IsUtf8 bytes → (b f : ℕ)
    → RoundsDown bytes b f → sum (take f (weights bytes)) ≡ ends_up_to b (ends_from count 0 (chars bytes))
first_bytes-up_to weights count k bytes text b f found =
    let spelled = encodes-chars bytes text in
    let e : 0 + b ≡ b = omega arith in
    ap (λ ws. sum (take f ws)) (firsts weights count k bytes text)
    ∙ sum-take-rounded count 0 b f (chars bytes) (scalars-chars bytes text) (subst (λ bs. RoundsDown bs b f) (sym spelled) found)
    ∙ ap (λ n. ends_up_to n (ends_from count 0 (chars bytes))) e

-- ---- counts without places
pub length-unit_ends : (at : ℕ) (text : List ℕ) → length (ends_from (λ c _. units_of c) at text) ≡ units text
length-unit_ends at [] = refl
length-unit_ends at (c ∷ cs) =
    length-append (replicate (units_of c) (at + len_utf8 c)) (ends_from (λ c _. units_of c) (at + len_utf8 c) cs)
    ∙ omega (arith, length-replicate {A = ℕ} (units_of c) (at + len_utf8 c), length-unit_ends (at + len_utf8 c) cs, sum_by-cons units_of c cs)

pub length-pair_ends : (at : ℕ) (text : List ℕ) → length (ends_from (λ c _. cond (nat_le 0x1_0000 c) 1 0) at text) ≡ surrogate_pairs text
length-pair_ends at [] = refl
length-pair_ends at (c ∷ cs) =
    let w = cond (nat_le 0x1_0000 c) 1 0 in
    length-append (replicate w (at + len_utf8 c)) (ends_from (λ c _. cond (nat_le 0x1_0000 c) 1 0) (at + len_utf8 c) cs)
    ∙ omega (arith, length-replicate {A = ℕ} w (at + len_utf8 c), length-pair_ends (at + len_utf8 c) cs, sum_by-cons (λ c. cond (nat_le 0x1_0000 c) 1 0) c cs)

pub length-char_ends : (at : ℕ) (text : List ℕ) → length (ends_from (λ _ _. 1) at text) ≡ length text
length-char_ends at [] = refl
length-char_ends at (c ∷ cs) = ap suc (length-char_ends (at + len_utf8 c) cs)

-- the characters after the first start where those before the last end
later_starts : (at k last c : ℕ) (cs : List ℕ) → last ≡ at + length (encode_utf8_all (c ∷ cs))
    → get_or (starts_from (λ _ _. 1) (at + len_utf8 c) cs) k last ≡ get_or (ends_from (λ _ _. 1) at (c ∷ cs)) k last
later_starts at zero last c [] e = e ∙ omega (arith, length-append (encode_utf8 c) [], length-encode c)
later_starts at zero last c (d ∷ ds) e = refl
later_starts at (suc k) last c [] e = refl
later_starts at (suc k) last c (d ∷ ds) e =
    later_starts (at + len_utf8 c) k last d ds (omega (arith, e, length-append (encode_utf8 c) (encode_utf8_all (d ∷ ds)), length-encode c))

pub starts_are_ends : (k last : ℕ) (text : List ℕ) → last ≡ length (encode_utf8_all text) → get_or (starts_from (λ _ _. 1) 0 text) k last ≡ end_place (char_ends text) k last
starts_are_ends zero last [] e = e
starts_are_ends (suc k) last [] e = refl
starts_are_ends zero last (c ∷ cs) e = refl
starts_are_ends (suc k) last (c ∷ cs) e = later_starts 0 k last c cs (omega arith)

pub char_starts-are_ends : (bytes : List ℕ) (k : ℕ) → IsUtf8 bytes → get_or (starts_from (λ _ _. 1) 0 (chars bytes)) k (length bytes) ≡ end_place (char_ends (chars bytes)) k (length bytes)
char_starts-are_ends bytes k text = starts_are_ends k (length bytes) (chars bytes) (ap length (sym (encodes-chars bytes text)))
