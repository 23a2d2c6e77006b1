-- The first break of a text, from the first byte that counts.
use Rattle.std.proofs.Common.{inl, inr, ◌≡◌, ℕ, zero, suc, ◌+◌, ◌-◌, ◌<◌, ◌≤◌, Bool, true, false, List, [], ◌∷◌, ◌++◌, length, take, drop, sum, cond, map, replicate, get_or, refl, ap, subst, sym, ◌∙◌, arith, length-append, append_assoc}
use Rattle.std.specs.Prelude.{◌&&◌, not, ◌==◌, encode_utf8_all}
use Rattle.std.specs.Char.{encode_utf8, len_utf8}
use Rattle.std.specs.Str.{chars, IsUtf8, IsCharBoundary, NonePass, all_scalars}
use Rattle.std.proofs.Math.Seq.{take-append_seam, drop-append_seam}
use Rattle.std.proofs.Math.Bool.{and-false}
use Rattle.std.proofs.lemmas.Bool.{cases_lt, cases_Bool, and_parts, cases_eq, ne_eqb, eqb-true, false≢true}
use Rattle.std.proofs.lemmas.Bool.Decides.{nat_tests}
use Rattle.std.proofs.lemmas.List.{length-map, get_or-append_right, get_or_append_left, map-append, append-nil}
use Rattle.std.proofs.lemmas.Str.{encodes-append, encodes-chars, scalars-chars, chars-encodes, length-encode, encode_ascii, IsCharBoundary-at_seam, IsUtf8-append}
use Rattle.str_indices.specs.Text.{byte_len, ends_with_cr, ends_from, starts_with_lf, ends_break, breaks, break_ends}
use Rattle.str_indices.specs.Bytes.{IsFirstPast, is_cr_lf_end}
use Rattle.str_indices.specs.BreakBytes.{starts_with_lf-encodes}
use Rattle.str_indices.specs.Encodings.{encode_two, encode_three, encode_four}
use Rattle.str_indices.specs.FirstAndLastBytes.{CountsLastBytes, at_last_bytes, last_block}
use Rattle.str_indices.specs.Laws.{JoinsEnds}
use Rattle.str_indices.specs.FirstBreak.{IsBreak, IsFirstBreak, GoesOnBehindFirstBreak}
use Rattle.str_indices.proofs.Blocks.{first_past-enters, first_past-rest, first_past-at_last, length-last_block, sum-last_block}
use Rattle.str_indices.proofs.Indices.{RoundsDown, continues, last_bytes-count}
use Rattle.str_indices.proofs.Parts.{byte_len-append, ends-joined, breaks-alone}
use Rattle.str_indices.proofs.Spread.{long}
use Rattle.str_indices.proofs.Tested.{starts_with_lf-drop}
use Rattle.str_indices.proofs.Places.{bytes-cons}

abbrev break_count : (ℕ → Bool) → ℕ → List ℕ → ℕ
break_count is_break c rest = cond (ends_break is_break c rest) 1 0

-- ---- behind the first break

-- the ends of a text that starts further on
ends-later : (count : ℕ → List ℕ → ℕ) (d at next : ℕ) (text : List ℕ) → next ≡ d + at → ends_from count next text ≡ map (λ place. d + place) (ends_from count at text)
ends-later count d at next [] e = refl
ends-later count d at next (c ∷ cs) e =
    let n = len_utf8 c in
    let w = count c cs in
    let more : next + n ≡ d + (at + n) = omega (arith, e) in
    ap (λ p. replicate w p ++ ends_from count (next + n) cs) more
    ∙ ap (λ ends. replicate w (d + (at + n)) ++ ends) (ends-later count d (at + n) (next + n) cs more)
    ∙ ap (λ front. front ++ map (λ place. d + place) (ends_from count (at + n) cs)) (sym (mapped w (at + n)))
    ∙ sym (map-append (λ place. d + place) (replicate w (at + n)) (ends_from count (at + n) cs))
  where
    mapped : (w p : ℕ) → map (λ place. d + place) (replicate w p) ≡ replicate w (d + p)
    mapped zero p = refl
    mapped (suc w) p = ap (λ ps. (d + p) ∷ ps) (mapped w p)

pub joined-ends : (is_break : ℕ → Bool) → JoinsEnds is_break
joined-ends is_break first second apart =
    let next = byte_len first in
    ends-joined (break_count is_break) 0 next first second (breaks-alone is_break first second apart) (omega arith)
    ∙ ap (λ later. break_ends is_break first ++ later) (ends-later (break_count is_break) next 0 next second (omega arith))

pair-ends : (is_break : ℕ → Bool) (at next : ℕ) (rest : List ℕ) → is_break 10 ≡ true → next ≡ at + 2
    → ends_from (break_count is_break) at (13 ∷ 10 ∷ rest) ≡ next ∷ ends_from (break_count is_break) next rest
pair-ends is_break at next rest lf e =
    let there : at + 1 + 1 ≡ next = omega (arith, e) in
    ap (λ b. replicate (cond b 1 0) (at + 1) ++ ends_from (break_count is_break) (at + 1) (10 ∷ rest)) (and-false (is_break 13))
    ∙ ap (λ b. replicate (cond (b && true) 1 0) (at + 1 + 1) ++ ends_from (break_count is_break) (at + 1 + 1) rest) lf
    ∙ ap (λ p. p ∷ ends_from (break_count is_break) p rest) there

one-ends : (is_break : ℕ → Bool) (at next : ℕ) (one rest : List ℕ) → IsBreak is_break one rest → next ≡ at + byte_len one
    → ends_from (break_count is_break) at (one ++ rest) ≡ next ∷ ends_from (break_count is_break) next rest
unfolding encode_utf8
one-ends is_break at next [] rest is e = absurd is
one-ends is_break at next (c ∷ []) rest is e =
    let there : at + len_utf8 c ≡ next = omega (arith, e, bytes-cons c []) in
    ap (λ b. replicate (cond b 1 0) (at + len_utf8 c) ++ ends_from (break_count is_break) (at + len_utf8 c) rest) is
    ∙ ap (λ p. p ∷ ends_from (break_count is_break) p rest) there
one-ends is_break at next (c ∷ d ∷ []) rest is e =
    let both : byte_len (c ∷ d ∷ []) ≡ 2 = λ i. byte_len (is.0 i ∷ is.1 i ∷ []) in
    (λ i. ends_from (break_count is_break) at (is.0 i ∷ is.1 i ∷ rest))
    ∙ pair-ends is_break at next rest is.3 (omega (arith, e, both))
one-ends is_break at next (c ∷ d ∷ x ∷ xs) rest is e = absurd is

ends-behind : (is_break : ℕ → Bool) (at next : ℕ) (line one rest : List ℕ) → NonePass is_break line → IsBreak is_break one rest → next ≡ at + byte_len (line ++ one)
    → ends_from (break_count is_break) at (line ++ one ++ rest) ≡ next ∷ ends_from (break_count is_break) next rest
ends-behind is_break at next [] one rest plain is e = one-ends is_break at next one rest is e
ends-behind is_break at next (c ∷ cs) one rest plain is e =
    let n = len_utf8 c in
    ap (λ b. replicate (cond (b && not ((c == 13) && starts_with_lf (cs ++ one ++ rest))) 1 0) (at + n) ++ ends_from (break_count is_break) (at + n) (cs ++ one ++ rest)) plain.0
    ∙ ends-behind is_break (at + n) next cs one rest plain.1 is (omega (arith, e, bytes-cons c (cs ++ one)))

pub goes_on : (is_break : ℕ → Bool) → GoesOnBehindFirstBreak is_break
goes_on is_break line one rest plain is =
    let end = byte_len (line ++ one) in
    let ends =
    ends-behind is_break 0 end line one rest plain is (omega arith)
    ∙ ap (λ later. end ∷ later) (ends-later (break_count is_break) end 0 end rest (omega arith)) in
    (ap length ends ∙ omega (arith, length-map (break_ends is_break rest) (λ place. end + place)), ends)

-- ---- the character that ends the first break

-- no character of a text ends a break, with what follows the text
abbrev NoneEnds : (ℕ → Bool) → List ℕ → List ℕ → Type 0
NoneEnds is_break [] later = Unit {0}
NoneEnds is_break (c ∷ cs) later = (ends_break is_break c (cs ++ later) ≡ false) × NoneEnds is_break cs later

-- the character whose last byte is r
record EndsFirst (is_break : ℕ → Bool) (text : List ℕ) (r : ℕ) : Type 0 where
  pub front : List ℕ
  pub c : ℕ
  pub rest : List ℕ
  pub parts : text ≡ front ++ c ∷ rest
  pub ends : ends_break is_break c rest ≡ true
  pub place : byte_len front + len_utf8 c ≡ r + 1
  pub none : NoneEnds is_break front (c ∷ rest)

ends_first : (is_break : ℕ → Bool) (text : List ℕ) (r : ℕ) → IsFirstPast (at_last_bytes (break_count is_break) text) 0 r → r < length (at_last_bytes (break_count is_break) text) → EndsFirst is_break text r
ends_first is_break [] r found inside = absurd (omega (arith, inside))
ends_first is_break (c ∷ cs) r found inside =
    let n = len_utf8 c in
    let w = break_count is_break c cs in
    let block = last_block n w in
    let rest = at_last_bytes (break_count is_break) cs in
    let whole : length block ≡ n = length-last_block n w (long c) in
    elim (cases_Bool (ends_break is_break c cs)) [
      | inl is ↦
          let counts : w ≡ 1 = ap (λ b. cond b 1 0) is in
          let place : r + 1 ≡ n = first_past-at_last n w 0 r rest (long c) (omega (arith, counts)) found in
          record { front = []; c = c; rest = cs; parts = refl; ends = is; place = omega (arith, place); none = tt }
      | inr other ↦
          let counts : w ≡ 0 = ap (λ b. cond b 1 0) other in
          let none : sum block ≡ 0 = sum-last_block n w ∙ counts in
          let there : n ≤ r = omega (arith, first_past-enters block rest 0 r (omega (arith, none)) found, whole) in
          let e : r ≡ n + (r - n) = omega arith in
          let moved = first_past-rest block rest 0 (r - n) n whole (omega (arith, none)) (subst (λ m. IsFirstPast (block ++ rest) 0 m) e found) in
          let left = subst (λ m. IsFirstPast rest m (r - n)) (let z : 0 - sum block ≡ 0 = omega arith in z) moved in
          let later = ends_first is_break cs (r - n) left (omega (arith, inside, length-append block rest, whole)) in
          record {
            front = c ∷ later.front;
            c = later.c;
            rest = later.rest;
            parts = ap (λ t. c ∷ t) later.parts;
            ends = later.ends;
            place = omega (arith, later.place, bytes-cons c later.front);
            none = (subst (λ t. ends_break is_break c t ≡ false) later.parts other, later.none);
          }
    ]

-- ---- the line before it

-- a set that has CR has LF
abbrev pub LfBesideCr : (ℕ → Bool) → Type 0
LfBesideCr is_break = is_break 13 ≡ true → is_break 10 ≡ true

-- a character that ends no break is of the set at most as the CR of a CR LF
outside : (is_break : ℕ → Bool) (c : ℕ) (lf : Bool) → (is_break c && not ((c == 13) && lf)) ≡ false → (c ≡ 13 → lf ≡ true → is_break 13 ≡ false) → is_break c ≡ false
outside is_break c lf none at_cr =
    elim (cases_eq c 13) [
      | inl same ↦ elim (cases_Bool lf) [
        | inl is_lf ↦ ap is_break same ∙ at_cr same is_lf
        | inr not_lf ↦ alone (is_break c) (c == 13) (sym (λ i. is_break c && not ((c == 13) && not_lf i)) ∙ none)
      ]
      | inr other ↦ plain (is_break c) (sym (λ i. is_break c && not (ne_eqb c 13 other i && lf)) ∙ none)
    ]
  where
    plain : (b : Bool) → (b && true) ≡ false → b ≡ false
    plain true h = h
    plain false h = refl

    alone : (b d : Bool) → (b && not (d && false)) ≡ false → b ≡ false
    alone true true h = h
    alone true false h = h
    alone false d h = refl

inside-plain : (is_break : ℕ → Bool) → LfBesideCr is_break → (c d : ℕ) (ds later : List ℕ) → NoneEnds is_break (c ∷ d ∷ ds) later → is_break c ≡ false
inside-plain is_break beside c d ds later none =
    outside is_break c (d == 10) none.0 (λ at_cr lf.
    let same : d ≡ 10 = eqb-true d 10 lf in
    let ends : (is_break 10 && true) ≡ false = subst (λ e. (is_break e && not ((e == 13) && starts_with_lf (ds ++ later))) ≡ false) same none.1.0 in
    elim (cases_Bool (is_break 13)) [
      | inl has ↦ absurd (false≢true (sym ends ∙ ap (λ b. b && true) (beside has)))
      | inr without ↦ without
    ])

line-plain : (is_break : ℕ → Bool) → LfBesideCr is_break → (front : List ℕ) (c : ℕ) (rest : List ℕ) → NoneEnds is_break front (c ∷ rest)
    → (is_break 13 && (ends_with_cr front && (c == 10))) ≡ false → NonePass is_break front
line-plain is_break beside [] c rest none apart = tt
line-plain is_break beside (d ∷ []) c rest none apart =
    (outside is_break d (c == 10) none.0 (λ at_cr lf. no_set (is_break 13) (sym (λ i. is_break 13 && ((at_cr i == 13) && lf i)) ∙ apart)), tt)
  where
    no_set : (b : Bool) → (b && true) ≡ false → b ≡ false
    no_set true h = h
    no_set false h = refl
line-plain is_break beside (d ∷ e ∷ es) c rest none apart =
    (inside-plain is_break beside d e es (c ∷ rest) none, line-plain is_break beside (e ∷ es) c rest none.1 apart)

-- a text that ends with a CR, and what stands before it
line-before_cr : (is_break : ℕ → Bool) → LfBesideCr is_break → (front : List ℕ) (c : ℕ) (rest : List ℕ) → NoneEnds is_break front (c ∷ rest) → ends_with_cr front ≡ true
    → (line : List ℕ) × (front ≡ line ++ 13 ∷ []) × NonePass is_break line
line-before_cr is_break beside [] c rest none cr = absurd (false≢true cr)
line-before_cr is_break beside (d ∷ []) c rest none cr = ([], ap (λ e. e ∷ []) (eqb-true d 13 cr), tt)
line-before_cr is_break beside (d ∷ e ∷ es) c rest none cr =
    let later = line-before_cr is_break beside (e ∷ es) c rest none.1 cr in
    (d ∷ later.0, ap (λ t. d ∷ t) later.1, (inside-plain is_break beside d e es (c ∷ rest) none, later.2))

-- ---- the same in bytes
ends_with_cr-append : (xs ys : List ℕ) → 0 < length ys → ends_with_cr (xs ++ ys) ≡ ends_with_cr ys
ends_with_cr-append [] ys some = refl
ends_with_cr-append (x ∷ []) [] some = absurd (omega (arith, some))
ends_with_cr-append (x ∷ []) (y ∷ ys) some = refl
ends_with_cr-append (x ∷ z ∷ zs) ys some = ends_with_cr-append (z ∷ zs) ys some

ends_with_cr-encode : (c : ℕ) → ends_with_cr (encode_utf8 c) ≡ (c == 13)
ends_with_cr-encode c =
    elim (cases_lt c 128) [
      | inl ascii ↦ rw (encode_ascii c ascii) refl
      | inr from_two ↦ elim (cases_lt c 2048) [
        | inl two ↦ rw (encode_two c from_two two) (grind (arith, nat_tests))
        | inr from_three ↦ elim (cases_lt c 65536) [
          | inl three ↦ rw (encode_three c from_three three) (grind (arith, nat_tests))
          | inr four ↦ rw (encode_four c four) (grind (arith, nat_tests))
        ]
      ]
    ]

-- a text ends with a CR exactly if its bytes do
ends_with_cr-encodes : (text : List ℕ) → ends_with_cr (encode_utf8_all text) ≡ ends_with_cr text
ends_with_cr-encodes [] = refl
ends_with_cr-encodes (c ∷ []) = ap ends_with_cr (append-nil (encode_utf8 c)) ∙ ends_with_cr-encode c
ends_with_cr-encodes (c ∷ d ∷ ds) =
    ends_with_cr-append (encode_utf8 c) (encode_utf8_all (d ∷ ds)) (omega (arith, bytes-cons d ds, long d))
    ∙ ends_with_cr-encodes (d ∷ ds)

last-byte : (b : ℕ) (xs ys : List ℕ) → (get_or (b ∷ xs ++ ys) (length xs) 0 == 13) ≡ ends_with_cr (b ∷ xs)
last-byte b [] ys = refl
last-byte b (x ∷ xs) ys = last-byte x xs ys

none-before : (xs : List ℕ) → ends_with_cr (0 ∷ xs) ≡ ends_with_cr xs
none-before [] = refl
none-before (x ∷ xs) = refl

pub byte_before-cr : (front later : List ℕ) → (get_or (0 ∷ encode_utf8_all front ++ later) (byte_len front) 0 == 13) ≡ ends_with_cr front
byte_before-cr front later = last-byte 0 (encode_utf8_all front) later ∙ none-before (encode_utf8_all front) ∙ ends_with_cr-encodes front

byte_at-lf : (front : List ℕ) (c : ℕ) (rest : List ℕ) → (get_or (encode_utf8_all front ++ encode_utf8_all (c ∷ rest)) (byte_len front) 0 == 10) ≡ (c == 10)
byte_at-lf front c rest =
    sym (starts_with_lf-drop (encode_utf8_all front ++ encode_utf8_all (c ∷ rest)) (byte_len front))
    ∙ ap starts_with_lf (drop-append_seam (encode_utf8_all front) (encode_utf8_all (c ∷ rest)))
    ∙ starts_with_lf-encodes (c ∷ rest)

-- the boundary at or before a character's last byte is where the character starts
start-of_char : (front : List ℕ) (c : ℕ) (rest : List ℕ) (r at : ℕ) → all_scalars (c ∷ rest) ≡ true → byte_len front + len_utf8 c ≡ r + 1
    → RoundsDown (encode_utf8_all front ++ encode_utf8_all (c ∷ rest)) r at → at ≡ byte_len front
start-of_char front c rest r at scalars place found =
    let bytes = encode_utf8_all front ++ encode_utf8_all (c ∷ rest) in
    let n = len_utf8 c in
    let start = byte_len front in
    elim (cases_lt at start) [
      | inl before ↦
          absurd (found.nearest start before (omega (arith, place, long c))
          (IsCharBoundary-at_seam bytes (encode_utf8_all front) (encode_utf8_all (c ∷ rest)) refl (c ∷ rest, (scalars, refl))))
      | inr from ↦ elim (cases_lt start at) [
        | inl inside ↦
            let j = at - start in
            let short : j < n = omega (arith, place, found.bound) in
            let in_char = continues c j (omega arith) short in
            let byte : get_or bytes at 0 ≡ get_or (encode_utf8 c) j 0 =
            get_or-append_right (encode_utf8_all front) (encode_utf8_all (c ∷ rest)) start at 0 refl from
            ∙ get_or_append_left (encode_utf8 c) (encode_utf8_all rest) 0 j (omega (arith, length-encode c)) in
            let within : at < length bytes = omega (arith, length-append (encode_utf8_all front) (encode_utf8_all (c ∷ rest)), bytes-cons c rest) in
            absurd (omega (arith, byte, in_char.1, found.boundary.1 within (omega (arith, byte, in_char.0))))
        | inr same ↦ omega arith
      ]
    ]

-- ---- all of it
scalars-both : (s t : List ℕ) → all_scalars (s ++ t) ≡ true → (all_scalars s ≡ true) × (all_scalars t ≡ true)
scalars-both [] t h = (refl, h)
scalars-both (c ∷ cs) t h =
    let here = and_parts _ _ h in
    let later = scalars-both cs t here.1 in
    (ap (λ b. b && all_scalars cs) here.0 ∙ later.0, later.1)

-- a text that falls into a line, one break and a rest
found-between : (is_break : ℕ → Bool) (bytes line one rest : List ℕ) (start end : ℕ) → IsUtf8 bytes → chars bytes ≡ line ++ one ++ rest
    → NonePass is_break line → IsBreak is_break one rest → start ≡ byte_len line → end ≡ byte_len (line ++ one) → IsFirstBreak is_break bytes start end
found-between is_break bytes line one rest start end utf8 parts plain is p q =
    let scalars = subst (λ t. all_scalars t ≡ true) parts (scalars-chars bytes utf8) in
    let outer = scalars-both (line ++ one) rest scalars in
    let inner = scalars-both line one outer.0 in
    let a = encode_utf8_all line in
    let b = encode_utf8_all one in
    let c = encode_utf8_all rest in
    let ab = encode_utf8_all (line ++ one) in
    let joined : ab ≡ a ++ b = encodes-append line one in
    let spelled : bytes ≡ ab ++ c = sym (encodes-chars bytes utf8) ∙ ap encode_utf8_all parts ∙ encodes-append (line ++ one) rest in
    let nested : bytes ≡ a ++ (b ++ c) = spelled ∙ ap (λ front. front ++ c) joined ∙ append_assoc a b c in
    let behind : drop start bytes ≡ b ++ c = (λ i. drop (p i) (nested i)) ∙ drop-append_seam a (b ++ c) in
    let size : end - start ≡ length b = omega (arith, p, q, ap length joined, length-append a b) in
    let front_chars : chars (take start bytes) ≡ line = ap chars ((λ i. take (p i) (nested i)) ∙ take-append_seam a (b ++ c)) ∙ chars-encodes line inner.0 in
    let one_chars : chars (take (end - start) (drop start bytes)) ≡ one = ap chars ((λ i. take (size i) (behind i)) ∙ take-append_seam b c) ∙ chars-encodes one inner.1 in
    let rest_chars : chars (drop end bytes) ≡ rest = ap chars ((λ i. drop (q i) (spelled i)) ∙ drop-append_seam ab c) ∙ chars-encodes rest outer.1 in
    let whole_rest : IsUtf8 c = (rest, (outer.1, refl)) in
    let whole_one : IsUtf8 b = (one, (inner.1, refl)) in
    record {
      starts = subst (λ m. IsCharBoundary bytes m) (sym p) (IsCharBoundary-at_seam bytes a (b ++ c) nested (IsUtf8-append b c whole_one whole_rest));
      ends = subst (λ m. IsCharBoundary bytes m) (sym q) (IsCharBoundary-at_seam bytes ab c spelled whole_rest);
      order = omega (arith, p, q, ap length joined, length-append a b, some one rest is);
      parts = parts ∙ sym (λ i. front_chars i ++ one_chars i ++ rest_chars i);
      line = subst (λ t. NonePass is_break t) (sym front_chars) plain;
      one = subst (λ t. IsBreak is_break t (chars (drop end bytes))) (sym one_chars) (subst (λ t. IsBreak is_break one t) (sym rest_chars) is);
      break_ends =
          ap (break_ends is_break) parts
          ∙ (goes_on is_break line one rest plain is).1
          ∙ sym (λ i. q i ∷ map (λ place. q i + place) (break_ends is_break (rest_chars i)));
    }
  where
    some : (one rest : List ℕ) → IsBreak is_break one rest → 1 ≤ length (encode_utf8_all one)
    some [] rest is = absurd is
    some (c ∷ cs) rest is = omega (arith, bytes-cons c cs, long c)

-- whether the break is a CR LF, by the bytes
abbrev is_pair : (ℕ → Bool) → List ℕ → ℕ → Bool
is_pair is_break bytes at = is_break 13 && is_cr_lf_end bytes at

pub found : (is_break : ℕ → Bool) (weights : List ℕ → List ℕ) → CountsLastBytes weights (break_count is_break) → LfBesideCr is_break → (bytes : List ℕ) (r at start : ℕ) → IsUtf8 bytes
    → IsFirstPast (weights bytes) 0 r → r < length bytes → RoundsDown bytes r at → start ≡ cond (is_pair is_break bytes at) (at - 1) at → IsFirstBreak is_break bytes start (r + 1)
unfolding encode_utf8
found is_break weights counts beside bytes r at start utf8 past inside rounded e =
    let text = chars bytes in
    let same : weights bytes ≡ at_last_bytes (break_count is_break) text = ap weights (sym (encodes-chars bytes utf8)) ∙ counts.of_text text in
    let moved = subst (λ ws. IsFirstPast ws 0 r) same past in
    let is = ends_first is_break text r moved (omega (arith, inside, ap length same, counts.len bytes)) in
    let front = is.front in
    let c = is.c in
    let rest = is.rest in
    let spelled : bytes ≡ encode_utf8_all front ++ encode_utf8_all (c ∷ rest) = sym (encodes-chars bytes utf8) ∙ ap encode_utf8_all is.parts ∙ encodes-append front (c ∷ rest) in
    let scalars = scalars-both front (c ∷ rest) (subst (λ t. all_scalars t ≡ true) is.parts (scalars-chars bytes utf8)) in
    let there : at ≡ byte_len front = start-of_char front c rest r at scalars.1 is.place (subst (λ bs. RoundsDown bs r at) spelled rounded) in
    let lf : (get_or bytes at 0 == 10) ≡ (c == 10) = (λ i. get_or (spelled i) (there i) 0 == 10) ∙ byte_at-lf front c rest in
    let cr : (get_or (0 ∷ bytes) at 0 == 13) ≡ ends_with_cr front = (λ i. get_or (0 ∷ spelled i) (there i) 0 == 13) ∙ byte_before-cr front (encode_utf8_all (c ∷ rest)) in
    let test : is_pair is_break bytes at ≡ (is_break 13 && ((c == 10) && ends_with_cr front)) = λ i. is_break 13 && (lf i && cr i) in
    elim (cases_Bool (is_pair is_break bytes at)) [
      | inl cr_lf ↦
          let all = and_parts _ _ (sym test ∙ cr_lf) in
          let both = and_parts _ _ all.1 in
          let is_lf : c ≡ 10 = eqb-true c 10 both.0 in
          let before = line-before_cr is_break beside front c rest is.none both.1 in
          let line = before.0 in
          let size : byte_len front ≡ byte_len line + 1 = ap byte_len before.1 ∙ byte_len-append line (13 ∷ []) in
          let two : byte_len (line ++ 13 ∷ 10 ∷ []) ≡ byte_len line + 2 = byte_len-append line (13 ∷ 10 ∷ []) in
          let whole : text ≡ line ++ (13 ∷ 10 ∷ []) ++ rest =
          is.parts ∙ (λ i. before.1 i ++ is_lf i ∷ rest) ∙ append_assoc line (13 ∷ []) (10 ∷ rest) ∙ sym (append_assoc line (13 ∷ 10 ∷ []) rest) in
          let one : len_utf8 c ≡ 1 = ap len_utf8 is_lf in
          found-between is_break bytes line (13 ∷ 10 ∷ []) rest start (r + 1) utf8 whole before.2 (refl, refl, all.0, beside all.0)
          (omega (arith, e ∙ ap (λ b. cond b (at - 1) at) cr_lf, there, size)) (omega (arith, is.place, size, two, one))
      | inr other ↦
          let apart : (is_break 13 && (ends_with_cr front && (c == 10))) ≡ false = ap (λ b. is_break 13 && b) (and_comm (ends_with_cr front) (c == 10)) ∙ sym test ∙ other in
          let whole : text ≡ front ++ (c ∷ []) ++ rest = is.parts ∙ sym (append_assoc front (c ∷ []) rest) in
          found-between is_break bytes front (c ∷ []) rest start (r + 1) utf8 whole (line-plain is_break beside front c rest is.none apart) is.ends
          (omega (arith, e ∙ ap (λ b. cond b (at - 1) at) other, there)) (omega (arith, is.place, byte_len-append front (c ∷ []), bytes-cons c []))
    ]
  where
    and_comm : (a b : Bool) → (a && b) ≡ (b && a)
    and_comm true true = refl
    and_comm true false = refl
    and_comm false true = refl
    and_comm false false = refl

-- where no byte counts, there is no break
pub none_found : (is_break : ℕ → Bool) (weights : List ℕ → List ℕ) → CountsLastBytes weights (break_count is_break) → (bytes : List ℕ) (r : ℕ) → IsUtf8 bytes
    → IsFirstPast (weights bytes) 0 r → length bytes ≤ r → breaks is_break (chars bytes) ≡ 0
none_found is_break weights counts bytes r utf8 past all =
    let same : r ≡ length bytes = omega (arith, all, past.within, counts.len bytes) in
    sym (last_bytes-count weights (break_count is_break) counts bytes utf8)
    ∙ ap (λ n. sum (take n (weights bytes))) (sym same)
    ∙ omega (arith, past.before)

-- and where there is one, there is a break
pub some_found : (is_break : ℕ → Bool) (bytes : List ℕ) (start end : ℕ) → IsFirstBreak is_break bytes start end → breaks is_break (chars bytes) ≡ 0 → ⊥
some_found is_break bytes start end is none = absurd (omega (arith, none, ap length is.break_ends))
