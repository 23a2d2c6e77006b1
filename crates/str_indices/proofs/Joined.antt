-- Counts of joined texts, and counts beside each other.
use Rattle.std.proofs.Common.{◌≡◌, ℕ, ◌+◌, ◌≤◌, inl, inr, Bool, true, false, cond, List, [], ◌∷◌, ◌++◌, length, replicate, nat_le, refl, subst, sym, ◌∙◌, arith, length-append}
use Rattle.std.specs.Prelude.{◌&&◌, not, ◌==◌, encode_utf8_all}
use Rattle.std.specs.Char.{encode_utf8, len_utf8}
use Rattle.std.proofs.lemmas.Bool.{cases_eq, ne_eqb, cond-false, cond_both}
use Rattle.std.proofs.lemmas.Bool.Decides.{nat_tests}
use Rattle.std.proofs.lemmas.List.{length-replicate}
use Rattle.std.proofs.lemmas.List.Sums.{sum_by-cons, sum_by-append}
use Rattle.std.proofs.lemmas.Str.{length-encode, length-le-encodes}
use Rattle.str_indices.specs.Text.{ends_with_cr, is_line_break, is_crlf_break, is_lf_break, ends_from, starts_with_lf, ends_break, breaks, units_of, units}
use Rattle.str_indices.specs.Laws.{JoinsBreaks, AddsUp, UnitsAreCharsAndPairs, FewerBreaks, NoMoreThanBytes}

abbrev break_count : (ℕ → Bool) → ℕ → List ℕ → ℕ
break_count is_break c rest = cond (ends_break is_break c rest) 1 0

-- how many times a text's characters count, wherever it starts
abbrev total : (ℕ → List ℕ → ℕ) → List ℕ → ℕ
total count [] = 0
total count (c ∷ cs) = count c cs + total count cs

length-ends_from-total : (count : ℕ → List ℕ → ℕ) (at : ℕ) (text : List ℕ) → length (ends_from count at text) ≡ total count text
length-ends_from-total count at [] = refl
length-ends_from-total count at (c ∷ cs) =
    length-append (replicate (count c cs) (at + len_utf8 c)) (ends_from count (at + len_utf8 c) cs)
    ∙ omega (arith, length-replicate {A = ℕ} (count c cs) (at + len_utf8 c), length-ends_from-total count (at + len_utf8 c) cs)

-- the last character of the first text, with what follows it in the whole text and in its own
last_break : (is_break : ℕ → Bool) (c : ℕ) (lf : Bool)
    → cond {A = ℕ} (is_break c && not ((c == 13) && lf)) 1 0 + cond (is_break 13 && ((c == 13) && lf)) 1 0 ≡ cond (is_break c && not ((c == 13) && false)) 1 0
last_break is_break c lf =
    elim (cases_eq c 13) [
      | inl same ↦ subst (λ d. cond {A = ℕ} (is_break d && not ((d == 13) && lf)) 1 0 + cond (is_break 13 && ((d == 13) && lf)) 1 0 ≡ cond (is_break d && not ((d == 13) && false)) 1 0) (sym same) (at_cr (is_break 13) lf)
      | inr other ↦ rw (ne_eqb c 13 other) (elsewhere (is_break c) (is_break 13))
    ]
  where
    at_cr : (b lf : Bool) → cond {A = ℕ} (b && not (true && lf)) 1 0 + cond (b && (true && lf)) 1 0 ≡ cond (b && not (true && false)) 1 0
    at_cr true true = refl
    at_cr true false = refl
    at_cr false lf = refl

    elsewhere : (b d : Bool) → cond {A = ℕ} (b && true) 1 0 + cond (d && false) 1 0 ≡ cond (b && true) 1 0
    elsewhere true true = refl
    elsewhere true false = refl
    elsewhere false true = refl
    elsewhere false false = refl

total-append : (is_break : ℕ → Bool) (first second : List ℕ)
    → total (break_count is_break) (first ++ second) + cond (is_break 13 && (ends_with_cr first && starts_with_lf second)) 1 0 ≡ total (break_count is_break) first + total (break_count is_break) second
total-append is_break [] second = omega (arith, cond-false {A = ℕ} (is_break 13 && false) 1 0 (none (is_break 13)))
  where
    none : (b : Bool) → (b && false) ≡ false
    none true = refl
    none false = refl
total-append is_break (c ∷ []) second = omega (arith, last_break is_break c (starts_with_lf second))
total-append is_break (c ∷ d ∷ ds) second = omega (arith, total-append is_break (d ∷ ds) second)

pub breaks-append : (is_break : ℕ → Bool) → JoinsBreaks is_break
breaks-append is_break first second =
    omega (
      arith,
      total-append is_break first second,
      length-ends_from-total (break_count is_break) 0 (first ++ second),
      length-ends_from-total (break_count is_break) 0 first,
      length-ends_from-total (break_count is_break) 0 second,
    )

pub units-add : AddsUp units
units-add first second = sum_by-append units_of first second

pub units-split : UnitsAreCharsAndPairs
units-split [] = refl
units-split (c ∷ cs) =
    sum_by-cons units_of c cs
    ∙ omega (arith, units-split cs, sum_by-cons (λ c. cond (nat_le 0x1_0000 c) 1 0) c cs, one (nat_le 0x1_0000 c))
  where
    one : (b : Bool) → cond {A = ℕ} b 2 1 ≡ 1 + cond b 1 0
    one true = refl
    one false = refl

-- a set in another: each break of the one is one of the other
total-le : (few many : ℕ → Bool) → ((c : ℕ) → cond {A = ℕ} (few c) 1 0 ≤ cond (many c) 1 0) → (text : List ℕ) → total (break_count few) text ≤ total (break_count many) text
total-le few many h [] = omega arith
total-le few many h (c ∷ cs) = omega (arith, total-le few many h cs, here (few c) (many c) (not ((c == 13) && starts_with_lf cs)) (h c))
  where
    here : (a b d : Bool) → cond {A = ℕ} a 1 0 ≤ cond b 1 0 → cond {A = ℕ} (a && d) 1 0 ≤ cond (b && d) 1 0
    here true true d h = omega arith
    here true false d h = absurd (omega arith)
    here false b d h = omega arith

fewer : (few many : ℕ → Bool) → ((c : ℕ) → cond {A = ℕ} (few c) 1 0 ≤ cond (many c) 1 0) → FewerBreaks few many
fewer few many h text =
    omega (arith, total-le few many h text, length-ends_from-total (break_count few) 0 text, length-ends_from-total (break_count many) 0 text)

pub lf-fewer : FewerBreaks is_lf_break is_crlf_break
lf-fewer = fewer is_lf_break is_crlf_break (λ c. grind (arith, nat_tests))

pub crlf-fewer : FewerBreaks is_crlf_break is_line_break
crlf-fewer = fewer is_crlf_break is_line_break (λ c. grind (arith, nat_tests))

-- ---- no count is above the bytes
units_of-le : (c : ℕ) → units_of c ≤ len_utf8 c
units_of-le c = grind (arith, nat_tests)

pub units-le-bytes : NoMoreThanBytes units
units-le-bytes [] = omega arith
units-le-bytes (c ∷ cs) = omega (arith, sum_by-cons units_of c cs, length-append (encode_utf8 c) (encode_utf8_all cs), length-encode c, units_of-le c, units-le-bytes cs)

total-le-length : (is_break : ℕ → Bool) (text : List ℕ) → total (break_count is_break) text ≤ length text
total-le-length is_break [] = omega arith
total-le-length is_break (c ∷ cs) =
    let few : break_count is_break c cs ≤ 1 = cond_both (ends_break is_break c cs) 1 0 (λ n. n ≤ 1) (λ _. omega arith) (λ _. omega arith) in
    omega (arith, few, total-le-length is_break cs)

pub breaks-le-bytes : (is_break : ℕ → Bool) → NoMoreThanBytes (breaks is_break)
breaks-le-bytes is_break text =
    omega (arith, total-le-length is_break text, length-ends_from-total (break_count is_break) 0 text, length-le-encodes text)
