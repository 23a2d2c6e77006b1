-- Texts whose characters are all one byte: in them the index of a character or of a code unit is
-- that of a byte.
use Rattle.std.proofs.Common.{◌≡◌, ℕ, zero, suc, ◌-◌, ◌≤◌, ◌⊎◌, inl, inr, Bool, ◌||◌, ◌==◌, true, false, List, [], ◌∷◌, ◌++◌, length, get_or, take, drop, min, replicate, refl, ap, arith, sym, ◌∙◌, subst, length-take-le, length-drop, length-append}
use Rattle.std.specs.Prelude.{if◌then◌else◌, nat_le}
use Rattle.std.specs.List.{concat}
use Rattle.std.specs.Str.{chars, IsUtf8, IsCharBoundary}
use Rattle.std.proofs.lemmas.Bool.{cases_lt}
use Rattle.std.proofs.lemmas.Bool.Decides.{nat_tests}
use Rattle.std.proofs.lemmas.List.{append-nil, take-append-drop}
use Rattle.std.proofs.lemmas.List.Folds.{concat-append}
use Rattle.std.proofs.lemmas.Str.{length-le-encodes, encodes-chars, IsUtf8-take}
use Rattle.str_indices.specs.Text.{byte_len, char_ends, unit_ends, unit_starts, units, ends_up_to, end_place}
use Rattle.str_indices.specs.Laws.{AnyTexts, EndsAddUp, PlacesAddUp, UnitStartsAddUp, UnitsAreCharsAndPairs, NoMoreThanBytes}
use Rattle.ropey_tree.specs.declared.counts.Counts.{Counts}
use Rattle.ropey_tree.specs.Counts.{counts_of}
use Rattle.ropey_walk.specs.Chunks.{text_of, lone_piece}
use Rattle.ropey_walk.proofs.Cuts.{byte_len-append}
use Rattle.ropey_walk.proofs.ChunkParts.{text_of_piece}
use Rattle.ropey_walk.proofs.Reading.{place_of_front}
use Rattle.ropey_walk.proofs.CharWalks.{chars_cut}

-- each character of a text is one byte
abbrev pub IsOneByte : List ℕ → Type 0
IsOneByte t = length t ≡ byte_len t

-- the start and the end of such a text are such texts
pub front-bytes : (t : List ℕ) (k : ℕ) → IsOneByte t → k ≤ length t → byte_len (take k t) ≡ k
front-bytes t k one within =
    omega (
      arith,
      one,
      ap byte_len (sym (take-append-drop k t)) ∙ byte_len-append (take k t) (drop k t),
      length-le-encodes (take k t),
      length-le-encodes (drop k t),
      length-take-le k t within,
      length-drop k t,
    )

pub middle-bytes : (a b c : List ℕ) → IsOneByte (a ++ b ++ c) → IsOneByte b
middle-bytes a b c one =
    omega (
      arith,
      one,
      byte_len-append (a ++ b) c,
      byte_len-append a b,
      length-append (a ++ b) c,
      length-append a b,
      length-le-encodes a,
      length-le-encodes b,
      length-le-encodes c,
    )

pub between-bytes : (j k : ℕ) (t : List ℕ) → IsOneByte t → IsOneByte (drop j (take k t))
between-bytes j k t one =
    let parts : take j (take k t) ++ drop j (take k t) ++ drop k t ≡ t = ap (λ s. s ++ drop k t) (take-append-drop j (take k t)) ∙ take-append-drop k t in
    middle-bytes (take j (take k t)) (drop j (take k t)) (drop k t) (subst IsOneByte (sym parts) one)

pub piece-bytes : (pieces before after : List (List ℕ)) (chunk : List ℕ) → pieces ≡ before ++ lone_piece chunk ++ after → IsOneByte (text_of pieces) → IsOneByte chunk
piece-bytes pieces before after chunk parts one =
    let front = concat-append before (lone_piece chunk) ∙ ap (λ t. concat before ++ t) (text_of_piece chunk) in
    let e : text_of pieces ≡ text_of before ++ chunk ++ text_of after = ap concat parts ∙ concat-append (before ++ lone_piece chunk) after ∙ ap (λ t. t ++ concat after) front in
    middle-bytes (text_of before) chunk (text_of after) (subst IsOneByte e one)

pub front-one-byte : (bytes : List ℕ) (at : ℕ) → IsUtf8 bytes → IsCharBoundary bytes at → length (chars bytes) ≡ length bytes → length (chars (take at bytes)) ≡ length (take at bytes)
front-one-byte bytes at utf8 boundary one =
    let all : IsOneByte (chars bytes) = one ∙ sym (ap length (encodes-chars bytes utf8)) in
    let front = ap length (encodes-chars (take at bytes) (IsUtf8-take bytes at utf8 boundary)) in
    middle-bytes [] (chars (take at bytes)) (chars (drop at bytes)) (subst IsOneByte (chars_cut bytes at utf8 boundary) all) ∙ front

-- what the counts of a text determine
pub known-bytes : (t : List ℕ) (len : Counts) → (len.chars == len.bytes) ≡ true → len ≡ counts_of t → IsOneByte t
known-bytes t len e is =
    let same : len.chars ≡ len.bytes = grind (arith, nat_tests) in
    omega (arith, same, ap (λ c. c.chars) is, ap (λ c. c.bytes) is)

-- either of two
pub either : (a b : Bool) → (a || b) ≡ true → (a ≡ true) ⊎ (b ≡ true)
either true b e = inl refl
either false b e = inr e

-- ---- positions
same : (front t : List ℕ) (k : ℕ) → front ≡ take k t → front ++ [] ++ drop k t ≡ t
same front t k e = ap (λ s. s ++ drop k t) (append-nil front ∙ e) ∙ take-append-drop k t

whole : (t : List ℕ) → t ++ [] ++ [] ≡ t
whole t = append-nil (t ++ []) ∙ append-nil t

front-end : (t : List ℕ) (k : ℕ) → IsOneByte t → k ≤ length t → k ≤ byte_len (take k t ++ [])
front-end t k one within = omega (arith, front-bytes t k one within, ap byte_len (append-nil (take k t)))

-- ---- characters
pub chars-up_to : EndsAddUp AnyTexts length char_ends → (t : List ℕ) (b : ℕ) → IsOneByte t → b ≤ byte_len t → ends_up_to b (char_ends t) ≡ b
chars-up_to law t b one within =
    let inside : b ≤ length t = omega (arith, one, within) in
    let bytes = front-bytes t b one inside in
    let told = law (take b t) [] (drop b t) b tt tt (omega (arith, bytes)) (front-end t b one inside) in
    ap (λ s. ends_up_to b (char_ends s)) (sym (same (take b t) t b refl)) ∙ told ∙ omega (arith, length-take-le b t inside)

no-end : (m : ℕ) → end_place [] m 0 ≡ 0
no-end zero = refl
no-end (suc m) = refl

pub char-place : PlacesAddUp AnyTexts length char_ends → (t : List ℕ) (k : ℕ) → IsOneByte t → end_place (char_ends t) k (byte_len t) ≡ min k (byte_len t)
char-place places t k one = elim (cases_lt (length t) k) [
  | inl past ↦
      let told = places t [] [] k tt tt past (inr refl) in
      ap (λ s. end_place (char_ends s) k (byte_len s)) (sym (whole t)) ∙ told ∙ omega (arith, no-end (k - length t), past, one)
  | inr within ↦
      let told = place_of_front (take k t) (drop k t) in
      let here = subst (λ (s : List ℕ). end_place (char_ends s) (length (take k t)) (byte_len s) ≡ byte_len (take k t)) (take-append-drop k t) told in
      ap (λ n. end_place (char_ends t) n (byte_len t)) (sym (length-take-le k t within)) ∙ here ∙ omega (arith, front-bytes t k one within, within, one)
]

-- ---- code units
pub units-one : UnitsAreCharsAndPairs → NoMoreThanBytes units → (t : List ℕ) → IsOneByte t → units t ≡ length t
units-one pairs few t one = omega (arith, one, pairs t, few t)

front-units : UnitsAreCharsAndPairs → NoMoreThanBytes units → (t : List ℕ) (k : ℕ) → IsOneByte t → k ≤ length t → units (take k t) ≡ k
front-units pairs few t k one within = omega (arith, front-bytes t k one within, length-take-le k t within, pairs (take k t), few (take k t))

pub units-up_to : UnitsAreCharsAndPairs → NoMoreThanBytes units → EndsAddUp AnyTexts units unit_ends → (t : List ℕ) (b : ℕ) → IsOneByte t → b ≤ byte_len t → ends_up_to b (unit_ends t) ≡ b
units-up_to pairs few law t b one within =
    let inside : b ≤ length t = omega (arith, one, within) in
    let bytes = front-bytes t b one inside in
    let told = law (take b t) [] (drop b t) b tt tt (omega (arith, bytes)) (front-end t b one inside) in
    ap (λ s. ends_up_to b (unit_ends s)) (sym (same (take b t) t b refl)) ∙ told ∙ omega (arith, front-units pairs few t b one inside)

first-unit : (t : List ℕ) → get_or (unit_starts t) 0 (byte_len t) ≡ 0
first-unit [] = refl
first-unit (c ∷ cs) = some (nat_le 0x1_0000 c) _ _
  where
    some : (b : Bool) (rest : List ℕ) (d : ℕ) → get_or (replicate (if b then 2 else 1) 0 ++ rest) 0 d ≡ 0
    some true rest d = refl
    some false rest d = refl

pub unit-place : UnitsAreCharsAndPairs → NoMoreThanBytes units → UnitStartsAddUp → (t : List ℕ) (k : ℕ) → IsOneByte t → get_or (unit_starts t) k (byte_len t) ≡ min k (byte_len t)
unit-place pairs few places t k one = elim (cases_lt (length t) k) [
  | inl past ↦
      let told = places t [] [] k (omega (arith, units-one pairs few t one, past)) (inr refl) in
      ap (λ s. get_or (unit_starts s) k (byte_len s)) (sym (whole t)) ∙ told ∙ omega (arith, past, one)
  | inr within ↦
      let front = front-units pairs few t k one within in
      let told = places (take k t) (drop k t) [] k (omega (arith, front)) (inr refl) in
      let all : take k t ++ drop k t ++ [] ≡ t = append-nil (take k t ++ drop k t) ∙ take-append-drop k t in
      let none : k - units (take k t) ≡ 0 = omega (arith, front) in
      let first = ap (λ n. get_or (unit_starts (drop k t)) n (byte_len (drop k t))) none ∙ first-unit (drop k t) in
      ap (λ s. get_or (unit_starts s) k (byte_len s)) (sym all) ∙ told ∙ omega (arith, first, front-bytes t k one within, within, one)
]
