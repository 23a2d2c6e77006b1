-- A template's first piece, from its bytes.
use Rattle.std.proofs.Common.{◌≡◌, ℕ, zero, suc, ◌+◌, ◌-◌, ◌<◌, ◌≤◌, false, List, [], ◌∷◌, ◌++◌, length, take, drop, slice_index, refl, ap, sym, subst, ◌∙◌, inl, inr, arith, IsUtf8, encode_utf8_all, encode_utf8, nat_lt, lit<, length-append, Option, Some, None}
use Rattle.std.proofs.lemmas.Bool.{cases_Bool, eqb-true, eqb-false, eq-eqb}
use Rattle.std.proofs.lemmas.Bool.Decides.{nat_tests}
use Rattle.std.proofs.lemmas.List.{get_or-append-add, take-append-drop, get_or-take, length-take}
use Rattle.std.proofs.lemmas.Str.{encode_ascii, encodes-chars, chars_past_char, IsUtf8-past_char, chars-append, chars-nil, IsCharBoundary-after_ascii}
use Rattle.std.specs.Str.{chars, NonePass, IsCharBoundary}
use Rattle.std.specs.Borrow.{Bor}
use Rattle.std.specs.Option.{unwrap_or}
use Rattle.memchr.specs.Find.{IsFirstByte, is_byte}
use Rattle.rope_search_changes.specs.Replacement.{expand, is_digit}
use Rattle.rope_search_templates.specs.Pieces.{BeginsWith, IsFirstPiece, StartsPlain}
use Rattle.rope_search_templates.specs.declared.pieces.Piece.{Piece}
use Rattle.rope_search_templates.specs.declared.pieces.Piece.TheVariants.{Text, Group}
use Rattle.rope_search_templates.proofs.ExpandLemmas.{is_dollar, expand-plain, expand-lone, expand-group, names-plain, names-lone, names-group}

-- ---- ASCII

-- an ASCII character is first if its byte is
chars-past : (b : ℕ) (bs : List ℕ) → b < 128 → IsUtf8 (b ∷ bs) → chars (b ∷ bs) ≡ b ∷ chars bs
chars-past b bs low utf8 = chars_past_char (b ∷ bs) bs b utf8 (sym (ap (λ xs. xs ++ bs) (encode_ascii b low)))

utf8-past : (b : ℕ) (bs : List ℕ) → b < 128 → IsUtf8 (b ∷ bs) → IsUtf8 bs
utf8-past b bs low utf8 = IsUtf8-past_char (b ∷ bs) bs b utf8 (sym (ap (λ xs. xs ++ bs) (encode_ascii b low)))

-- ---- no dollar

-- no byte is a dollar
abbrev pub HasNoDollar : List ℕ → Type 0
HasNoDollar bs = (k : ℕ) → k < length bs → slice_index bs k ≡ 36 → ⊥

none-encoded : (cs : List ℕ) → HasNoDollar (encode_utf8_all cs) → NonePass is_dollar cs
none-encoded [] none = tt
none-encoded (c ∷ cs) none =
    let behind = encode_utf8_all cs in
    let head : is_dollar c ≡ false = elim (cases_Bool (is_dollar c)) [
      | inl is_so ↦
          let is : encode_utf8_all (c ∷ cs) ≡ 36 ∷ behind = ap (λ (d : ℕ). encode_utf8_all (d ∷ cs)) (eqb-true c 36 is_so) ∙ ap (λ xs. xs ++ behind) (encode_ascii 36 (lit< tt)) in
          absurd (subst HasNoDollar is none 0 (omega arith) refl)
      | inr is_not ↦ is_not
    ] in
    (head, none-encoded cs (λ k low is. none (length (encode_utf8 c) + k) (omega (arith, length-append (encode_utf8 c) behind)) (get_or-append-add (encode_utf8 c) behind k 0 ∙ is)))

none-dollar : (bs : List ℕ) → IsUtf8 bs → HasNoDollar bs → NonePass is_dollar (chars bs)
none-dollar bs utf8 none = none-encoded (chars bs) (subst HasNoDollar (sym (encodes-chars bs utf8)) none)

none-first : (b : ℕ) (bs : List ℕ) → is_dollar b ≡ false → HasNoDollar bs → HasNoDollar (b ∷ bs)
none-first b bs other none zero low is = eqb-false b 36 other is
none-first b bs other none (suc k) low is = none k (omega (arith, low)) is

-- ---- the first character

starts-encoded : (cs : List ℕ) → StartsPlain (encode_utf8_all cs) → StartsPlain cs
starts-encoded [] plain = tt
starts-encoded (c ∷ cs) plain = elim (cases_Bool (nat_lt c 128)) [
  | inl is_so ↦
      let low : c < 128 = grind (arith, nat_tests, is_so) in
      let is : encode_utf8_all (c ∷ cs) ≡ c ∷ encode_utf8_all cs = ap (λ xs. xs ++ encode_utf8_all cs) (encode_ascii c low) in
      subst StartsPlain is plain
  | inr is_not ↦
      let high : 128 ≤ c = grind (arith, nat_tests, is_not) in
      let other : is_dollar c ≡ false = grind (arith, nat_tests) in
      let more : is_digit c ≡ false = grind (arith, nat_tests) in
      (other, more)
]

starts-plain : (bs : List ℕ) → IsUtf8 bs → StartsPlain bs → StartsPlain (chars bs)
starts-plain bs utf8 plain = starts-encoded (chars bs) (subst StartsPlain (sym (encodes-chars bs utf8)) plain)

-- some characters if there are some bytes
some-chars : (b : ℕ) (bs : List ℕ) → IsUtf8 (b ∷ bs) → 0 < length (chars (b ∷ bs))
some-chars b bs utf8 = some-in (chars (b ∷ bs)) (encodes-chars (b ∷ bs) utf8)
  where
    some-in : (cs : List ℕ) → encode_utf8_all cs ≡ b ∷ bs → 0 < length cs
    some-in [] is = absurd (cc)
    some-in (c ∷ cs) is = omega arith

-- ---- the first piece

first-dollar : (left behind : List ℕ) (text : Bor (List ℕ)) → IsUtf8 left → 2 ≤ length left
    → slice_index left 0 ≡ 36 → slice_index left 1 ≡ 36 → IsUtf8 text.now
    → text.now ≡ 36 ∷ [] → behind ≡ drop 2 left
    → IsFirstPiece (chars left) (Text text) (chars behind)
first-dollar [] behind text utf8 two _ _ _ _ _ = absurd (omega arith)
first-dollar (a ∷ []) behind text utf8 two _ _ _ _ _ = absurd (omega arith)
first-dollar (a ∷ b ∷ bs) behind text utf8 two a-is b-is text_utf8 one behind-is =
    let is : a ∷ b ∷ bs ≡ 36 ∷ 36 ∷ bs = cc in
    let utf8' : IsUtf8 (36 ∷ 36 ∷ bs) = subst IsUtf8 is utf8 in
    let low : 36 < 128 = lit< tt in
    let left-is : chars (a ∷ b ∷ bs) ≡ 36 ∷ 36 ∷ chars bs = ap chars is ∙ chars-past 36 (36 ∷ bs) low utf8' ∙ ap (λ cs. 36 ∷ cs) (chars-past 36 bs low (utf8-past 36 (36 ∷ bs) low utf8')) in
    let one-is : chars text.now ≡ 36 ∷ [] = ap chars one ∙ chars-past 36 [] low (subst IsUtf8 one text_utf8) ∙ ap (λ cs. 36 ∷ cs) chars-nil in
    let rest-is : chars behind ≡ chars bs = ap chars behind-is in
    rw (left-is, rest-is) (record {
      is_one = text_utf8;
      expands = λ content groups. rw one-is refl;
      names_it = λ test. refl;
      shorter = omega arith;
    })

first-group : (left behind : List ℕ) → IsUtf8 left → 2 ≤ length left
    → slice_index left 0 ≡ 36 → 48 ≤ slice_index left 1 → slice_index left 1 ≤ 57
    → behind ≡ drop 2 left
    → IsFirstPiece (chars left) (Group (slice_index left 1 - 48)) (chars behind)
first-group [] behind utf8 two _ _ _ _ = absurd (omega arith)
first-group (a ∷ []) behind utf8 two _ _ _ _ = absurd (omega arith)
first-group (a ∷ b ∷ bs) behind utf8 two a-is low high behind-is =
    let is : a ∷ b ∷ bs ≡ 36 ∷ b ∷ bs = ap (λ (n : ℕ). n ∷ b ∷ bs) a-is in
    let utf8' : IsUtf8 (36 ∷ b ∷ bs) = subst IsUtf8 is utf8 in
    let left-is : chars (a ∷ b ∷ bs) ≡ 36 ∷ b ∷ chars bs = ap chars is ∙ chars-past 36 (b ∷ bs) (lit< tt) utf8' ∙ ap (λ cs. 36 ∷ cs) (chars-past b bs (omega arith) (utf8-past 36 (b ∷ bs) (lit< tt) utf8')) in
    let rest-is : chars behind ≡ chars bs = ap chars behind-is in
    rw (left-is, rest-is) (record {
      is_one = omega arith;
      expands = λ content groups. expand-group content groups b (chars bs) low high;
      names_it = λ test. names-group test b (chars bs) low high;
      shorter = omega arith;
    })

pub first-pair : (left behind : List ℕ) (piece : Piece) → IsUtf8 left → BeginsWith left piece → behind ≡ drop 2 left
    → IsFirstPiece (chars left) piece (chars behind)
first-pair left behind (Text text) utf8 begins is =
    first-dollar left behind text utf8 begins.0.two begins.0.first begins.0.second_is begins.2 begins.1 is
first-pair left behind (Group number) utf8 begins is =
    let digit : slice_index left 1 - 48 ≡ number = omega (arith, begins.0.second_is) in
    subst (λ (k : ℕ). IsFirstPiece (chars left) (Group k) (chars behind)) digit
    (first-group left behind utf8 begins.0.two begins.0.first (omega (arith, begins.0.second_is)) (omega (arith, begins.0.second_is, begins.1)) is)

pub pair-ends : (left : List ℕ) (piece : Piece) → IsUtf8 left → BeginsWith left piece → IsCharBoundary left 2
pair-ends left (Text text) utf8 begins = IsCharBoundary-after_ascii left 1 utf8 (omega (arith, begins.0.two)) (omega (arith, begins.0.second_is))
pair-ends left (Group number) utf8 begins = IsCharBoundary-after_ascii left 1 utf8 (omega (arith, begins.0.two)) (omega (arith, begins.0.second_is, begins.1))

-- a text up to the next dollar after its first byte
pub record IsFirstText (left text behind : List ℕ) (n : ℕ) : Type 0 where
  pub some : 0 < length left
  pub text_utf8 : IsUtf8 text
  pub text_is : text ≡ take (suc n) left
  pub behind_is : behind ≡ drop (suc n) left
  pub none : HasNoDollar (take n (drop 1 left))
  pub plain : slice_index left 0 ≡ 36 → StartsPlain (drop 1 left)

first-text-lone : (bs text behind : List ℕ) (n : ℕ) → IsUtf8 (36 ∷ bs) → IsFirstText (36 ∷ bs) text behind n
    → (chars (36 ∷ bs) ≡ 36 ∷ (chars (take n bs) ++ chars behind))
    × (chars text ≡ 36 ∷ chars (take n bs)) × NonePass is_dollar (chars (take n bs)) × StartsPlain (chars (take n bs) ++ chars behind)
first-text-lone bs text behind n utf8 is =
    let low : 36 < 128 = lit< tt in
    let bs-utf8 : IsUtf8 bs = utf8-past 36 bs low utf8 in
    let text-is : text ≡ 36 ∷ take n bs = is.text_is in
    let behind-is : behind ≡ drop n bs = is.behind_is in
    let front-utf8 : IsUtf8 (take n bs) = utf8-past 36 (take n bs) low (subst IsUtf8 text-is is.text_utf8) in
    let bs-is : chars bs ≡ chars (take n bs) ++ chars behind = ap chars (sym (take-append-drop n bs)) ∙ chars-append (take n bs) (drop n bs) front-utf8 ∙ ap (λ b. chars (take n bs) ++ chars b) (sym behind-is) in (
      chars-past 36 bs low utf8 ∙ ap (λ cs. 36 ∷ cs) bs-is,
      ap chars text-is ∙ chars-past 36 (take n bs) low (subst IsUtf8 text-is is.text_utf8),
      none-dollar (take n bs) front-utf8 is.none,
      subst StartsPlain bs-is (starts-plain bs bs-utf8 (is.plain refl)),
    )

pub first-text : (left behind : List ℕ) (text : Bor (List ℕ)) (n : ℕ) → IsUtf8 left → IsFirstText left text.now behind n
    → IsFirstPiece (chars left) (Text text) (chars behind)
first-text [] behind text n utf8 is = absurd (omega (arith, is.some))
first-text (a ∷ bs) behind text n utf8 is = elim (cases_Bool (is_dollar a)) [
  | inl is_so ↦
      let a-is : a ≡ 36 = eqb-true a 36 is_so in
      let same : a ∷ bs ≡ 36 ∷ bs = ap (λ (b : ℕ). b ∷ bs) a-is in
      let parts = first-text-lone bs text.now behind n (subst IsUtf8 same utf8) (subst (λ (l : List ℕ). IsFirstText l text.now behind n) same is) in
      let front = chars (take n bs) in
      let left-is : chars (a ∷ bs) ≡ 36 ∷ (front ++ chars behind) = ap chars same ∙ parts.0 in
      rw left-is (record {
        is_one = is.text_utf8;
        expands = λ content groups. expand-lone content groups (front ++ chars behind) parts.3 ∙ ap (λ cs. 36 ∷ cs) (expand-plain content groups front (chars behind) parts.2) ∙ ap (λ cs. cs ++ expand content groups (chars behind)) (sym parts.1);
        names_it = λ test. names-lone test (front ++ chars behind) parts.3 ∙ names-plain test front (chars behind) parts.2;
        shorter = omega (arith, length-append front (chars behind));
      })
  | inr is_not ↦
      let left-is : chars (a ∷ bs) ≡ chars text.now ++ chars behind = ap chars (sym (take-append-drop (suc n) (a ∷ bs))) ∙ chars-append (take (suc n) (a ∷ bs)) (drop (suc n) (a ∷ bs)) (subst IsUtf8 is.text_is is.text_utf8) ∙ ap (λ b. chars (take (suc n) (a ∷ bs)) ++ chars b) (sym is.behind_is) ∙ ap (λ t. chars t ++ chars behind) (sym is.text_is) in
      let none : NonePass is_dollar (chars text.now) = none-dollar text.now is.text_utf8 (subst HasNoDollar (sym is.text_is) (none-first a (take n bs) is_not is.none)) in
      let some : 0 < length (chars text.now) = subst (λ (t : List ℕ). 0 < length (chars t)) (sym is.text_is) (some-chars a (take n bs) (subst IsUtf8 is.text_is is.text_utf8)) in
      rw left-is (record {
        is_one = is.text_utf8;
        expands = λ content groups. expand-plain content groups (chars text.now) (chars behind) none;
        names_it = λ test. names-plain test (chars text.now) (chars behind) none;
        shorter = omega (arith, length-append (chars text.now) (chars behind), some);
      })
]

-- ---- up to the next dollar

-- no byte before it is one
pub none-up-to : (hay : List ℕ) (found : Option ℕ) → IsFirstByte (is_byte 36) hay found
    → HasNoDollar (take (unwrap_or found (length hay)) hay)
none-up-to hay None none k low is =
    let within : k < length hay = omega (arith, length-take (length hay) hay) in
    none k (omega arith) within (eq-eqb (slice_index hay k) 36 (sym (get_or-take (length hay) hay k 0 within) ∙ is))
none-up-to hay (Some n) first k low is =
    let within : k < n = omega (arith, length-take n hay) in
    first.0.before k (omega arith) within (eq-eqb (slice_index hay k) 36 (sym (get_or-take n hay k 0 within) ∙ is))
