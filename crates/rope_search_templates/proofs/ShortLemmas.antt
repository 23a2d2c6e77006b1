-- A bound on the length of a text whose matches are replaced, if only their spans are known.
use Rattle.std.proofs.Common.{◌≡◌, ℕ, zero, suc, ◌+◌, ◌-◌, ◌*◌, ◌≤◌, ◌==◌, ◌&&◌, List, [], ◌∷◌, length, map, ap, ◌∙◌, arith, inl, inr, IsUtf8}
use Rattle.std.proofs.Math.Nat.{suc-mul, mul-one, mul_comm, mul-le-mul_left}
use Rattle.std.proofs.lemmas.Bool.{cases_Bool}
use Rattle.std.proofs.lemmas.Str.{len_utf8_bounds}
use Rattle.std.specs.Char.{len_utf8}
use Rattle.str_indices.specs.Text.{byte_len}
use Rattle.rope_search_changes.specs.Replacement.{IsSpanIn, alone, expand, group_text, is_digit, replaced}
use Rattle.rope_search_templates.proofs.ContentLemmas.{byte_len-append, byte_len-one, AreLeft, left-behind}
use Rattle.rope_search_templates.proofs.LengthLemmas.{len-none, len-more}
use Rattle.rope_search_templates.proofs.SpanLemmas.{span-len}

mul-sum : (w a b : ℕ) → w * (a + b) ≡ w * a + w * b
mul-sum zero a b = omega arith
mul-sum (suc w) a b = omega (arith, suc-mul w (a + b), suc-mul w a, suc-mul w b, mul-sum w a b)

module _ (content : List ℕ) (utf8 : IsUtf8 content) (span : ℕ × ℕ) (is : IsSpanIn content span) where
  group-short : (number : ℕ) → byte_len (group_text content (alone span) number) ≤ span.1 - span.0
  group-short zero = omega (arith, span-len content span utf8 is)
  group-short (suc number) = omega arith

  pub expand-short : (template : List ℕ) → byte_len (expand content (alone span) template)
      ≤ (span.1 - span.0) * byte_len template + byte_len template
  expand-short [] = omega arith
  expand-short (c ∷ []) = omega arith
  expand-short (c ∷ d ∷ rest) =
      let w = span.1 - span.0 in
      let r = byte_len rest in
      let two : byte_len (c ∷ d ∷ rest) ≡ len_utf8 c + len_utf8 d + r = omega (arith, byte_len-one c (d ∷ rest), byte_len-one d rest) in
      let parts : w * byte_len (c ∷ d ∷ rest) ≡ w * (len_utf8 c + len_utf8 d) + w * r = ap (λ n. w * n) two ∙ mul-sum w (len_utf8 c + len_utf8 d) r in
      let one : w * 1 ≤ w * (len_utf8 c + len_utf8 d) = mul-le-mul_left w (omega (arith, (len_utf8_bounds c).0)) in
      elim (cases_Bool ((c == 36) && (d == 36))) [
        | inl pair ↦ rw pair (omega (arith, two, parts, byte_len-one 36 (expand content (alone span) rest), expand-short rest, (len_utf8_bounds c).0, (len_utf8_bounds d).0))
        | inr other ↦ elim (cases_Bool ((c == 36) && is_digit d)) [
          | inl named ↦ rw (other, named) (omega (arith, two, parts, one, mul-one w, byte_len-append (group_text content (alone span) (d - 48)) (expand content (alone span) rest), group-short (d - 48), expand-short rest))
          | inr more ↦ rw (other, more) (omega (arith, byte_len-one c (expand content (alone span) (d ∷ rest)), expand-short (d ∷ rest), byte_len-one c (d ∷ rest), ap (λ n. w * n) (byte_len-one c (d ∷ rest)), mul-sum w (len_utf8 c) (byte_len (d ∷ rest))))
        ]
      ]

pub replaced-short : (content template : List ℕ) (at : ℕ) (spans : List (ℕ × ℕ)) → IsUtf8 content → AreLeft content at (map alone spans)
    → byte_len (replaced content template at (map alone spans))
    ≤ byte_len template * (length content - at) + (length content - at) + byte_len template * length spans
replaced-short content template at [] utf8 left = omega (arith, len-none content template at utf8 left.here)
replaced-short content template at (span ∷ spans) utf8 left =
    let m = byte_len template in
    let follow = left.follow in
    let is : IsSpanIn content span = record { ordered = follow.1; starts = follow.2; stops = follow.3 } in
    let gap = span.0 - at in
    let w = span.1 - span.0 in
    let behind = length content - span.1 in
    let all : length content - at ≡ gap + (w + behind) = omega (arith, follow.0, follow.1, follow.3.0) in
    let parts : m * (length content - at) ≡ m * gap + (m * w + m * behind) = ap (λ n. m * n) all ∙ mul-sum m gap (w + behind) ∙ ap (λ n. m * gap + n) (mul-sum m w behind) in
    omega (
      arith,
      all,
      parts,
      len-more content template at (alone span) (map alone spans) utf8 left,
      expand-short content utf8 span is template,
      mul_comm w m,
      replaced-short content template span.1 spans utf8 (left-behind content at (alone span) (map alone spans) left),
      mul-sum m 1 (length spans),
      mul-one m,
    )

pub all-short : (content template : List ℕ) (spans : List (ℕ × ℕ)) → IsUtf8 content → AreLeft content 0 (map alone spans)
    → byte_len (replaced content template 0 (map alone spans)) ≤ byte_len template * length content + length content + byte_len template * length spans
all-short content template spans utf8 left =
    let none : length content - 0 ≡ length content = omega arith in
    omega (arith, none, ap (λ n. byte_len template * n) none, replaced-short content template 0 spans utf8 left)
