-- Where a leaf may end: the bytes on both sides of an offset in UTF-8.
use Rattle.std.proofs.Common.{◌≡◌, ℕ, suc, ◌+◌, ◌-◌, ◌<◌, ◌≤◌, Bool, true, false, ◌&&◌, List, [], ◌∷◌, ◌++◌, length, take, drop, get_or, refl, ap, arith, sym, ◌∙◌, length-append, length-drop}
use Rattle.std.specs.Prelude.{encode_utf8_all}
use Rattle.std.specs.Str.{chars, IsUtf8, IsCharBoundary}
use Rattle.std.specs.Char.{encode_utf8, len_utf8}
use Rattle.std.proofs.lemmas.Str.{encodes-append, encodes-chars, IsCharBoundary-past_char, IsUtf8-take, IsUtf8-drop, chars-nil, len_utf8_bounds, len_utf8_ascii}
use Rattle.std.proofs.lemmas.List.{get_or-take}
use Rattle.std.proofs.Math.Seq.{get_or-append_seam, drop-cons}
use Rattle.std.proofs.Math.ListN.{drop_of_length-le}
use Rattle.std.proofs.Common.{length-take-le, ◌==◌}
use Rattle.std.proofs.lemmas.Bool.Decides.{nat_tests}
use Rattle.std.proofs.Common.{cond, ◌||◌}
use Rattle.std.specs.Prelude.{nat_le}
use Rattle.std.proofs.lemmas.Str.{length-le-encodes}
use Rattle.std.proofs.lemmas.List.Sums.{sum_by-cons}
use Rattle.std.proofs.lemmas.Bool.{cond_both}
use Rattle.str_indices.specs.Text.{breaks, units, units_of, byte_len, starts_with_lf, ends_with_cr}
use Rattle.ropey_tree.specs.Breaks.{is_break}
use Rattle.ropey_tree.specs.Counts.{counts_of, zero_counts}
use Rattle.ropey_tree.proofs.Totals.{units-le-bytes}

pub is_code : (c d : ℕ) → (c == d) ≡ true → c ≡ d
is_code c d h = grind (arith, nat_tests)

-- a text that starts with LF starts with its byte
pub first_byte : (t : List ℕ) → starts_with_lf t ≡ true → get_or (encode_utf8_all t) 0 0 ≡ 10
unfolding encode_utf8
first_byte [] h = cc
first_byte (c ∷ cs) h = rw (is_code c 10 h) refl

pub ends_at_cr : (t : List ℕ) → ends_with_cr t ≡ true → (init : List ℕ) × (t ≡ init ++ 13 ∷ [])
ends_at_cr [] h = ([], cc)
ends_at_cr (c ∷ []) h = ([], ap (λ d. d ∷ []) (is_code c 13 h))
ends_at_cr (c ∷ d ∷ cs) h = let rest = ends_at_cr (d ∷ cs) h in (c ∷ rest.0, ap (λ t. c ∷ t) rest.1)

pub lf_front : (t : List ℕ) → starts_with_lf t ≡ true → (rest : List ℕ) × (t ≡ 10 ∷ rest)
lf_front [] h = ([], cc)
lf_front (c ∷ cs) h = (cs, ap (λ d. d ∷ cs) (is_code c 10 h))

cr_byte : encode_utf8_all (13 ∷ []) ≡ 13 ∷ []
unfolding encode_utf8
cr_byte = refl

-- a text that ends with CR ends with its byte
pub last_byte : (t : List ℕ) (n : ℕ) → length (encode_utf8_all t) ≡ n + 1 → ends_with_cr t ≡ true → get_or (encode_utf8_all t) n 0 ≡ 13
last_byte t n len h =
    let parts = ends_at_cr t h in
    let bytes : encode_utf8_all t ≡ encode_utf8_all parts.0 ++ 13 ∷ [] = ap encode_utf8_all parts.1 ∙ encodes-append parts.0 (13 ∷ []) ∙ ap (λ bs. encode_utf8_all parts.0 ++ bs) cr_byte in
    let at : n ≡ length (encode_utf8_all parts.0) = omega (arith, len, ap length bytes, length-append (encode_utf8_all parts.0) (13 ∷ [])) in
    ap (λ bs. get_or bs n 0) bytes ∙ ap (λ m. get_or (encode_utf8_all parts.0 ++ 13 ∷ []) m 0) at ∙ get_or-append_seam (encode_utf8_all parts.0) 13 [] 0

-- what starts with the byte of CR does not start with LF
pub no_lf : (bytes : List ℕ) → starts_with_lf (chars (13 ∷ bytes)) ≡ false
unfolding chars
no_lf [] = refl
no_lf (b ∷ bytes) = refl

-- an empty text
pub no_cr_in_none : (bytes : List ℕ) → length bytes ≡ 0 → ends_with_cr (chars bytes) ≡ false
no_cr_in_none [] e = ap ends_with_cr chars-nil
no_cr_in_none (b ∷ bytes) e = absurd (omega (arith, e))

pub no_lf_in_none : (bytes : List ℕ) → length bytes ≡ 0 → starts_with_lf (chars bytes) ≡ false
no_lf_in_none [] e = ap starts_with_lf chars-nil
no_lf_in_none (b ∷ bytes) e = absurd (omega (arith, e))

pub and_false : (a b : Bool) → b ≡ false → (a && b) ≡ false
and_false true b e = e
and_false false b e = refl

pub unless_both : (a b : Bool) → (a ≡ true → b ≡ true → ⊥) → (a && b) ≡ false
unless_both true true h = absurd (h refl refl)
unless_both true false h = refl
unless_both false b h = refl

-- the next boundary is at most four bytes further
record HasNext (bytes : List ℕ) (end : ℕ) : Type 0 where
  place : ℕ
  later : end < place
  near : place ≤ end + 4
  boundary : IsCharBoundary bytes place

next_end : (bytes t : List ℕ) (end : ℕ) → IsUtf8 (drop end bytes) → end < length bytes → encode_utf8_all t ≡ drop end bytes → HasNext bytes end
next_end bytes [] end u within e = absurd (omega (arith, within, ap length e, length-drop end bytes))
next_end bytes (c ∷ cs) end u within e =
    let len = len_utf8_bounds c in
    record {
      place = end + len_utf8 c;
      later = omega (arith, len.0);
      near = omega (arith, len.1);
      boundary = IsCharBoundary-past_char bytes (encode_utf8_all cs) end c (omega (arith, within)) u (sym e);
    }

-- the last boundary up to `room`: at most three bytes of it are left, and none if LF follows
module _ (bytes : List ℕ) (room end : ℕ) (u : IsUtf8 bytes) (long : room ≤ length bytes) (boundary : IsCharBoundary bytes end) (high : end ≤ room)
    (nearest : (i : ℕ) → end < i → i ≤ room → ¬ (IsCharBoundary bytes i)) where
  rest_utf8 : IsUtf8 (drop end bytes)
  rest_utf8 = IsUtf8-drop bytes end u boundary

  rest_bytes : encode_utf8_all (chars (drop end bytes)) ≡ drop end bytes
  rest_bytes = encodes-chars (drop end bytes) rest_utf8

  too_low : end + 3 < room → ⊥
  too_low below =
      let next = next_end bytes (chars (drop end bytes)) end rest_utf8 (omega (arith, long, below)) rest_bytes in
      nearest next.place next.later (omega (arith, next.near, below)) next.boundary

  pub floor_low : room ≤ end + 3
  floor_low = let low = too_low in omega (arith, low)

  too_low_for_lf : starts_with_lf (chars (drop end bytes)) ≡ true → end < room → ⊥
  too_low_for_lf lf below =
      let parts = lf_front (chars (drop end bytes)) lf in
      let is : drop end bytes ≡ encode_utf8 10 ++ encode_utf8_all parts.0 = sym rest_bytes ∙ ap encode_utf8_all parts.1 in
      let len = len_utf8_ascii 10 (omega arith) in
      nearest (end + len_utf8 10) (omega (arith, len)) (omega (arith, len, below)) (IsCharBoundary-past_char bytes (encode_utf8_all parts.0) end 10 (omega (arith, long, below)) rest_utf8 is)

  pub lf_at_room : starts_with_lf (chars (drop end bytes)) ≡ true → end ≡ room
  lf_at_room lf = let low = too_low_for_lf lf in omega (arith, low, high)

-- at the end of a text
pub no_lf_at_end : (bytes : List ℕ) → starts_with_lf (chars (drop (length bytes) bytes)) ≡ true → ⊥
no_lf_at_end bytes lf =
    let none : chars (drop (length bytes) bytes) ≡ [] = ap chars (drop_of_length-le bytes (omega arith)) ∙ chars-nil in
    let no : starts_with_lf (chars (drop (length bytes) bytes)) ≡ false = ap starts_with_lf none in
    cc

-- at a CR
pub no_lf_at_cr : (bytes : List ℕ) (at : ℕ) → at < length bytes → get_or bytes at 0 ≡ 13 → starts_with_lf (chars (drop at bytes)) ≡ true → ⊥
no_lf_at_cr bytes at within is lf =
    let rest : drop at bytes ≡ 13 ∷ drop (suc at) bytes = drop-cons bytes at 0 within ∙ ap (λ b. b ∷ drop (suc at) bytes) is in
    let no : starts_with_lf (chars (drop at bytes)) ≡ false = ap (λ bs. starts_with_lf (chars bs)) rest ∙ no_lf (drop (suc at) bytes) in
    cc

not_true : (b : Bool) → (b ≡ true → ⊥) → b ≡ false
not_true true h = absurd (h refl)
not_true false h = refl

-- after another byte than CR
pub no_cr : (bytes : List ℕ) (at : ℕ) → IsUtf8 bytes → IsCharBoundary bytes at → 1 ≤ at → at ≤ length bytes → (get_or bytes (at - 1) 0 ≡ 13 → ⊥) → ends_with_cr (chars (take at bytes)) ≡ false
no_cr bytes at u boundary some within other =
    let front = encodes-chars (take at bytes) (IsUtf8-take bytes at u boundary) in
    let len : length (encode_utf8_all (chars (take at bytes))) ≡ at - 1 + 1 = ap length front ∙ length-take-le at bytes within ∙ omega (arith, some) in
    let here : get_or (take at bytes) (at - 1) 0 ≡ get_or bytes (at - 1) 0 = get_or-take at bytes (at - 1) 0 (omega (arith, some)) in
    not_true (ends_with_cr (chars (take at bytes)))
    (λ cr. other (sym here ∙ ap (λ bs. get_or bs (at - 1) 0) (sym front) ∙ last_byte (chars (take at bytes)) (at - 1) len cr))

-- ---- a text of at most one byte
pub counts-none : (bytes : List ℕ) → length bytes ≡ 0 → counts_of (chars bytes) ≡ zero_counts
counts-none [] e = ap counts_of chars-nil
counts-none (b ∷ bytes) e = absurd (omega (arith, e))

-- one character, which is one unit, and a break if it is LF or CR
pub record IsOneByte (t : List ℕ) : Type 0 where
  pub chars : length t ≡ 1
  pub units : units t ≡ 1
  pub breaks : breaks is_break t ≡ cond (starts_with_lf t || ends_with_cr t) 1 0

pub one_byte_text : (t : List ℕ) → byte_len t ≡ 1 → IsOneByte t
one_byte_text [] e = absurd (omega (arith, e))
one_byte_text (c ∷ []) e =
    let few = units-le-bytes (c ∷ []) in
    let sum = sum_by-cons units_of c [] in
    let some : 1 ≤ units_of c = cond_both (nat_le 0x1_0000 c) 2 1 (λ n. 1 ≤ n) (λ _. omega arith) (λ _. omega arith) in
    record {
      chars = refl;
      units = omega (arith, few, sum, some, e);
      breaks = one_break c;
    }
  where
    one_break : (c : ℕ) → breaks is_break (c ∷ []) ≡ cond ((c == 10) || (c == 13)) 1 0
    one_break c = grind (arith, nat_tests)
one_byte_text (c ∷ d ∷ cs) e = absurd (omega (arith, e, length-le-encodes (c ∷ d ∷ cs)))
