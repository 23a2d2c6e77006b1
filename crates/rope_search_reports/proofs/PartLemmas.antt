-- The lines of a rope as slices, and their texts.
use Rattle.std.proofs.Common.{◌≡◌, ℕ, zero, suc, ◌+◌, ◌-◌, ◌<◌, ◌≤◌, ◌==◌, Bool, true, false, not, ◌&&◌, inl, inr, List, [], ◌∷◌, ◌++◌, length, take, drop, nat_lt, refl, sym, ap, ◌∙◌, arith, append-nil, append_assoc}
use Rattle.std.proofs.Math.Seq.{take-append_seam, drop-append_seam}
use Rattle.std.proofs.lemmas.Bool.{cases_Bool, cond-true, cond-false}
use Rattle.std.proofs.lemmas.Bool.Decides.{nat_tests}
use Rattle.std.proofs.lemmas.List.{take_all, drop_all, drop-append-le, get_or_past}
use Rattle.str_indices.specs.Text.{byte_len, break_ends, char_ends, ends_up_to}
use Rattle.str_indices.specs.FirstBreak.{IsBreak}
use Rattle.ropey.specs.Chunks.{is_break, text_of}
use Rattle.ropey.specs.Iter.{line_pieces}
use Rattle.ropey.specs.Slices.{pieces_from_char, pieces_to_char, clip, char_of_line}
use Rattle.rope_search_reports.specs.Text.{line_count}
use Rattle.rope_search_reports.specs.Position.{line_start, line_text}
use Rattle.rope_search_reports.specs.Drafts.{HasOwnText}
use Rattle.rope_search_reports.proofs.TextPlaces.{PlaceLaws}
use Rattle.rope_search_reports.proofs.LineLemmas.{byte_len-append, lines-in-place}
use Rattle.rope_search_reports.proofs.PlaceLemmas.{front_of}

-- ---- pieces that are clipped

take-joined : (n : ℕ) (xs ys : List ℕ) → take n (xs ++ ys) ≡ take n xs ++ take (n - length xs) ys
take-joined zero xs ys = ap (λ n. take n ys) (sym (none (length xs)))
  where
    none : (k : ℕ) → 0 - k ≡ 0
    none k = omega arith
take-joined (suc n) [] ys = let same : suc n ≡ suc n - 0 = omega arith in ap (λ k. take k ys) same
take-joined (suc n) (x ∷ xs) ys =
    let same : n - length xs ≡ suc n - suc (length xs) = omega arith in
    ap (λ zs. x ∷ zs) (take-joined n xs ys ∙ ap (λ k. take n xs ++ take k ys) same)

drop-joined : (n : ℕ) (xs ys : List ℕ) → length xs ≤ n → drop n (xs ++ ys) ≡ drop (n - length xs) ys
drop-joined n [] ys high = let same : n ≡ n - 0 = omega arith in ap (λ k. drop k ys) same
drop-joined zero (x ∷ xs) ys high = absurd (omega (arith, high))
drop-joined (suc n) (x ∷ xs) ys high =
    let same : n - length xs ≡ suc n - suc (length xs) = omega arith in
    drop-joined n xs ys (omega (arith, high)) ∙ ap (λ k. drop k ys) same

pieces-to : (end : ℕ) (pieces : List (List ℕ)) → text_of (pieces_to_char end pieces) ≡ take end (text_of pieces)
pieces-to end [] = sym (take_all end [] (omega arith))
pieces-to zero (p ∷ ps) = refl
pieces-to (suc n) (p ∷ ps) =
    let some : (suc n == 0) ≡ false = grind (arith, nat_tests) in
    ap text_of (cond-false _ _ _ some) ∙ ap (λ t. take (suc n) p ++ t) (pieces-to (suc n - length p) ps) ∙ sym (take-joined (suc n) p (text_of ps))

pieces-from : (start : ℕ) (pieces : List (List ℕ)) → text_of (pieces_from_char start pieces) ≡ drop start (text_of pieces)
pieces-from start [] = sym (drop_all start [] (omega arith))
pieces-from start (p ∷ ps) = elim (cases_Bool (nat_lt start (length p))) [
  | inl is_so ↦
      let low : start ≤ length p = grind (arith, nat_tests, is_so) in
      ap text_of (cond-true _ _ _ is_so) ∙ sym (drop-append-le start p (text_of ps) low)
  | inr is_not ↦
      let high : length p ≤ start = grind (arith, nat_tests, is_not) in
      ap text_of (cond-false _ _ _ is_not) ∙ pieces-from (start - length p) ps ∙ sym (drop-joined start p (text_of ps) high)
]

pub clipped : (start end : ℕ) (pieces : List (List ℕ)) → text_of (clip start end pieces) ≡ drop start (take end (text_of pieces))
clipped start end pieces = pieces-from start (pieces_to_char end pieces) ∙ ap (drop start) (pieces-to end pieces)

-- ---- by lines

break-alone : (in_set cr lf : Bool) → (in_set && not (cr && lf)) ≡ true → (in_set && not (cr && false)) ≡ true
break-alone false cr lf is = is
break-alone true false lf is = refl
break-alone true true lf is = refl

-- a break is one if nothing follows it
break-last : (one behind : List ℕ) → IsBreak is_break one behind → IsBreak is_break one []
break-last [] behind is = is
break-last (c ∷ []) behind is = break-alone (is_break c) (c == 13) _ is
break-last (c ∷ d ∷ []) behind is = is
break-last (c ∷ d ∷ e ∷ es) behind is = is

-- where the line after the last one would start
pub past-last : (text : List ℕ) (line : ℕ) → line + 1 ≡ line_count text → line_start text (line + 1) ≡ byte_len text
past-last text line is_last =
    let all = byte_len text in
    let ends = break_ends is_break text in
    let same : line + 1 ≡ suc line = omega arith in
    ap (line_start text) same ∙ get_or_past ends line all (omega (arith, is_last))

module _ (law : PlaceLaws) where
  -- the character at which a line starts, from the text before it
  char-is : (text front behind : List ℕ) (line : ℕ) → text ≡ front ++ behind → line_start text line ≡ byte_len front → char_of_line text line ≡ length front
  char-is text front behind line parts starts = ap (λ n. ends_up_to n (char_ends text)) starts ∙ (front_of law text front behind parts).chars_are

  -- a part of a text, from the characters before it and before its end
  part-is : (pieces : List (List ℕ)) (start end : ℕ) (before part behind : List ℕ) → text_of pieces ≡ before ++ (part ++ behind) → start ≡ length before → end ≡ length (before ++ part)
      → text_of (clip start end pieces) ≡ part
  part-is pieces start end before part behind parts starts ends =
      clipped start end pieces
      ∙ ap (λ n. drop start (take n (text_of pieces))) ends
      ∙ ap (λ t. drop start (take (length (before ++ part)) t)) (parts ∙ sym (append_assoc before part behind))
      ∙ ap (drop start) (take-append_seam (before ++ part) behind)
      ∙ ap (λ n. drop n (before ++ part)) starts ∙ drop-append_seam before part

  -- a line's pieces are its text and its break
  pub line-is : (pieces : List (List ℕ)) (line : ℕ) → line < line_count (text_of pieces) → HasOwnText (text_of (line_pieces pieces line)) (line_text (text_of pieces) line)
  line-is pieces line inside =
      let text = text_of pieces in
      let own = line_text text line in
      let h = lines-in-place text line inside in
      let start = char-is text h.before (own ++ h.behind) line h.parts h.starts in
      let split = byte_len-append h.before own in
      elim h.ended [
        | inl is_last ↦
            let parts : text ≡ h.before ++ (own ++ []) = h.parts ∙ ap (λ t. h.before ++ (own ++ t)) is_last.nothing in
            let parts' : text ≡ (h.before ++ own) ++ [] = parts ∙ sym (append_assoc h.before own []) in
            let next : line_start text (line + 1) ≡ byte_len (h.before ++ own) = past-last text line is_last.last ∙ sym is_last.ends ∙ h.ends in
            let stop = char-is text (h.before ++ own) [] (line + 1) parts' next in
            record {
              one = [];
              parts = part-is pieces (char_of_line text line) (char_of_line text (line + 1)) h.before own [] parts start stop ∙ sym (append-nil own);
              plain = h.plain;
              ended = inl refl;
            }
        | inr broken ↦
            let one = broken.one in
            let parts : text ≡ h.before ++ ((own ++ one) ++ broken.rest) =
            h.parts ∙ ap (λ t. h.before ++ (own ++ t)) broken.splits ∙ ap (λ t. h.before ++ t) (sym (append_assoc own one broken.rest)) in
            let parts' : text ≡ (h.before ++ (own ++ one)) ++ broken.rest = parts ∙ sym (append_assoc h.before (own ++ one) broken.rest) in
            let starts = h.starts in
            let broken_next = broken.next in
            let next : line_start text (line + 1) ≡ byte_len (h.before ++ (own ++ one)) =
            omega (arith, starts, broken_next, byte_len-append h.before (own ++ one), byte_len-append own one) in
            let stop = char-is text (h.before ++ (own ++ one)) broken.rest (line + 1) parts' next in
            record {
              one = one;
              parts = part-is pieces (char_of_line text line) (char_of_line text (line + 1)) h.before (own ++ one) broken.rest parts start stop;
              plain = h.plain;
              ended = inr (break-last one broken.rest broken.is);
            }
      ]
