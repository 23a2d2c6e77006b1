-- Where the line of an offset starts, from the bytes before it.
use Rattle.std.proofs.Common.{◌≡◌, ℕ, zero, suc, ◌+◌, ◌-◌, ◌<◌, ◌≤◌, min, Bool, true, false, not, ◌&&◌, cond, List, length, take, drop, get_or, chars, IsUtf8, sum, refl, ap, sym, ◌∙◌, arith}
use Rattle.std.specs.Prelude.{◌==◌, ◌||◌}
use Rattle.std.proofs.lemmas.Bool.Decides.{nat_tests}
use Rattle.std.proofs.lemmas.List.{get_or-take, length-take-le}
use Rattle.std.proofs.lemmas.List.Sums.{sum_by_more}
use Rattle.str_indices.specs.Bytes.{IsFirstPast, crlf_line_weights, ends_crlf_line}
use Rattle.str_indices.specs.BreakBytes.{crlf_lines_at_last_bytes}
use Rattle.str_indices.specs.Text.{break_ends, end_place, ends_up_to, starts_with_lf}
use Rattle.str_indices.proofs.Indices.{last_bytes-line, last_bytes-up_to}
use Rattle.str_indices.proofs.Tested.{tested-at}
use Rattle.ropey.specs.Chunks.{is_break}
use Rattle.memchr.specs.Find.{Nowhere, NoneAfter, Passes, is_byte2}

-- the number of breaks that end with a byte
ended : (bytes : List ℕ) (at : ℕ) → at < length bytes
    → get_or (crlf_line_weights bytes) at 0 ≡ cond ((get_or bytes at 0 == 10) || ((get_or bytes at 0 == 13) && not (starts_with_lf (drop (at + 1) bytes)))) 1 0
ended bytes at within = tested-at ends_crlf_line 0 0 bytes at within

not-ended : (b : ℕ) (lf : Bool) → (is_byte2 10 13 b ≡ true → ⊥) → cond {A = ℕ} ((b == 10) || ((b == 13) && not lf)) 1 0 ≡ 0
not-ended b lf plain = grind (arith, nat_tests, plain)

ends-there : (b : ℕ) (lf : Bool) → is_byte2 10 13 b ≡ true → ((b == 13) && lf) ≡ false → cond {A = ℕ} ((b == 10) || ((b == 13) && not lf)) 1 0 ≡ 1
ends-there b lf is whole = grind (arith, nat_tests, is, whole)

-- if none ends between two offsets, equally many end up to either
none-between : (ws : List ℕ) (from n : ℕ) → from + n ≤ length ws → ((k : ℕ) → from ≤ k → k < from + n → get_or ws k 0 ≡ 0) → sum (take (from + n) ws) ≡ sum (take from ws)
none-between ws from zero within none = ap (λ k. sum (take k ws)) (let e : from + zero ≡ from = omega arith in e)
none-between ws from (suc n) within none =
    let more = sum_by_more (λ x. x) ws (from + n) 0 (omega (arith, within)) in
    let before = none-between ws from n (omega (arith, within)) (λ k low high. none k low (omega (arith, high))) in
    let last = none (from + n) (omega arith) (omega arith) in
    let same = ap (λ k. sum (take k ws)) (let e : from + suc n ≡ from + n + 1 = omega arith in e) in
    omega (arith, more, before, last, same)

module _ (text : List ℕ) (place : ℕ) (utf8 : IsUtf8 text) (within : place ≤ length text) where
  up-to : sum (take place (crlf_line_weights text)) ≡ ends_up_to place (break_ends is_break (chars text))
  up-to =
      ap (λ n. sum (take n (crlf_line_weights text))) (let e : place ≡ min place (length text) = omega (arith, within) in e)
      ∙ last_bytes-up_to crlf_line_weights _ crlf_lines_at_last_bytes text utf8 place

  long : length (crlf_line_weights text) ≡ length text
  long = crlf_lines_at_last_bytes.len text

  -- a byte before the offset, in what is scanned
  bare-at : (k : ℕ) → k < place → (is_byte2 10 13 (get_or (take place text) k 0) ≡ true → ⊥) → get_or (crlf_line_weights text) k 0 ≡ 0
  bare-at k below plain =
      ended text k (omega (arith, below, within))
      ∙ not-ended (get_or text k 0) (starts_with_lf (drop (k + 1) text)) (λ is. plain (ap (is_byte2 10 13) (get_or-take place text k 0 below) ∙ is))

  pub no-break : Nowhere (Passes (is_byte2 10 13) (take place text)) 0 (length (take place text))
      → 0 ≡ end_place (break_ends is_break (chars text)) (ends_up_to place (break_ends is_break (chars text))) (length text)
  no-break none =
      let size = length-take-le place text within in
      let all = none-between (crlf_line_weights text) 0 place (omega (arith, long, within)) (λ k low high. bare-at k (omega (arith, high)) (none k low (omega (arith, size, high)))) in
      let same = ap (λ n. sum (take n (crlf_line_weights text))) (let e : 0 + place ≡ place = omega arith in e) in
      let nothing : sum (take 0 (crlf_line_weights text)) ≡ 0 = refl in
      let count : ends_up_to place (break_ends is_break (chars text)) ≡ 0 = omega (arith, up-to, all, same, nothing) in
      sym (ap (λ n. end_place (break_ends is_break (chars text)) n (length text)) count)

  pub behind-break : (last : ℕ) → NoneAfter (Passes (is_byte2 10 13) (take place text)) 0 (length (take place text)) last → Passes (is_byte2 10 13) (take place text) last
      → ((get_or text last 0 == 13) && starts_with_lf (drop (last + 1) text)) ≡ false
      → last + 1 ≡ end_place (break_ends is_break (chars text)) (ends_up_to place (break_ends is_break (chars text))) (length text)
  behind-break last none is whole =
      let ws = crlf_line_weights text in
      let size = length-take-le place text within in
      let low : last < place = omega (arith, none.high, size) in
      let there = ended text last (omega (arith, low, within)) ∙ ends-there (get_or text last 0) (starts_with_lf (drop (last + 1) text)) (ap (is_byte2 10 13) (sym (get_or-take place text last 0 low)) ∙ is) whole in
      let more = sum_by_more (λ x. x) ws last 0 (omega (arith, long, low, within)) in
      let rest = none-between ws (last + 1) (place - (last + 1)) (omega (arith, long, low, within)) (λ k from high. bare-at k (omega (arith, high, low)) (none.after k from (omega (arith, size, high, low)))) in
      let all = ap (λ n. sum (take n ws)) (let e : last + 1 + (place - (last + 1)) ≡ place = omega (arith, low) in e) in
      let count = ends_up_to place (break_ends is_break (chars text)) in
      let counted : count ≡ sum (take last ws) + 1 = omega (arith, up-to, all, rest, more, there) in
      let first : IsFirstPast ws (count - 1) last = record { within = omega (arith, long, low, within); before = omega (arith, counted); passed = λ _. omega (arith, counted, more, there) } in
      let end = (last_bytes-line crlf_line_weights _ crlf_lines_at_last_bytes text text count last utf8 (λ zero. absurd (omega (arith, zero, counted))) refl first).0 in
      omega (arith, end, low, within)
