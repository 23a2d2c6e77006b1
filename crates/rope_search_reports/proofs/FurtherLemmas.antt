-- Where later lines start.
use Rattle.std.proofs.Common.{◌≡◌, ℕ, zero, suc, ◌+◌, ◌-◌, ◌<◌, ◌≤◌, cond, inl, inr, List, [], ◌++◌, length, refl, ap, ◌∙◌, arith, length-drop}
use Rattle.std.proofs.lemmas.Bool.{cases_lt}
use Rattle.str_indices.specs.Text.{breaks, break_ends, byte_len, end_place, ends_up_to}
use Rattle.str_indices.proofs.TextLaws.{breaks_of_joined_texts-lines_crlf, ends_and_places_agree-lines, ends_behind_a_boundary-lines, from_byte_idx_is_monotone-lines, places_of_a_part-lines}
use Rattle.ropey.specs.Chunks.{is_break}
use Rattle.rope_search_reports.specs.Report.{line_texts}
use Rattle.rope_search_reports.specs.Position.{line_at, line_start}
use Rattle.rope_search_reports.specs.Drafts.{StartsLine}
use Rattle.rope_search_reports.proofs.KeptLemmas.{all-ended, behind-it}
use Rattle.rope_search_reports.proofs.LineLemmas.{lines-counted}

-- a line after an offset starts as far from it as it does in the text after the offset
line-behind : (before behind : List ℕ) (k : ℕ) → 0 < k → k ≤ breaks is_break behind
    → line_start (before ++ behind) (line_at (before ++ behind) (byte_len before) + k) ≡ byte_len before + line_start behind k
line-behind before behind k some few =
    let text = before ++ behind in
    let b = byte_len before in
    let n = line_at text b + k in
    let x = line_start text n in
    let y = line_start behind k in
    let inside : n ≤ length (break_ends is_break text) = omega (arith, behind-it before behind, all-ended behind, few) in
    let counts : (p : ℕ) → b ≤ p → line_at text p ≡ line_at text b + ends_up_to (p - b) (break_ends is_break behind) = λ p from. ends_behind_a_boundary-lines is_break before behind p from in
    let there = (ends_and_places_agree-lines is_break behind k y few).0 (omega arith) in
    let same = ap (λ q. ends_up_to q (break_ends is_break behind)) (let e : b + y - b ≡ y = omega arith in e) in
    let high : x ≤ b + y = (ends_and_places_agree-lines is_break text n (b + y) inside).1 (omega (arith, counts (b + y) (omega arith), same, there)) in
    let own : n ≤ line_at text x = (ends_and_places_agree-lines is_break text n x inside).0 (omega arith) in
    elim (cases_lt x b) [
      | inl low ↦ absurd (omega (arith, own, some, from_byte_idx_is_monotone-lines is_break text x b (omega (arith, low))))
      | inr past ↦
          let low : y ≤ x - b = (ends_and_places_agree-lines is_break behind k (x - b) few).1 (omega (arith, own, counts x (omega (arith, past)))) in
          omega (arith, high, low, past)
    ]

-- if breaks end in the rest of a chunk from a line on, a line starts after the last of them
start-further : (text : List ℕ) (line byte : ℕ) (own : List ℕ) (count : ℕ) → StartsLine text line byte own → 0 < count → count ≤ breaks is_break own
    → line_start text (line + count) ≡ byte + end_place (break_ends is_break own) count (byte_len own)
start-further text line byte own count w some few =
    let behind = w.behind in
    let shown = w.shown in
    let all = w.before ++ behind in
    let line_is : line ≡ line_at all (byte_len w.before) =
    omega (arith, ap length w.lines, length-drop line (line_texts text), lines-counted text, lines-counted behind, behind-it w.before behind, ap (breaks is_break) w.parts, all-ended behind) in
    let nothing : breaks is_break [] ≡ 0 = refl in
    let part = places_of_a_part-lines is_break [] own shown.after count refl shown.whole (omega (arith, some, nothing)) (inl few) in
    let left : count - breaks is_break [] ≡ count = omega (arith, nothing) in
    let first = ap (λ n. end_place (break_ends is_break own) n (byte_len own)) left in
    let empty : byte_len [] ≡ 0 = refl in
    let here = ap (λ t. line_start t count) shown.parts in
    let uncut : cond {A = ℕ} _ 1 0 ≡ 0 = ap (λ b. cond {A = ℕ} b 1 0) shown.whole in
    let fewer : count ≤ breaks is_break behind = omega (arith, few, breaks_of_joined_texts-lines_crlf own shown.after, uncut, ap (breaks is_break) shown.parts) in
    let further = line-behind w.before behind count some fewer in
    let start = ap (λ t. line_start t (line + count)) w.parts ∙ ap (λ n. line_start all (n + count)) line_is in
    let byte_is = w.place in
    omega (arith, start, further, here, part, first, empty, byte_is)

pub there-further : (text : List ℕ) (line byte : ℕ) (own : List ℕ) (count place : ℕ) → StartsLine text line byte own → count ≤ breaks is_break own
    → place ≡ end_place (break_ends is_break own) count (byte_len own) → byte + place ≡ line_start text (line + count)
there-further text line byte own zero place w few is =
    let there = w.there in
    let same = ap (line_start text) (let e : line + zero ≡ line = omega arith in e) in
    omega (arith, there, is, same)
there-further text line byte own (suc k) place w few is = omega (arith, is, start-further text line byte own (suc k) w (omega arith) few)
