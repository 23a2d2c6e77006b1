-- What an input sees around an offset, and the bytes of the slice there.
use Rattle.std.proofs.Common.{◌≡◌, ℕ, ◌+◌, ◌-◌, ◌≤◌, Bool, List, length, take, drop, reverse, min, max, refl, sym, ap, ap₂, ◌∙◌, arith, inl, inr}
use Rattle.std.proofs.lemmas.List.{drop-take, drop-drop, take-take, length-take, length-drop, reverse-reverse}
use Rattle.rx_util.specs.declared.search.Span.{Span}
use Rattle.rx_input.specs.Inputs.{Seen, seen_from, seen_bytes}
use Rattle.rx_walks.specs.Looks.{Look, holds_between}
use Rattle.rx_walks.specs.Laws.{FourBytesTell}
use Rattle.rx_steps.proofs.SideLaws.{take_all, less_or_more, back_is}

-- the last four bytes before the offset, in reverse order
pub four_before : (content : List ℕ) (low i : ℕ) → low ≤ i → i ≤ length content → take 4 (reverse (drop low (take i content))) ≡ reverse (drop (max low (i - 4)) (take i content))
four_before content low i above within =
    let ys = drop low (take i content) in
    let m = min 4 (length ys) in
    let len : length ys ≡ i - low = omega (arith, length-drop low (take i content), length-take i content, within) in
    let whole : take (length ys - (length ys - m)) (drop (length ys - m) ys) ≡ drop (length ys - m) ys =
    take_all (length ys - (length ys - m)) (drop (length ys - m) ys) (omega (arith, length-drop (length ys - m) ys)) in
    let from : low + (length ys - m) ≡ max low (i - 4) = omega (arith, len, above) in
    let far : drop (length ys - m) ys ≡ drop (max low (i - 4)) (take i content) = drop-drop (length ys - m) low (take i content) ∙ ap (λ j. drop j (take i content)) from in
    sym (reverse-reverse (take 4 (reverse ys))) ∙ ap (λ zs. reverse zs) (sym (back_is ys 4 m refl) ∙ whole ∙ far)

seen_len : (content : List ℕ) (low high i : ℕ) → i ≤ high → i ≤ length content → min (i - max low (i - 4)) (length (drop (max low (i - 4)) (take (min high (i + 4)) content))) ≡ i - max low (i - 4)
seen_len content low high i before within =
    let from = max low (i - 4) in
    let to = min high (i + 4) in
    omega (arith, before, within, length-drop from (take to content), length-take to content)

-- the bytes that are seen before the offset
pub seen_before : (content : List ℕ) (low high i : ℕ) → low ≤ i → i ≤ high → i ≤ length content
    → take (min (i - max low (i - 4)) (length (drop (max low (i - 4)) (take (min high (i + 4)) content)))) (drop (max low (i - 4)) (take (min high (i + 4)) content)) ≡ drop (max low (i - 4)) (take i content)
seen_before content low high i above before within =
    let from = max low (i - 4) in
    let to = min high (i + 4) in
    let k = i - from in
    let up : from + k ≡ i = omega (arith, above) in
    ap (λ n. take n (drop from (take to content))) (seen_len content low high i before within)
    ∙ sym (drop-take from k (take to content))
    ∙ ap (λ n. drop from (take n (take to content))) up
    ∙ ap (λ xs. drop from xs) (take-take i to content (omega (arith, before)))

-- and those after it
pub seen_after : (content : List ℕ) (low high i : ℕ) → low ≤ i → i ≤ high → i ≤ length content
    → drop (min (i - max low (i - 4)) (length (drop (max low (i - 4)) (take (min high (i + 4)) content)))) (drop (max low (i - 4)) (take (min high (i + 4)) content)) ≡ take 4 (drop i (take high content))
seen_after content low high i above before within =
    let from = max low (i - 4) in
    let to = min high (i + 4) in
    let k = i - from in
    let up : from + k ≡ i = omega (arith, above) in
    let behind : drop k (drop from (take to content)) ≡ drop i (take to content) = drop-drop k from (take to content) ∙ ap (λ n. drop n (take to content)) up in
    let four : drop i (take to content) ≡ take 4 (drop i (take high content)) = elim (less_or_more high (i + 4)) [
      | inl le ↦ let all : to ≡ high = omega (arith, le) in
          let few : length (drop i (take high content)) ≤ 4 = omega (arith, le, length-drop i (take high content), length-take high content) in
          ap (λ n. drop i (take n content)) all ∙ sym (take_all 4 (drop i (take high content)) few)
      | inr le ↦ let near : to ≡ i + 4 = omega (arith, le) in
          ap (λ n. drop i (take n content)) near ∙ ap (λ xs. drop i xs) (sym (take-take (i + 4) high content le)) ∙ drop-take i 4 (take high content)
    ] in
    ap (λ n. drop n (drop from (take to content))) (seen_len content low high i before within) ∙ behind ∙ four

-- therefore what is seen decides whether an assertion holds in the slice
pub seen_tells : FourBytesTell → (is_word : ℕ → Bool) (terminator : ℕ) (l : Look) (content : List ℕ) (slice : Span) (i : ℕ) (seen : Seen) (front back : List ℕ) (told : Bool) → slice.start ≤ i → i ≤ slice.end → i ≤ length content
    → seen ≡ record { bytes = seen_bytes slice i content; position = min (i - seen_from slice i) (length (seen_bytes slice i content)) }
    → front ≡ take seen.position seen.bytes → back ≡ drop seen.position seen.bytes → told ≡ holds_between is_word terminator l (reverse front) back
    → holds_between is_word terminator l (reverse (drop slice.start (take i content))) (drop i (take slice.end content)) ≡ told
seen_tells law is_word terminator l content slice i seen front back told above before within e front_is back_is told_is =
    let near : front ≡ drop (max slice.start (i - 4)) (take i content) =
    front_is ∙ ap (λ (s : Seen). take s.position s.bytes) e ∙ seen_before content slice.start slice.end i above before within in
    let behind : back ≡ take 4 (drop i (take slice.end content)) = back_is ∙ ap (λ (s : Seen). drop s.position s.bytes) e ∙ seen_after content slice.start slice.end i above before within in
    sym (law is_word terminator l (reverse (drop slice.start (take i content))) (drop i (take slice.end content)))
    ∙ ap₂ (λ xs ys. holds_between is_word terminator l xs ys) (four_before content slice.start i above within ∙ ap (λ xs. reverse xs) (sym near)) (sym behind)
    ∙ sym told_is
