-- What is seen around an offset.
use Rattle.std.proofs.Common.{◌≡◌, ℕ, List, ◌++◌, ◌≤◌, ◌+◌, ◌-◌, length, take, drop, min, max, ap, sym, ◌∙◌, arith}
use Rattle.std.proofs.lemmas.List.{length-take-le, take-append-le}
use Rattle.rx_util.specs.declared.search.Span.{Span}
use Rattle.rx_input.specs.Inputs.{Seen, between, seen_from, seen_bytes}
use Rattle.rx_input.proofs.PieceLemmas.{between_is}

few_bytes : (start end at from to room : ℕ) → from ≡ max start (at - 4) → to ≡ min end (at + 4) → room ≡ to - from → room ≤ 8
few_bytes start end at from to room from_is to_is room_is = omega (arith, from_is, to_is, room_is)

same_seen : (seen : Seen) (bytes : List ℕ) (position : ℕ) → seen.bytes ≡ bytes → seen.position ≡ position → seen ≡ record { bytes = bytes; position = position }
same_seen seen bytes position e f =
    let one : seen ≡ (record { bytes = bytes; position = seen.position }) = ap (λ (xs : List ℕ). record { bytes = xs; position = seen.position }) e in
    one ∙ ap (λ (n : ℕ). record { bytes = bytes; position = n }) f

pub seen_is : (slice : Span) (at from to room len : ℕ) (content buf zeros : List ℕ) (seen : Seen) → from ≡ max slice.start (at - 4) → to ≡ min slice.end (at + 4) → room ≡ to - from → length zeros ≡ 8
    → seen.bytes ≡ take len (buf ++ drop room zeros) → take len buf ≡ take (length (take room zeros)) (drop from content) → len ≤ length buf → seen.position ≡ min (at - from) len
    → seen ≡ record { bytes = seen_bytes slice at content; position = min (at - seen_from slice at) (length (seen_bytes slice at content)) }
seen_is slice at from to room len content buf zeros seen from_is to_is room_is eight bytes_are read few position_is =
    let n : length (take room zeros) ≡ to - from = length-take-le room zeros (omega (arith, few_bytes slice.start slice.end at from to room from_is to_is room_is, eight)) ∙ room_is in
    let front : take len buf ≡ seen_bytes slice at content =
    read ∙ ap (λ k. take k (drop from content)) n ∙ between_is from to content ∙ ap (λ k. between k to content) from_is ∙ ap (λ k. between (seen_from slice at) k content) to_is in
    let count : len ≡ length (seen_bytes slice at content) = sym (length-take-le len buf few) ∙ ap length front in
    same_seen seen (seen_bytes slice at content) (min (at - seen_from slice at) (length (seen_bytes slice at content)))
    (bytes_are ∙ take-append-le len buf (drop room zeros) few ∙ front)
    (position_is ∙ ap (λ k. min (at - k) len) from_is ∙ ap (min (at - seen_from slice at)) count)
