-- The part of a haystack that is in a chunk and in a span.
use Rattle.std.proofs.Common.{◌≡◌, ℕ, ◌+◌, ◌-◌, ◌≤◌, List, [], take, drop, length, min, sym, ap, ap₂, ◌∙◌, arith, inl, inr}
use Rattle.std.proofs.lemmas.Bool.{cases_lt}
use Rattle.std.proofs.lemmas.List.{take-take, drop-take, drop_all, length-take, length-drop, length-take-le}
use Rattle.std.proofs.Common.{drop-drop}
use Rattle.rx_input.specs.Inputs.{between}

-- the bytes between two offsets, as a part of a chunk
pub between_is : (content : List ℕ) (start end from to : ℕ) → start + to ≤ end → from ≤ to
    → take (to - from) (drop from (take (end - start) (drop start content))) ≡ between (start + from) (start + to) content
between_is content start end from to inside ordered =
    let all : from + (to - from) ≡ to = omega (arith, ordered) in
    sym (drop-take from (to - from) (take (end - start) (drop start content)))
    ∙ ap (λ n. drop from (take n (take (end - start) (drop start content)))) all
    ∙ ap (drop from) (take-take to (end - start) (drop start content) (omega (arith, inside)) ∙ sym (drop-take start to content))
    ∙ drop-drop from start (take (start + to) content)

none_between : (content : List ℕ) (from to : ℕ) → to ≤ from → between from to content ≡ []
none_between content from to done = drop_all from (take to content) (omega (arith, length-take to content, done))

pub length_between : (content : List ℕ) (from to : ℕ) → to ≤ length content → length (between from to content) ≡ to - from
length_between content from to inside = length-drop from (take to content) ∙ ap (λ n. n - from) (length-take-le to content inside)

-- of a chunk from `start` to `end` the part in a span up to `stop`, from the position on: `pos` is
-- its index in the chunk, `to` that of the span's end
pub left_is : (content : List ℕ) (start end stop position pos to from : ℕ) → start ≤ end → end ≤ length content
    → start + pos ≡ position → position ≤ end
    → to ≡ min (stop - start) (length (take (end - start) (drop start content))) → from ≡ min pos to
    → take (to - from) (drop from (take (end - start) (drop start content))) ≡ between position (min stop end) content
left_is content start end stop position pos to from ordered inside at before to_is from_is =
    let long : length (take (end - start) (drop start content)) ≡ end - start = length-take-le (end - start) (drop start content) (omega (arith, length-drop start content, inside, ordered)) in
    let to_at : to ≡ min (stop - start) (end - start) = to_is ∙ ap (λ n. min (stop - start) n) long in
    let here = between_is content start end from to (omega (arith, to_at, ordered)) (omega (arith, from_is)) in
    elim (cases_lt pos to) [
      | inl below ↦ (
          let same : start + from ≡ position = omega (arith, from_is, below, at) in
          let same_end : start + to ≡ min stop end = omega (arith, to_at, below, ordered) in
          here ∙ ap₂ (λ a b. between a b content) same same_end)
      | inr above ↦ (
          let nothing : start + to ≤ start + from = omega (arith, from_is, above) in
          let over : min stop end ≤ position = omega (arith, to_at, above, at, before) in
          here ∙ none_between content (start + from) (start + to) nothing ∙ sym (none_between content position (min stop end) over))
    ]
