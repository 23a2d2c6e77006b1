-- Parts of a chunk are parts of the haystack.
use Rattle.std.proofs.Common.{◌≡◌, ℕ, zero, suc, List, [], ◌∷◌, ◌<◌, ◌≤◌, ◌⊎◌, inl, inr, ◌+◌, ◌-◌, length, take, drop, min, refl, ap, sym, ◌∙◌, arith}
use Rattle.std.proofs.lemmas.List.{drop-take, take-take, drop-drop, length-take-le, length-drop, length-take}
use Rattle.rx_input.specs.Inputs.{between}
use Rattle.rx_input.specs.Cursors.{CursorState, IsLawful, piece_of}

part_of : (xs : List ℕ) (start end index n : ℕ) → n ≤ end - start - index → index ≤ end - start → take n (drop index (take (end - start) (drop start xs))) ≡ take n (drop (start + index) xs)
part_of xs start end index n few inside =
    let m : ℕ = end - start - index in
    let e : end - start ≡ index + m = omega (arith, few, inside) in
    ap (λ k. take n (drop index (take k (drop start xs)))) e
    ∙ ap (take n) (drop-take index m (drop start xs) ∙ ap (take m) (drop-drop index start xs))
    ∙ take-take n m (drop (start + index) xs) few

none_or_some : (n : ℕ) → (n ≡ 0) ⊎ (0 < n)
none_or_some n = grind arith

-- bytes of the chunk from the offset on, or from the haystack's end
pub read_part : (c : CursorState) (from index n : ℕ) → IsLawful c → c.start + index ≡ min from (length c.content) → n ≤ c.end - c.start - index → take n (drop index (piece_of c)) ≡ take n (drop from c.content)
read_part c from index n lawful at few = elim (none_or_some n) [
  | inl none ↦ ap (λ k. take k (drop index (piece_of c))) none ∙ sym (ap (λ k. take k (drop from c.content)) none)
  | inr some ↦
      let here : c.start + index ≡ from = omega (arith, at, few, some, lawful.ordered, lawful.within) in
      part_of c.content c.start c.end index n few (omega (arith, few, some)) ∙ ap (λ k. take n (drop k c.content)) here
]

pub part_len : (index n : ℕ) (xs : List ℕ) → take (index + n - index) (drop index xs) ≡ take n (drop index xs)
part_len index n xs = let e : index + n - index ≡ n = omega arith in ap (λ k. take k (drop index xs)) e

pub piece_len : (c : CursorState) → IsLawful c → length (piece_of c) ≡ c.end - c.start
piece_len c lawful = omega (arith, length-take-le (c.end - c.start) (drop c.start c.content) (omega (arith, lawful.within, lawful.ordered, length-drop c.start c.content)))

-- bytes between two offsets
ordered_or : (from to : ℕ) → (from ≤ to) ⊎ (to < from)
ordered_or from to = grind arith

past_none : (xs : List ℕ) (n : ℕ) → length xs ≤ n → drop n xs ≡ []
past_none [] zero few = refl
past_none [] (suc n) few = refl
past_none (x ∷ xs) zero few = absurd (omega (arith, few))
past_none (x ∷ xs) (suc n) few = past_none xs n (omega (arith, few))

pub between_is : (from to : ℕ) (xs : List ℕ) → take (to - from) (drop from xs) ≡ between from to xs
between_is from to xs = elim (ordered_or from to) [
  | inl forward ↦ let e : to ≡ from + (to - from) = omega (arith, forward) in sym (ap (λ k. drop from (take k xs)) e ∙ drop-take from (to - from) xs)
  | inr back ↦
      let none : to - from ≡ 0 = omega (arith, back) in
      ap (λ k. take k (drop from xs)) none ∙ sym (past_none (take to xs) from (omega (arith, back, length-take to xs)))
]
