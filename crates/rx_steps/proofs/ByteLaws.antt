-- The byte at an offset, in a haystack and in the current chunk.
use Rattle.std.proofs.Common.{◌≡◌, ℕ, zero, suc, ◌+◌, ◌-◌, ◌<◌, ◌≤◌, ◌⊎◌, List, [], ◌∷◌, length, take, drop, min, true, ◌&&◌, None, slice_get, refl, sym, ap, ap₂, ◌∙◌, arith, inl, inr}
use Rattle.rx_input.specs.Cursors.{CursorState, piece_of}
use Rattle.rx_input.specs.Inputs.{HoldsPlace}
use Rattle.std.proofs.lemmas.Bool.{le-leb}
use Rattle.rx_walks.specs.Programs.{is_within}

byte_before : (xs : List ℕ) (n i : ℕ) → i < n → slice_get (drop i (take n xs)) 0 ≡ slice_get xs i
byte_before [] zero i lt = absurd (omega (arith, lt))
byte_before [] (suc n) zero lt = refl
byte_before [] (suc n) (suc i) lt = refl
byte_before (x ∷ xs) zero i lt = absurd (omega (arith, lt))
byte_before (x ∷ xs) (suc n) zero lt = refl
byte_before (x ∷ xs) (suc n) (suc i) lt = byte_before xs n i (omega (arith, lt))

pub no_byte : (xs : List ℕ) (n i : ℕ) → n ≤ i → slice_get (drop i (take n xs)) 0 ≡ None
no_byte [] zero zero le = refl
no_byte [] zero (suc i) le = refl
no_byte [] (suc n) zero le = refl
no_byte [] (suc n) (suc i) le = refl
no_byte (x ∷ xs) zero zero le = refl
no_byte (x ∷ xs) zero (suc i) le = refl
no_byte (x ∷ xs) (suc n) zero le = absurd (omega (arith, le))
no_byte (x ∷ xs) (suc n) (suc i) le = no_byte xs n i (omega (arith, le))

nothing_past : (xs : List ℕ) (i : ℕ) → length xs ≤ i → slice_get xs i ≡ None
nothing_past [] i le = refl
nothing_past (x ∷ xs) zero le = absurd (omega (arith, le))
nothing_past (x ∷ xs) (suc i) le = nothing_past xs i (omega (arith, le))

in_front : (xs : List ℕ) (m k : ℕ) → k < m → slice_get (take m xs) k ≡ slice_get xs k
in_front [] zero k lt = absurd (omega (arith, lt))
in_front [] (suc m) k lt = refl
in_front (x ∷ xs) zero k lt = absurd (omega (arith, lt))
in_front (x ∷ xs) (suc m) zero lt = refl
in_front (x ∷ xs) (suc m) (suc k) lt = in_front xs m k (omega (arith, lt))

no_further : (xs : List ℕ) (m k : ℕ) → m ≤ k → slice_get (take m xs) k ≡ None
no_further [] zero k le = refl
no_further [] (suc m) k le = refl
no_further (x ∷ xs) zero k le = refl
no_further (x ∷ xs) (suc m) zero le = absurd (omega (arith, le))
no_further (x ∷ xs) (suc m) (suc k) le = no_further xs m k (omega (arith, le))

behind : (xs : List ℕ) (s k : ℕ) → slice_get (drop s xs) k ≡ slice_get xs (s + k)
behind xs zero k = ap (λ j. slice_get xs j) (omega arith)
behind [] (suc s) k = refl
behind (x ∷ xs) (suc s) k =
    let more : suc (s + k) ≡ suc s + k = omega arith in
    behind xs s k ∙ ap (λ j. slice_get (x ∷ xs) j) more

pub below_or_not : (k n : ℕ) → (k < n) ⊎ (n ≤ k)
below_or_not k zero = inr (omega arith)
below_or_not zero (suc n) = inl (omega arith)
below_or_not (suc k) (suc n) = elim (below_or_not k n) [ inl lt ↦ inl (omega (arith, lt)) | inr le ↦ inr (omega (arith, le)) ]

pub piece_byte : (c : CursorState) (i k : ℕ) → HoldsPlace c i → c.start + k ≡ i → slice_get (piece_of c) k ≡ slice_get c.content i
piece_byte c i k holds e = elim (below_or_not k (c.end - c.start)) [
  | inl lt ↦ in_front (drop c.start c.content) (c.end - c.start) k lt ∙ behind c.content c.start k ∙ ap (λ j. slice_get c.content j) e
  | inr past ↦ let at : i ≡ c.end = omega (arith, past, e, holds.before_end, holds.behind_start, holds.lawful.ordered) in
      no_further (drop c.start c.content) (c.end - c.start) k past ∙ sym (nothing_past c.content i (omega (arith, at, holds.at_end at)))
]

-- the next byte, below the offset at which reading stops
pub next_byte_is : (content : List ℕ) (n i : ℕ) → i < n → slice_get (drop i (take (min n (length content)) content)) 0 ≡ slice_get content i
next_byte_is content n i lt = elim (below_or_not i (length content)) [
  | inl inside ↦ byte_before content (min n (length content)) i (omega (arith, lt, inside))
  | inr out ↦ no_byte content (min n (length content)) i (omega (arith, out)) ∙ sym (nothing_past content i out)
]

-- an offset between both is one that walks can reach
pub within_is : (low high i : ℕ) → low ≤ i → i ≤ high → is_within low high i ≡ true
within_is low high i above below = ap₂ (λ a b. a && b) (le-leb low i above) (le-leb i high below)
