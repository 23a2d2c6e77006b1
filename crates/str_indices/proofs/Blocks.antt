-- The numbers of one character's bytes: all but one are 0. And the sums of a list that begins with such a block.
use Rattle.std.proofs.Common.{◌≡◌, ℕ, zero, suc, ◌+◌, ◌-◌, ◌<◌, ◌≤◌, List, [], ◌∷◌, ◌++◌, length, take, replicate, sum, refl, ap, sym, ◌∙◌, arith, length-append}
use Rattle.std.proofs.lemmas.Bool.{cases_lt}
use Rattle.std.proofs.Common.{inl, inr}
use Rattle.str_indices.specs.Bytes.{IsFirstPast}
use Rattle.std.proofs.Math.Seq.{take-append-add}
use Rattle.std.proofs.lemmas.List.{length-replicate, take-append-le, take-replicate}
use Rattle.std.proofs.lemmas.List.Sums.{sum_by-cons, sum_by-append, sum_by_push, sum_by-take-le}
use Rattle.str_indices.specs.FirstAndLastBytes.{first_block, last_block}

pub length-first_block : (n w : ℕ) → 1 ≤ n → length (first_block n w) ≡ n
length-first_block n w h = omega (arith, length-replicate {A = ℕ} (n - 1) 0)

pub length-last_block : (n w : ℕ) → 1 ≤ n → length (last_block n w) ≡ n
length-last_block n w h = omega (arith, length-append (replicate (n - 1) 0) (w ∷ []), length-replicate {A = ℕ} (n - 1) 0)

pub sum-zeros : (n : ℕ) → sum (replicate n 0) ≡ 0
sum-zeros zero = refl
sum-zeros (suc n) = sum_by-cons (λ x. x) 0 (replicate n 0) ∙ omega (arith, sum-zeros n)

pub sum-first_block : (n w : ℕ) → sum (first_block n w) ≡ w
sum-first_block n w = sum_by-cons (λ x. x) w (replicate (n - 1) 0) ∙ omega (arith, sum-zeros (n - 1))

pub sum-last_block : (n w : ℕ) → sum (last_block n w) ≡ w
sum-last_block n w = sum_by_push (λ x. x) (replicate (n - 1) 0) w ∙ omega (arith, sum-zeros (n - 1))

-- the first bytes, at least one of them and not all
pub sum-take-first_block : (n w i : ℕ) → 1 ≤ i → i ≤ n → sum (take i (first_block n w)) ≡ w
sum-take-first_block n w zero low high = absurd (omega arith)
sum-take-first_block n w (suc i) low high =
    let fits : i ≤ n - 1 = omega arith in
    rw (take-replicate {X = ℕ} i (n - 1) 0 fits) (sum_by-cons (λ x. x) w (replicate i 0) ∙ omega (arith, sum-zeros i))

pub sum-take-last_block : (n w i : ℕ) → i < n → sum (take i (last_block n w)) ≡ 0
sum-take-last_block n w i high =
    let fits : i ≤ n - 1 = omega arith in
    let inside : i ≤ length (replicate (n - 1) 0) = omega (arith, length-replicate {A = ℕ} (n - 1) 0) in
    ap sum (take-append-le i (replicate (n - 1) 0) (w ∷ []) inside)
    ∙ ap sum (take-replicate i (n - 1) 0 fits)
    ∙ sum-zeros i

-- a list that begins with a block: the sum within the block, and past it
pub sum-take_within : (block rest : List ℕ) (i : ℕ) → i ≤ length block → sum (take i (block ++ rest)) ≡ sum (take i block)
sum-take_within block rest i h = ap sum (take-append-le i block rest h)

pub sum-take_past : (block rest : List ℕ) (i n : ℕ) → length block ≡ n → sum (take (n + i) (block ++ rest)) ≡ sum block + sum (take i rest)
sum-take_past block rest i n e =
    ap (λ k. sum (take (k + i) (block ++ rest))) (sym e)
    ∙ ap sum (take-append-add block rest i)
    ∙ sum_by-append (λ x. x) block (take i rest)

-- ---- the first byte with which the numbers add up to more than k, in a list that begins with a block
-- it lies past the block if the block's sum isn't more than k
pub first_past-enters : (block rest : List ℕ) (k r : ℕ) → sum block ≤ k → IsFirstPast (block ++ rest) k r → length block ≤ r
first_past-enters block rest k r low found =
    elim (cases_lt r (length block)) as (λ _. length block ≤ r) [
      | inl inside ↦
          let there : r < length (block ++ rest) = omega (arith, length-append block rest) in
          let past : k < sum (take (r + 1) (block ++ rest)) = found.passed there in
          absurd (omega (arith, past, sum-take_within block rest (r + 1) (omega arith), sum_by-take-le (λ x. x) block (r + 1)))
      | inr past ↦ past
    ]

-- and there it is the first one of the rest for what is left of k
pub first_past-rest : (block rest : List ℕ) (k i n : ℕ) → length block ≡ n → sum block ≤ k → IsFirstPast (block ++ rest) k (n + i) → IsFirstPast rest (k - sum block) i
first_past-rest block rest k i n long low found = record {
  within = omega (arith, found.within, length-append block rest);
  before = omega (arith, found.before, sum-take_past block rest i n long);
  passed = λ h.
      let there : n + i < length (block ++ rest) = omega (arith, length-append block rest) in
      let past : k < sum (take (n + i + 1) (block ++ rest)) = found.passed there in
      let same : sum (take (n + i + 1) (block ++ rest)) ≡ sum (take (n + (i + 1)) (block ++ rest)) = ap (λ m. sum (take m (block ++ rest))) (omega arith) in
      omega (arith, past, same, sum-take_past block rest (i + 1) n long);
}

-- else it is the byte that counts: no sum up to a byte past it stays below
pub first_past-at_first : (n w k r : ℕ) (rest : List ℕ) → 1 ≤ n → k < w → IsFirstPast (first_block n w ++ rest) k r → r ≡ 0
first_past-at_first n w k zero rest some low found = refl
first_past-at_first n w k (suc r) rest some low found =
    elim (cases_lt n (suc r)) as (λ _. suc r ≡ 0) [
      | inl past ↦
          let e : suc r ≡ n + (suc r - n) = omega arith in
          let all : sum (take (suc r) (first_block n w ++ rest)) ≡ sum (take (n + (suc r - n)) (first_block n w ++ rest)) = ap (λ m. sum (take m (first_block n w ++ rest))) e in
          absurd (omega (arith, found.before, all, sum-take_past (first_block n w) rest (suc r - n) n (length-first_block n w some), sum-first_block n w))
      | inr inside ↦
          absurd (omega (arith, found.before, sum-take_within (first_block n w) rest (suc r) (omega (arith, length-first_block n w some)), sum-take-first_block n w (suc r) (omega arith) inside))
    ]

pub first_past-at_last : (n w k r : ℕ) (rest : List ℕ) → 1 ≤ n → k < w → IsFirstPast (last_block n w ++ rest) k r → r + 1 ≡ n
first_past-at_last n w k r rest some low found =
    elim (cases_lt (r + 1) n) as (λ _. r + 1 ≡ n) [
      | inl before ↦
          let there : r < length (last_block n w ++ rest) = omega (arith, length-append (last_block n w) rest, length-last_block n w some) in
          let past : k < sum (take (r + 1) (last_block n w ++ rest)) = found.passed there in
          absurd (omega (arith, past, sum-take_within (last_block n w) rest (r + 1) (omega (arith, length-last_block n w some)), sum-take-last_block n w (r + 1) before))
      | inr after ↦
          elim (cases_lt n (r + 1)) as (λ _. r + 1 ≡ n) [
            | inl past ↦
                let e : r ≡ n + (r - n) = omega arith in
                let all : sum (take r (last_block n w ++ rest)) ≡ sum (take (n + (r - n)) (last_block n w ++ rest)) = ap (λ m. sum (take m (last_block n w ++ rest))) e in
                absurd (omega (arith, found.before, all, sum-take_past (last_block n w) rest (r - n) n (length-last_block n w some), sum-last_block n w))
            | inr within ↦ omega arith
          ]
    ]
