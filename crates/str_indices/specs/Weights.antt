-- The weights of a text's bytes: one for each byte, each at most 2.
use Rattle.std.proofs.Common.{◌≡◌, ℕ, zero, suc, ◌+◌, ◌*◌, ◌≤◌, Bool, List, [], ◌∷◌, length, map, take, sum, get_or, cond, refl, ap, arith}
use Rattle.std.proofs.lemmas.List.Sums.{sum_by-cons}
use Rattle.std.proofs.lemmas.Bool.{cond_both}
use Rattle.std.proofs.lemmas.List.{length-map}
use Rattle.str_indices.specs.Bytes.{is_lead, is_lead_of_four, pair_weights, unit_weights, char_weights, tested_weights}

pub map_len : (f : ℕ → ℕ) (bytes : List ℕ) → length (map f bytes) ≡ length bytes
map_len f bytes = length-map bytes f

map_small : (f : ℕ → ℕ) (m : ℕ) → ((b : ℕ) → f b ≤ m) → (bytes : List ℕ) (at : ℕ) → get_or (map f bytes) at 0 ≤ m
map_small f m h [] at = omega arith
map_small f m h (b ∷ bs) zero = h b
map_small f m h (b ∷ bs) (suc at) = map_small f m h bs at

bit_small : (t : Bool) → cond t 1 0 ≤ 1
bit_small t = cond_both t 1 0 (λ n. n ≤ 1) (λ _. omega arith) (λ _. omega arith)

pub lead_small : (bytes : List ℕ) (at : ℕ) → get_or (char_weights bytes) at 0 ≤ 2
lead_small = map_small (λ b. cond (is_lead b) 1 0) 2 (λ b. omega (arith, bit_small (is_lead b)))

pub pair_small : (bytes : List ℕ) (at : ℕ) → get_or (pair_weights bytes) at 0 ≤ 2
pair_small = map_small (λ b. cond (is_lead_of_four b) 1 0) 2 (λ b. omega (arith, bit_small (is_lead_of_four b)))

pub unit_small : (bytes : List ℕ) (at : ℕ) → get_or (unit_weights bytes) at 0 ≤ 2
unit_small = map_small (λ b. cond (is_lead b) 1 0 + cond (is_lead_of_four b) 1 0) 2 (λ b. omega (arith, bit_small (is_lead b), bit_small (is_lead_of_four b)))

pub tested_len : (test : ℕ → ℕ → ℕ → List ℕ → Bool) (b2 b1 : ℕ) (bytes : List ℕ) → length (tested_weights test b2 b1 bytes) ≡ length bytes
tested_len test b2 b1 [] = refl
tested_len test b2 b1 (b ∷ bs) = ap suc (tested_len test b1 b bs)

pub tested_small : (test : ℕ → ℕ → ℕ → List ℕ → Bool) (b2 b1 : ℕ) (bytes : List ℕ) (at : ℕ) → get_or (tested_weights test b2 b1 bytes) at 0 ≤ 2
tested_small test b2 b1 [] at = omega arith
tested_small test b2 b1 (b ∷ bs) zero = omega (arith, bit_small (test b2 b1 b bs))
tested_small test b2 b1 (b ∷ bs) (suc at) = tested_small test b1 b bs at

-- sums of weights of at most 2
sum_small : (ws : List ℕ) → ((at : ℕ) → get_or ws at 0 ≤ 2) → (n : ℕ) → sum (take n ws) ≤ 2 * n
sum_small ws h zero = omega arith
sum_small [] h (suc n) = omega arith
sum_small (w ∷ ws) h (suc n) = omega (arith, sum_by-cons (λ x. x) w (take n ws), h 0, sum_small ws (λ at. h (suc at)) n)

pub lead_sum : (bytes : List ℕ) (n : ℕ) → sum (take n (char_weights bytes)) ≤ 2 * n
lead_sum bytes = sum_small (char_weights bytes) (lead_small bytes)

pub pair_sum : (bytes : List ℕ) (n : ℕ) → sum (take n (pair_weights bytes)) ≤ 2 * n
pair_sum bytes = sum_small (pair_weights bytes) (pair_small bytes)

pub unit_sum : (bytes : List ℕ) (n : ℕ) → sum (take n (unit_weights bytes)) ≤ 2 * n
unit_sum bytes = sum_small (unit_weights bytes) (unit_small bytes)

pub tested_sum : (test : ℕ → ℕ → ℕ → List ℕ → Bool) (bytes : List ℕ) (n : ℕ) → sum (take n (tested_weights test 0 0 bytes)) ≤ 2 * n
tested_sum test bytes = sum_small (tested_weights test 0 0 bytes) (tested_small test 0 0 bytes)
