-- The number of a byte that is tested with the two bytes before it and what follows it.
use Rattle.std.proofs.Common.{◌≡◌, ℕ, zero, suc, ◌+◌, ◌-◌, ◌<◌, ◌≤◌, Bool, true, false, List, [], ◌∷◌, length, drop, get_or, cond, refl, ap, ◌∙◌, arith}
use Rattle.std.specs.Prelude.{◌==◌, ◌&&◌, ◌||◌}
use Rattle.std.proofs.lemmas.Bool.Decides.{nat_tests}
use Rattle.str_indices.specs.Text.{starts_with_lf}
use Rattle.str_indices.specs.Bytes.{tested_weights, ends_ascii_line, ends_two_byte_line, ends_three_byte_line, ends_line}

-- a byte's number is that of the test, with the two bytes before it
pub tested-at : (test : ℕ → ℕ → ℕ → List ℕ → Bool) (b2 b1 : ℕ) (bytes : List ℕ) (at : ℕ) → at < length bytes
    → get_or (tested_weights test b2 b1 bytes) at 0 ≡ cond (test (get_or (b2 ∷ b1 ∷ bytes) at 0) (get_or (b1 ∷ bytes) at 0) (get_or bytes at 0) (drop (at + 1) bytes)) 1 0
tested-at test b2 b1 [] at h = absurd (omega arith)
tested-at test b2 b1 (b ∷ bs) zero h = refl
tested-at test b2 b1 (b ∷ bs) (suc at) h = tested-at test b1 b bs at (omega arith) ∙ ap (λ rest. cond (test (get_or (b1 ∷ b ∷ bs) at 0) (get_or (b ∷ bs) at 0) (get_or bs at 0) rest) 1 0) (ap (λ n. drop n (b ∷ bs)) (let e : suc (at + 1) ≡ suc at + 1 = omega arith in e))

-- a text begins with an LF at a byte exactly if the byte is one
pub starts_with_lf-drop : (bytes : List ℕ) (at : ℕ) → starts_with_lf (drop at bytes) ≡ (get_or bytes at 0 == 10)
starts_with_lf-drop [] zero = refl
starts_with_lf-drop [] (suc at) = refl
starts_with_lf-drop (b ∷ bs) zero = refl
starts_with_lf-drop (b ∷ bs) (suc at) = starts_with_lf-drop bs at

-- the same where there are two bytes before
pub tested-inside : (test : ℕ → ℕ → ℕ → List ℕ → Bool) (bytes : List ℕ) (at : ℕ) → 2 ≤ at → at < length bytes
    → get_or (tested_weights test 0 0 bytes) at 0 ≡ cond (test (get_or bytes (at - 2) 0) (get_or bytes (at - 1) 0) (get_or bytes at 0) (drop (at + 1) bytes)) 1 0
tested-inside test bytes zero some h = absurd (omega arith)
tested-inside test bytes (suc zero) some h = absurd (omega arith)
tested-inside test bytes (suc (suc at)) some h =
    let second : at ≡ suc (suc at) - 2 = omega arith in
    let first : suc at ≡ suc (suc at) - 1 = omega arith in
    let there : (n m : ℕ) → ℕ = λ n m. cond (test (get_or bytes n 0) (get_or bytes m 0) (get_or bytes (suc (suc at)) 0) (drop (suc (suc at) + 1) bytes)) 1 0 in
    tested-at test 0 0 bytes (suc (suc at)) h ∙ (λ i. there (second i) (first i))

-- a byte ends a break in one way at most
pub ways_to_end_a_line : (b2 b1 b next : ℕ) (rest : List ℕ) → starts_with_lf rest ≡ (next == 10)
    → cond (ends_ascii_line b (next == 10)) 1 0 + cond (ends_two_byte_line b1 b) 1 0 + cond (ends_three_byte_line b2 b1 b) 1 0 ≡ cond (ends_line b2 b1 b rest) 1 0
ways_to_end_a_line b2 b1 b next rest same = rw same (apart (next == 10))
  where
    apart : (lf : Bool) → cond (ends_ascii_line b lf) 1 0 + cond (ends_two_byte_line b1 b) 1 0 + cond (ends_three_byte_line b2 b1 b) 1 0
        ≡ cond (ends_ascii_line b lf || ends_two_byte_line b1 b || ends_three_byte_line b2 b1 b) 1 0
    apart lf = grind (arith, nat_tests)

-- a byte that is no CR ends a break exactly if it is an LF
pub lf_alone : (lf cr last : Bool) → cond {A = ℕ} cr 1 0 ≡ 0 → cond {A = ℕ} (lf || (cr && last)) 1 0 ≡ cond lf 1 0
lf_alone lf true last e = absurd (omega (arith, e))
lf_alone true false last e = refl
lf_alone false false last e = refl
