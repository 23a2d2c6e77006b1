-- The UTF-8 of one character, in its four lengths.
use Rattle.std.proofs.Common.{◌≡◌, ℕ, ◌+◌, ◌/◌, ◌%◌, ◌<◌, ◌≤◌, [], ◌∷◌, refl, arith}
use Rattle.std.specs.Char.{encode_utf8, len_utf8}
use Rattle.std.proofs.lemmas.Bool.{lt-ltb, le-ltb}
use Rattle.std.proofs.lemmas.Bool.Decides.{nat_tests}

pub encode_two : (c : ℕ) → 128 ≤ c → c < 2048 → encode_utf8 c ≡ (192 + c / 64) ∷ (128 + c % 64) ∷ []
unfolding encode_utf8
encode_two c low high = rw (le-ltb c 128 low, lt-ltb c 2048 high) refl

pub encode_three : (c : ℕ) → 2048 ≤ c → c < 65536 → encode_utf8 c ≡ (224 + c / 4096) ∷ (128 + c / 64 % 64) ∷ (128 + c % 64) ∷ []
unfolding encode_utf8
encode_three c low high =
    let below : 128 ≤ c = omega arith in
    rw (le-ltb c 128 below, le-ltb c 2048 low, lt-ltb c 65536 high) refl

pub encode_four : (c : ℕ) → 65536 ≤ c → encode_utf8 c ≡ (240 + c / 262144) ∷ (128 + c / 4096 % 64) ∷ (128 + c / 64 % 64) ∷ (128 + c % 64) ∷ []
unfolding encode_utf8
encode_four c low =
    let below : 128 ≤ c = omega arith in
    let under : 2048 ≤ c = omega arith in
    rw (le-ltb c 128 below, le-ltb c 2048 under, le-ltb c 65536 low) refl

pub len_two : (c : ℕ) → 128 ≤ c → c < 2048 → len_utf8 c ≡ 2
len_two c low high = grind (arith, nat_tests)

pub len_three : (c : ℕ) → 2048 ≤ c → c < 65536 → len_utf8 c ≡ 3
len_three c low high = grind (arith, nat_tests)

pub len_four : (c : ℕ) → 65536 ≤ c → len_utf8 c ≡ 4
len_four c low = grind (arith, nat_tests)
