-- The bytes of a number as lanes: what arithmetic on whole numbers does to each byte.
use Rattle.std.proofs.Common.{◌≡◌, ℕ, zero, suc, ◌+◌, ◌-◌, ◌*◌, ◌/◌, ◌%◌, ◌^◌, ◌<◌, ◌≤◌, List, [], ◌∷◌, length, get_or, refl, ap, sym, ◌∙◌, arith, bit_and, w64, lit<}
use Rattle.std.proofs.Math.Nat.{pow-suc}
use Rattle.std.proofs.Common.{cond, nat_le, inl, inr}
use Rattle.std.specs.Prelude.{◌&&◌, ◌==◌}
use Rattle.std.specs.Int.{to_le_bytes, from_le_bytes}
use Rattle.std.proofs.lemmas.List.{get_or_past}
use Rattle.std.proofs.lemmas.Bool.{cases_lt, le-leb, lt-leb}
use Rattle.std.proofs.lemmas.Bool.Decides.{nat_tests}
use Rattle.str_indices.proofs.Vectors.{bit_and-tests}
use Rattle.std.proofs.lemmas.Nat.{shr-shr, and_shr, and_mod, and_mask, le_bytes_8}
use Rattle.str_indices.specs.Lanes.{low_bytes}

pub length-low_bytes : (k n : ℕ) → length (low_bytes k n) ≡ k
length-low_bytes zero n = refl
length-low_bytes (suc k) n = ap suc (length-low_bytes k (n / 256))

pub low_bytes-below : (k n i : ℕ) → get_or (low_bytes k n) i 0 < 256
low_bytes-below zero n i = omega arith
low_bytes-below (suc k) n zero = omega arith
low_bytes-below (suc k) n (suc i) = low_bytes-below k (n / 256) i

-- no byte overflows
pub low_bytes-add : (k a b i : ℕ) → ((j : ℕ) → j < k → get_or (low_bytes k a) j 0 + get_or (low_bytes k b) j 0 ≤ 255) → i < k
    → get_or (low_bytes k (a + b)) i 0 ≡ get_or (low_bytes k a) i 0 + get_or (low_bytes k b) i 0
low_bytes-add zero a b i h l = absurd (omega arith)
low_bytes-add (suc k) a b zero h l = let first = h 0 (omega arith) in omega (arith, first)
low_bytes-add (suc k) a b (suc i) h l =
    let first = h 0 (omega arith) in
    let e : (a + b) / 256 ≡ a / 256 + b / 256 = omega (arith, first) in
    ap (λ n. get_or (low_bytes k n) i 0) e ∙ low_bytes-add k (a / 256) (b / 256) i (λ j m. h (suc j) (omega arith)) (omega arith)

-- a number without its lowest byte
shorter : (k b : ℕ) → b < 256 ^ suc k → b / 256 < 256 ^ k
shorter k b small = omega (arith, pow-suc 256 k)

-- a number whose bytes are no greater is no greater
pub low_bytes-le : (k a b : ℕ) → b < 256 ^ k → ((j : ℕ) → j < k → get_or (low_bytes k b) j 0 ≤ get_or (low_bytes k a) j 0) → b ≤ a
low_bytes-le zero a b small h = omega arith
low_bytes-le (suc k) a b small h =
    let first = h 0 (omega arith) in
    let rest : b / 256 ≤ a / 256 = low_bytes-le k (a / 256) (b / 256) (shorter k b small) (λ j m. h (suc j) (omega arith)) in
    omega (arith, first, rest)

pub low_bytes-sub : (k a b i : ℕ) → b < 256 ^ k → ((j : ℕ) → j < k → get_or (low_bytes k b) j 0 ≤ get_or (low_bytes k a) j 0) → i < k
    → get_or (low_bytes k (a - b)) i 0 ≡ get_or (low_bytes k a) i 0 - get_or (low_bytes k b) i 0
low_bytes-sub zero a b i small h l = absurd (omega arith)
low_bytes-sub (suc k) a b zero small h l = let first = h 0 (omega arith) in omega (arith, first, low_bytes-le (suc k) a b small h)
low_bytes-sub (suc k) a b (suc i) small h l =
    let first = h 0 (omega arith) in
    let e : (a - b) / 256 ≡ a / 256 - b / 256 = omega (arith, first, low_bytes-le (suc k) a b small h) in
    ap (λ n. get_or (low_bytes k n) i 0) e ∙ low_bytes-sub k (a / 256) (b / 256) i (shorter k b small) (λ j m. h (suc j) (omega arith)) (omega arith)

pub low_bytes-bit_and : (k a b i : ℕ) → get_or (low_bytes k (bit_and a b)) i 0 ≡ bit_and (get_or (low_bytes k a) i 0) (get_or (low_bytes k b) i 0)
low_bytes-bit_and zero a b i = refl
low_bytes-bit_and (suc k) a b zero = and_mod a b 8
low_bytes-bit_and (suc k) a b (suc i) = ap (λ n. get_or (low_bytes k n) i 0) (and_shr a b 8) ∙ low_bytes-bit_and k (a / 256) (b / 256) i

-- one byte in all places
abbrev ones : ℕ → ℕ
ones zero = 0
ones (suc k) = 1 + 256 * ones k

low_bytes-ones : (k b i : ℕ) → b < 256 → i < k → get_or (low_bytes k (b * ones k)) i 0 ≡ b
low_bytes-ones zero b i small l = absurd (omega arith)
low_bytes-ones (suc k) b zero small l = let e : b * (1 + 256 * ones k) % 256 ≡ b = omega arith in e
low_bytes-ones (suc k) b (suc i) small l =
    let e : b * (1 + 256 * ones k) / 256 ≡ b * ones k = omega arith in
    ap (λ n. get_or (low_bytes k n) i 0) e ∙ low_bytes-ones k b i small (omega arith)

pub low_bytes-splat : (b i : ℕ) → b < 256 → i < 8 → get_or (low_bytes 8 (b * 0x101010101010101)) i 0 ≡ b
low_bytes-splat b i small l = low_bytes-ones 8 b i small l

-- the highest bit of a byte is the lowest one of the number shifted by 7
low_bytes-shifted : (k n i : ℕ) → i < k → get_or (low_bytes k (n / 128)) i 0 % 2 ≡ get_or (low_bytes k n) i 0 / 128
low_bytes-shifted zero n i l = absurd (omega arith)
low_bytes-shifted (suc k) n zero l = omega arith
low_bytes-shifted (suc k) n (suc i) l =
    let e : n / 128 / 256 ≡ n / 256 / 128 = shr-shr n 7 8 ∙ sym (shr-shr n 8 7) in
    ap (λ m. get_or (low_bytes k m) i 0 % 2) e ∙ low_bytes-shifted k (n / 256) i (omega arith)

pub low_bytes-high_bits : (n i : ℕ) → i < 8 → get_or (low_bytes 8 (bit_and (n / 128) 0x101010101010101)) i 0 ≡ get_or (low_bytes 8 n) i 0 / 128
low_bytes-high_bits n i l =
    low_bytes-bit_and 8 (n / 128) 0x101010101010101 i
    ∙ ap (λ m. bit_and (get_or (low_bytes 8 (n / 128)) i 0) m) (low_bytes-splat 1 i (lit< tt) l)
    ∙ and_mask (get_or (low_bytes 8 (n / 128)) i 0) 1
    ∙ low_bytes-shifted 8 n i l

-- the bytes as std has them
pub to_le_bytes-low_bytes : (n : ℕ) → to_le_bytes w64 n ≡ low_bytes 8 n
to_le_bytes-low_bytes n =
    let e2 : n / 256 / 256 ≡ n / 65536 = shr-shr n 8 8 in
    let e3 : n / 65536 / 256 ≡ n / 16777216 = shr-shr n 16 8 in
    let e4 : n / 16777216 / 256 ≡ n / 4294967296 = shr-shr n 24 8 in
    let e5 : n / 4294967296 / 256 ≡ n / 1099511627776 = shr-shr n 32 8 in
    let e6 : n / 1099511627776 / 256 ≡ n / 281474976710656 = shr-shr n 40 8 in
    let e7 : n / 281474976710656 / 256 ≡ n / 72057594037927936 = shr-shr n 48 8 in
    rw (e2, e3, e4, e5, e6, e7) refl

pub low_bytes-low_bits : (n i : ℕ) → i < 8 → get_or (low_bytes 8 (bit_and n 0x7F7F7F7F7F7F7F7F)) i 0 ≡ get_or (low_bytes 8 n) i 0 % 128
low_bytes-low_bits n i l =
    low_bytes-bit_and 8 n 0x7F7F7F7F7F7F7F7F i
    ∙ ap (λ m. bit_and (get_or (low_bytes 8 n) i 0) m) (low_bytes-splat 0x7F i (lit< tt) l)
    ∙ and_mask (get_or (low_bytes 8 n) i 0) 7

-- ---- tests of a byte by its highest bit and a carry into it
reached : (x limit : ℕ) → limit ≤ x → cond {A = ℕ} (nat_le limit x) 1 0 ≡ 1
reached x limit h = rw (le-leb limit x h) refl

missed : (x limit : ℕ) → x < limit → cond {A = ℕ} (nat_le limit x) 1 0 ≡ 0
missed x limit h = rw (lt-leb limit x h) refl

pub reaches_low : (x limit : ℕ) → x < 256 → limit ≤ 128
    → x / 128 + (x % 128 + (128 - limit)) / 128 - bit_and (x / 128) ((x % 128 + (128 - limit)) / 128) ≡ cond (nat_le limit x) 1 0
reaches_low x limit small low =
    elim (cases_lt x 128) [
      | inl below ↦
          let h : x / 128 ≡ 0 = omega arith in
          elim (cases_lt x limit) [
            | inl less ↦ let c : (x % 128 + (128 - limit)) / 128 ≡ 0 = omega arith in rw (h, c, missed x limit less) refl
            | inr more ↦ let c : (x % 128 + (128 - limit)) / 128 ≡ 1 = omega arith in rw (h, c, reached x limit more) refl
          ]
      | inr above ↦
          let h : x / 128 ≡ 1 = omega arith in
          let there = reached x limit (omega arith) in
          elim (cases_lt (x % 128) limit) [
            | inl less ↦ let c : (x % 128 + (128 - limit)) / 128 ≡ 0 = omega arith in rw (h, c, there) refl
            | inr more ↦ let c : (x % 128 + (128 - limit)) / 128 ≡ 1 = omega arith in rw (h, c, there) refl
          ]
    ]

pub reaches_high : (x limit : ℕ) → x < 256 → 128 < limit → limit < 256
    → bit_and (x / 128) ((x % 128 + (255 - limit + 1)) / 128) ≡ cond (nat_le limit x) 1 0
reaches_high x limit small low high =
    elim (cases_lt x 128) [
      | inl below ↦ let h : x / 128 ≡ 0 = omega arith in rw (h, missed x limit (omega arith)) refl
      | inr above ↦
          let h : x / 128 ≡ 1 = omega arith in
          elim (cases_lt x limit) [
            | inl less ↦ let c : (x % 128 + (255 - limit + 1)) / 128 ≡ 0 = omega arith in rw (h, c, missed x limit less) refl
            | inr more ↦ let c : (x % 128 + (255 - limit + 1)) / 128 ≡ 1 = omega arith in rw (h, c, reached x limit more) refl
          ]
    ]

-- ---- two limits as a range
pub between_itself : (x b : ℕ) → cond {A = ℕ} (nat_le b x && nat_le x b) 1 0 ≡ cond (x == b) 1 0
between_itself x b = grind (arith, nat_tests)

pub between_limits : (x low high : ℕ) → cond (nat_le low x) 1 0 - bit_and (cond (nat_le low x) 1 0) (cond (nat_le (high + 1) x) 1 0) ≡ cond (nat_le low x && nat_le x high) 1 0
between_limits x low high =
    ap (λ n. cond (nat_le low x) 1 0 - n) (bit_and-tests (nat_le low x) (nat_le (high + 1) x)) ∙ grind (arith, nat_tests)

pub between_last : (x low : ℕ) → x < 256 → cond {A = ℕ} (nat_le low x) 1 0 ≡ cond (nat_le low x && nat_le x 255) 1 0
between_last x low small = grind (arith, nat_tests)

-- ---- eight bytes of a list
abbrev pub eight_bytes : List ℕ → ℕ → List ℕ
eight_bytes bytes at = get_or bytes at 0 ∷ get_or bytes (at + 1) 0 ∷ get_or bytes (at + 2) 0 ∷ get_or bytes (at + 3) 0 ∷ get_or bytes (at + 4) 0 ∷ get_or bytes (at + 5) 0 ∷ get_or bytes (at + 6) 0 ∷ get_or bytes (at + 7) 0 ∷ []

pub eight_bytes-at : (bytes : List ℕ) (at k : ℕ) → k < 8 → get_or (eight_bytes bytes at) k 0 ≡ get_or bytes (at + k) 0
eight_bytes-at bytes at zero l = ap (λ n. get_or bytes n 0) (let e : at ≡ at + zero = omega arith in e)
eight_bytes-at bytes at (suc zero) l = ap (λ n. get_or bytes n 0) (let e : at + 1 ≡ at + suc zero = omega arith in e)
eight_bytes-at bytes at (suc (suc zero)) l = ap (λ n. get_or bytes n 0) (let e : at + 2 ≡ at + suc (suc zero) = omega arith in e)
eight_bytes-at bytes at (suc (suc (suc zero))) l = ap (λ n. get_or bytes n 0) (let e : at + 3 ≡ at + suc (suc (suc zero)) = omega arith in e)
eight_bytes-at bytes at (suc (suc (suc (suc zero)))) l = ap (λ n. get_or bytes n 0) (let e : at + 4 ≡ at + suc (suc (suc (suc zero))) = omega arith in e)
eight_bytes-at bytes at (suc (suc (suc (suc (suc zero))))) l = ap (λ n. get_or bytes n 0) (let e : at + 5 ≡ at + suc (suc (suc (suc (suc zero)))) = omega arith in e)
eight_bytes-at bytes at (suc (suc (suc (suc (suc (suc zero)))))) l = ap (λ n. get_or bytes n 0) (let e : at + 6 ≡ at + suc (suc (suc (suc (suc (suc zero))))) = omega arith in e)
eight_bytes-at bytes at (suc (suc (suc (suc (suc (suc (suc zero))))))) l = ap (λ n. get_or bytes n 0) (let e : at + 7 ≡ at + suc (suc (suc (suc (suc (suc (suc zero)))))) = omega arith in e)
eight_bytes-at bytes at (suc (suc (suc (suc (suc (suc (suc (suc k)))))))) l = absurd (omega arith)

eight_bytes-below : (bytes : List ℕ) (at : ℕ) → ((i : ℕ) → get_or bytes i 0 < 256) → (k : ℕ) → get_or (eight_bytes bytes at) k 0 < 256
eight_bytes-below bytes at h k =
    elim (cases_lt k 8) as (λ _. get_or (eight_bytes bytes at) k 0 < 256) [
      | inl l ↦ omega (arith, eight_bytes-at bytes at k l, h (at + k))
      | inr past ↦ omega (arith, get_or_past (eight_bytes bytes at) k 0 past)
    ]

-- the number that is read of them has them as its bytes
pub low_bytes-read : (bytes : List ℕ) (at n k : ℕ) → ((i : ℕ) → get_or bytes i 0 < 256) → n ≡ from_le_bytes w64 (eight_bytes bytes at) → k < 8
    → get_or (low_bytes 8 n) k 0 ≡ get_or bytes (at + k) 0
low_bytes-read bytes at n k h e l =
    ap (λ bs. get_or bs k 0) (sym (to_le_bytes-low_bytes n) ∙ le_bytes_8 (eight_bytes bytes at) n refl (eight_bytes-below bytes at h) e)
    ∙ eight_bytes-at bytes at k l
