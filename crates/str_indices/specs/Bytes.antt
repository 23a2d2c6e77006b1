-- The weights of the bytes of a text. Contracts of loops over bytes use these; contracts of public
-- functions use the words of Text.
use Rattle.std.specs.Prelude.{ℕ, ◌+◌, ◌<◌, ◌≤◌, Bool, not, ◌&&◌, ◌||◌, if◌then◌else◌, List, [], ◌∷◌, length, map, sum, take, drop, slice_index, nat_le, nat_lt, ◌==◌}
use Rattle.str_indices.specs.Text.{starts_with_lf}

-- the first byte of a character, which is no continuation byte
abbrev pub is_lead : ℕ → Bool
is_lead b = nat_lt b 0x80 || nat_le 0xC0 b

-- the first byte of a character of four bytes
abbrev pub is_lead_of_four : ℕ → Bool
is_lead_of_four b = nat_le 0xF0 b

-- each character counts once, at its first byte
abbrev pub char_weights : List ℕ → List ℕ
char_weights bytes = map (λ b. if is_lead b then 1 else 0) bytes

-- each character of two code units counts once, at its first byte
abbrev pub pair_weights : List ℕ → List ℕ
pair_weights bytes = map (λ b. if is_lead_of_four b then 1 else 0) bytes

-- each character counts its code units, at its first byte
abbrev pub unit_weights : List ℕ → List ℕ
unit_weights bytes = map (λ b. (if is_lead b then 1 else 0) + (if is_lead_of_four b then 1 else 0)) bytes

-- a byte counts if it passes a test, given the two bytes before it and the bytes after it
abbrev pub tested_weights : (ℕ → ℕ → ℕ → List ℕ → Bool) → ℕ → ℕ → List ℕ → List ℕ
tested_weights test b2 b1 [] = []
tested_weights test b2 b1 (b ∷ bs) = (if test b2 b1 b bs then 1 else 0) ∷ tested_weights test b1 b bs

-- a test of the byte at an offset, given the two bytes before it, each 0 if there is none, and the
-- bytes after it
abbrev pub passes_at : (ℕ → ℕ → ℕ → List ℕ → Bool) → List ℕ → ℕ → Bool
passes_at test bytes at = test (slice_index (0 ∷ 0 ∷ bytes) at) (slice_index (0 ∷ bytes) at) (slice_index bytes at) (drop (at + 1) bytes)

-- the last byte of a break: of one byte, except a CR before an LF; of U+0085, which is C2 85; of
-- U+2028 or U+2029, which are E2 80 A8 and E2 80 A9
abbrev pub ends_ascii_line : ℕ → Bool → Bool
ends_ascii_line b before_lf = (nat_le 10 b && nat_le b 13) && not ((b == 13) && before_lf)

abbrev pub ends_two_byte_line : ℕ → ℕ → Bool
ends_two_byte_line b1 b = (b == 0x85) && (b1 == 0xC2)

abbrev pub ends_three_byte_line : ℕ → ℕ → ℕ → Bool
ends_three_byte_line b2 b1 b = (nat_le 0xA8 b && nat_le b 0xA9) && ((b1 == 0x80) && (b2 == 0xE2))

abbrev pub ends_line : ℕ → ℕ → ℕ → List ℕ → Bool
ends_line b2 b1 b rest = ends_ascii_line b (starts_with_lf rest) || ends_two_byte_line b1 b || ends_three_byte_line b2 b1 b

abbrev pub ends_crlf_line : ℕ → ℕ → ℕ → List ℕ → Bool
ends_crlf_line b2 b1 b rest = (b == 10) || ((b == 13) && not (starts_with_lf rest))

abbrev pub ends_lf_line : ℕ → ℕ → ℕ → List ℕ → Bool
ends_lf_line b2 b1 b rest = b == 10

-- the LF of a CR LF
abbrev pub is_cr_lf_end : List ℕ → ℕ → Bool
is_cr_lf_end bytes at = (slice_index bytes at == 10) && (slice_index (0 ∷ bytes) at == 13)

-- each break counts at its last byte
abbrev pub line_weights : List ℕ → List ℕ
line_weights bytes = tested_weights ends_line 0 0 bytes

abbrev pub crlf_line_weights : List ℕ → List ℕ
crlf_line_weights bytes = tested_weights ends_crlf_line 0 0 bytes

abbrev pub lf_line_weights : List ℕ → List ℕ
lf_line_weights bytes = tested_weights ends_lf_line 0 0 bytes

-- the first byte with which the sum of the weights exceeds k, or the length
pub record IsFirstPast (weights : List ℕ) (k at : ℕ) : Type 0 where
  pub within : at ≤ length weights
  pub before : sum (take at weights) ≤ k
  pub passed : at < length weights → k < sum (take (at + 1) weights)
