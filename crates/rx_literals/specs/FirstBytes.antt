-- The bytes that needles begin with.
use Rattle.std.specs.Prelude.{◌≡◌, ◌≤◌, ℕ, Bool, true, List, All, length, slice_index}
use Rattle.memchr.specs.Find.{is_byte, is_byte2, is_byte3}
use Rattle.rx_literals.specs.declared.first_bytes.FirstBytes.{FirstBytes}
use Rattle.rx_literals.specs.declared.first_bytes.FirstBytes.TheVariants as first

-- the test whether a byte is one of these
abbrev pub is_among : FirstBytes → ℕ → Bool
is_among (first.One a) x = is_byte a x
is_among (first.Two a b) x = is_byte2 a b x
is_among (first.Three a b c) x = is_byte3 a b c x

-- a needle has a first byte, and it is one of these
abbrev pub BeginsAmong : FirstBytes → List ℕ → Type 0
BeginsAmong bytes needle = (1 ≤ length needle) × (is_among bytes (slice_index needle 0) ≡ true)

-- each of the needles begins with one of them
abbrev pub BeginAmong : FirstBytes → List (List ℕ) → Type 0
BeginAmong bytes needles = All (BeginsAmong bytes) needles
