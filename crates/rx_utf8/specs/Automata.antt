-- Automata over bytes that read the UTF-8 of the characters of sets.
use Rattle.std.specs.Prelude.{◌≡◌, ℕ, ◌+◌, ◌≤◌, Bool, ◌&&◌, nat_le, cond, List, [], ◌∷◌, get_or, All, Option, Some, None}
use Rattle.rx_utf8.specs.declared.byte_ranges.ByteRange.{ByteRange}
use Rattle.rx_sets.specs.Sets.{Range, ordinal, in_ranges}
use Rattle.rx_walks.specs.Characters.{member_len}
use Rattle.rx_walks.specs.Bytes.{run}
use Rattle.rx_walks.specs.Transposed.{ReadsLast, NeverReturns}

-- where a byte leads in a row: nowhere (`None`), to the end of a character (`Some None`), or to a
-- state
abbrev pub look_up : List ByteRange → ℕ → Option (Option ℕ)
look_up [] b = None
look_up (range ∷ ranges) b =
    cond (nat_le range.first b && nat_le b range.last) (Some range.next) (look_up ranges b)

-- the automaton whose states have these rows
abbrev pub step_in : List (List ByteRange) → ℕ → ℕ → Option (Option ℕ)
step_in rows s b = look_up (get_or rows s []) b

-- non-empty ranges of bytes, each after the one before, from a byte on and below another
abbrev pub RiseWithin : ℕ → ℕ → List ByteRange → Type 0
RiseWithin low high [] = low ≤ high
RiseWithin low high (range ∷ ranges) =
    (low ≤ range.first) × (range.first ≤ range.last) × RiseWithin (range.last + 1) high ranges

-- the ranges of a row are disjoint, and in order
abbrev pub IsAutomatonRow : List ByteRange → Type 0
IsAutomatonRow row = RiseWithin 0 256 row

-- the maximal ranges of a set, and the rows of an automaton
pub record Reader : Type 0 where
  pub ranges : List Range
  pub rows : List (List ByteRange)

abbrev pub step_of : Reader → ℕ → ℕ → Option (Option ℕ)
step_of reader = step_in reader.rows

-- the set has this character
abbrev pub is_in : List Range → ℕ → Bool
is_in ranges c = in_ranges ranges (ordinal c)

-- from its first state on the automaton reads the UTF-8 of the set's characters and nothing else,
-- whatever the bytes
abbrev pub ReadsSet : List Range → List (List ByteRange) → Type 0
ReadsSet ranges rows = (bytes : List ℕ) → run (step_in rows) 0 bytes
    ≡ member_len (is_in ranges) bytes

-- the automaton reads the set's characters, and each of its rows has disjoint ranges
pub record IsReader (reader : Reader) : Type 0 where
  pub reads : ReadsSet reader.ranges reader.rows
  pub disjoint : All IsAutomatonRow reader.rows

-- the automaton reads the set's characters backward: given any bytes in reverse order, it reads the
-- member whose UTF-8 they end with, and nothing else. No byte leads to its first state, and each of
-- its rows has disjoint ranges
pub record IsReverseReader (reader : Reader) : Type 0 where
  pub reads_last : ReadsLast (is_in reader.ranges) (step_of reader)
  pub never_returns : NeverReturns (step_of reader)
  pub disjoint : All IsAutomatonRow reader.rows
