-- The counts of texts in the four measures: bytes of UTF-8, characters, UTF-16 code units and line
-- breaks.
use Rattle.std.specs.Prelude.{ℕ, ◌+◌, ◌-◌, ◌^◌, ◌<◌, ◌≤◌, List, length, sum_by}
use Rattle.str_indices.specs.Text.{breaks, units, byte_len}
use Rattle.ropey_tree.specs.Breaks.{is_break}
use Rattle.ropey_tree.specs.declared.counts.Counts.{Counts}
use Rattle.ropey_tree.specs.declared.counts.By.{By}
use Rattle.ropey_tree.specs.declared.counts.By.TheVariants.{Bytes, Chars, Units, Breaks}

-- the counts of a text
abbrev pub counts_of : List ℕ → Counts
counts_of text = record { bytes = byte_len text; chars = length text; units = units text; breaks = breaks is_break text }

-- the counts of the empty text
abbrev pub zero_counts : Counts
zero_counts = record { bytes = 0; chars = 0; units = 0; breaks = 0 }

abbrev pub plus : Counts → Counts → Counts
plus c d = record { bytes = c.bytes + d.bytes; chars = c.chars + d.chars; units = c.units + d.units; breaks = c.breaks + d.breaks }

-- the differences, and 0 if the second is greater
abbrev pub minus : Counts → Counts → Counts
minus c d = record { bytes = c.bytes - d.bytes; chars = c.chars - d.chars; units = c.units - d.units; breaks = c.breaks - d.breaks }

-- the counts of two texts can be added
pub record FitsWith (c d : Counts) : Type 0 where
  pub bytes : c.bytes + d.bytes < 2 ^ 64
  pub chars : c.chars + d.chars < 2 ^ 64
  pub units : c.units + d.units < 2 ^ 64
  pub breaks : c.breaks + d.breaks < 2 ^ 64

-- no count of the first is greater
pub record NoneExceeds (c d : Counts) : Type 0 where
  pub bytes : c.bytes ≤ d.bytes
  pub chars : c.chars ≤ d.chars
  pub units : c.units ≤ d.units
  pub breaks : c.breaks ≤ d.breaks

-- the count in one measure
abbrev pub amount : By → Counts → ℕ
amount Bytes c = c.bytes
amount Chars c = c.chars
amount Units c = c.units
amount Breaks c = c.breaks

-- the counts of leaf texts together: their sums
abbrev pub total : List (List ℕ) → Counts
total pieces = record { bytes = sum_by byte_len pieces; chars = sum_by length pieces; units = sum_by units pieces; breaks = sum_by (breaks is_break) pieces }
