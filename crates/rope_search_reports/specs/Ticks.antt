-- Counts of searches.
use Rattle.std.specs.Prelude.{◌≡◌, ◌+◌, ◌-◌, ◌^◌, ◌≤◌, ℕ, min}

-- the number of rows made, of whole texts searched, and of lines scanned for an offset at which a
-- match may begin
pub record Ticks : Type 0 where
  pub count : ℕ
  pub wholes : ℕ
  pub looked : ℕ

-- no count of rows and whole searches decreases
pub record NeverFall (old new : Ticks) : Type 0 where
  pub rows : old.count ≤ new.count
  pub wholes : old.wholes ≤ new.wholes

-- at most `rows` rows were made, and no whole text was searched
pub record MakesAtMost (rows : ℕ) (old new : Ticks) : Type 0 where
  pub grows : old.count ≤ new.count
  pub made : new.count ≤ old.count + rows
  pub no_whole : new.wholes ≡ old.wholes

-- `rows` rows were made, up to the maximum of the count, and no whole text was searched
pub record MakesAsMany (rows : ℕ) (old new : Ticks) : Type 0 where
  pub grows : old.count ≤ new.count
  pub least : min (old.count + rows) (2 ^ 64 - 1) ≤ new.count
  pub made : new.count ≤ old.count + rows
  pub no_whole : new.wholes ≡ old.wholes

-- no row was made, and at most one whole text was searched
pub record SearchesOneWhole (old new : Ticks) : Type 0 where
  pub no_row : new.count ≡ old.count
  pub grows : old.wholes ≤ new.wholes
  pub searched : new.wholes ≤ old.wholes + 1

-- at most this number of lines was scanned
abbrev pub LooksAtMost : ℕ → Ticks → Ticks → Type 0
LooksAtMost lines old new = new.looked ≤ old.looked + lines
