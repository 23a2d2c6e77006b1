-- Ranges of offsets, as a caller writes them.
use Rattle.std.specs.Prelude.{ℕ, ◌+◌, ◌-◌, ◌^◌, Bool, ◌&&◌, nat_le, min, if◌then◌else◌, Option, Some, None}
use Rattle.std.specs.declared.ops.Bound.{Bound}
use Rattle.std.specs.declared.ops.Bound.TheVariants.{Included, Excluded, Unbounded}

-- the offset after another, at most the greatest `usize`
abbrev pub place_behind : ℕ → ℕ
place_behind last = min (last + 1) (2 ^ 64 - 1)

-- the end of `first..=last`, which is spent once it was iterated to its end
abbrev pub inclusive_end : ℕ → ℕ → Bool → ℕ
inclusive_end first last is_spent =
    if nat_le first last && is_spent then last else place_behind last

-- the first offset by a bound, and the offset after the last; none if the bound is open
abbrev pub first_place : Bound ℕ → Option ℕ
first_place (Included i) = Some i
first_place (Excluded i) = Some (place_behind i)
first_place Unbounded = None

abbrev pub stop_place : Bound ℕ → Option ℕ
stop_place (Included i) = Some (place_behind i)
stop_place (Excluded i) = Some i
stop_place Unbounded = None
