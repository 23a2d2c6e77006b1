-- Where a match may start.
use Rattle.std.specs.Prelude.{ℕ, Bool, true, false, Option, Some, None}
use Rattle.rx_util.specs.declared.search.Anchored.{Anchored}
use Rattle.rx_util.specs.declared.search.Anchored.TheVariants as anchored

-- only at the start of the span
abbrev pub is_anchored : Anchored → Bool
is_anchored anchored.No = false
is_anchored anchored.Yes = true
is_anchored (anchored.Pattern pattern) = true

-- the only pattern that may match
abbrev pub pattern_of : Anchored → Option ℕ
pattern_of anchored.No = None
pattern_of anchored.Yes = None
pattern_of (anchored.Pattern pattern) = Some pattern
