use Rattle.std.proofs.Common.{◌≡◌, ℕ, ◌+◌, ◌<◌, Some}
use Rattle.rx_util.specs.Groups.{names_of, name_among}
use Rattle.rx_util.proofs.captures.group_named.Given as goal

-- no group so far has the name
abbrev pub invariant-loop-k : goal.invariant-loop-k
invariant-loop-k l = (g : ℕ) → g < l.k + 1 → name_among (names_of l.groups) g ≡ Some l.name → ⊥
