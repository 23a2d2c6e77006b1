use Rattle.std.proofs.Common.{ℕ, ◌≡◌, ◌<◌, [], get_or}
use Rattle.rx_utf8.specs.Subsets.{lists_of}
use Rattle.rx_utf8.proofs.entries.clear.Given as goal

-- the lists so far are empty
abbrev pub invariant-loop-list : goal.invariant-loop-list
invariant-loop-list l = (b : ℕ) → b < l.list-index → get_or (lists_of l.list-items) b [] ≡ []
