-- The lines that were passed list no match.
use Rattle.std.proofs.Common.{◌≤◌}
use Rattle.rope_search.proofs.ListedOrder.{NoneBetween}
use Rattle.rope_search.proofs.listed.last_of.Given as goal

abbrev pub invariant-loop-line : goal.invariant-loop-line
invariant-loop-line l = (l.line ≤ l.fn.end) × NoneBetween l.rows l.line l.fn.end

abbrev pub decreases-loop-line : goal.decreases-loop-line
decreases-loop-line l = l.line
