-- What was skipped so far.
use Rattle.std.proofs.Common.{ℕ, ◌+◌, List}
use Rattle.rope_search_templates.proofs.LeftLemmas.{IsTaken}
use Rattle.rope_search_templates.proofs.left.Left.skip.Given as goal

abbrev pub invariant-loop-left : goal.invariant-loop-left
invariant-loop-left l = (taken : List ℕ) × IsTaken l.fn.self.bytes l.self.bytes taken l.len l.left

abbrev pub decreases-loop-left : goal.decreases-loop-left
decreases-loop-left l = l.left + l.self.chunks
