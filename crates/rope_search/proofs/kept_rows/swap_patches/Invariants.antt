-- The patches from `left` on are swapped.
use Rattle.rope_search.proofs.SwapLemmas.{IsSwapped}
use Rattle.rope_search.proofs.kept_rows.swap_patches.Given as goal

abbrev pub invariant-loop-left : goal.invariant-loop-left
invariant-loop-left l = IsSwapped l.fn.rows.items l.fn.patches.items l.rows.items l.patches.items l.left

abbrev pub decreases-loop-left : goal.decreases-loop-left
decreases-loop-left l = l.left
