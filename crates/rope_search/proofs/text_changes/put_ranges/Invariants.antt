-- The ranges so far are at the buffer's start.
use Rattle.rope_search.proofs.TextChangeLemmas.{RangesPut}
use Rattle.rope_search.proofs.text_changes.put_ranges.Given as goal

abbrev pub invariant-loop-k : goal.invariant-loop-k
invariant-loop-k l = RangesPut l.is_back l.changes l.k l.at l.at_new l.fn.out l.out
