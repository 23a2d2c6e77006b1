-- All matches of the lines that were passed start before the position.
use Rattle.rope_search.proofs.ListedOrder.{AllBefore, IsColumnOf}
use Rattle.rope_search.proofs.listed.first_from.Given as goal

abbrev pub invariant-loop-line : goal.invariant-loop-line
invariant-loop-line l = IsColumnOf l.fn.position l.line l.column × AllBefore l.rows l.fn.position l.line
