use Rattle.rope_search.proofs.StretchLemmas.{hull-is}
use Rattle.rope_search.proofs.stretches.hull.Goals as goal

pub returns : goal.returns
returns c = hull-is c.args.changes.now c.in_ok-first.first.now c.in_ok-last.last.now c.in_ok-first.ensures.value c.in_ok-last.ensures.value
