use Rattle.rope_search.proofs.PayloadLemmas.{Collects-judged}
use Rattle.rope_search.proofs.payloads.Collected.new.Goals as goal

pub returns-else-len-most-clause-collects : goal.returns-else-len-most-clause-collects
returns-else-len-most-clause-collects c = Collects-judged c.args.most c.args.len c.new-else-len-most.result c.if-len-most.false c.new-else-len-most.ensures
