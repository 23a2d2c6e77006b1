use Rattle.rx_util.proofs.SparseSetLemmas.{members_are_a_set}
use Rattle.rx_util.proofs.sparse_set.SparseSet.len.Goals as goal

pub returns-clause-set : goal.returns-clause-set
returns-clause-set c = rw (← c.self.view_is) (members_are_a_set c.self.invariant)
