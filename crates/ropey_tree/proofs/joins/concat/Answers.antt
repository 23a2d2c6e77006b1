use Rattle.ropey_tree.proofs.Joining.{joined_inner}
use Rattle.ropey_tree.proofs.joins.concat.Goals as goal

pub over_two-requires-clause-inner : goal.over_two-requires-clause-inner
over_two-requires-clause-inner c =
    let j = rw c.in-Two.is at c.in_ok-node.ensures.joined in
    rw (c.max-height.ensures, c.height.ensures.value, c.deref.ensures, c.height-in-Two.ensures.value, c.deref-in-Two.ensures)
    (joined_inner c.args.left.now.value c.args.right.now.value c.in-Two.first.value c.in-Two.second.value c.requires j)
