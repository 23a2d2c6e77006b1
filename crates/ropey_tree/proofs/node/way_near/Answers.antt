use Rattle.ropey_tree.proofs.Descents.{stands_lies}
use Rattle.ropey_tree.proofs.node.way_near.Goals as goal

pub returns-then-has : goal.returns-then-has
returns-then-has c =
    let way = c.in-Some.way in
    let stands = rw c.in-Some.is at c.requires in
    stands_lies c.args.node.now.pieces way.node.now.pieces c.args.by c.args.i way.before stands (c.has.ensures.from c.if-has.true) (c.has.ensures.to c.if-has.true)
