use Rattle.std.proofs.Common.{ap, sym, ◌∙◌}
use Rattle.ropey_tree.specs.Counts.{total}
use Rattle.ropey_tree.specs.Bodies.{view_of}
use Rattle.ropey_tree.proofs.Descents.{child_lies}
use Rattle.ropey_tree.proofs.node.enter.Goals as goal

pub returns-clause-lies : goal.returns-clause-lies
returns-clause-lies c =
    let pieces = ap (λ v. v.pieces) (sym (ap view_of c.in-Inner.is) ∙ c.node.view_is) in
    let choice = c.choose-choice.ensures in
    let lies = child_lies c.in-Inner.children c.choose-choice.result.index c.get.result.now.value c.args.by c.args.i c.choose-choice.result.before choice.within c.get.ensures choice.stands_before choice.not_past choice.passed in
    rw (← pieces, c.deref.ensures) lies

pub returns-clause-counted : goal.returns-clause-counted
returns-clause-counted c =
    rw c.deref.ensures (c.choose-choice.ensures.counted c.get.result.now.value ∙ ap total (ap (λ v. v.pieces) (sym c.get.ensures)))
