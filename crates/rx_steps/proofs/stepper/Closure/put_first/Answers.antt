use Rattle.std.proofs.Common.{refl, sym, subst}
use Rattle.rx_steps.specs.Nodes.{index_from, IsMember}
use Rattle.rx_steps.specs.Lists.{IsThinning}
use Rattle.rx_steps.proofs.ThinLaws.{thin_passed, thin_kept, few_more}
use Rattle.rx_steps.proofs.stepper.Closure.put_first.Goals as goal

pub returns-then-has-clause-thinned : goal.returns-then-has-clause-thinned
returns-then-has-clause-thinned c = λ threads others way.
    let seen = c.args.self.now.visited in
    let at = index_from 0 seen.widths c.args.node.0 c.args.node.1 in
    thin_passed threads seen.widths seen.ids c.args.slots.now c.args.node others c.args.thin.now.threads at refl (subst (λ b. IsMember at b seen.ids) c.if-has.true c.has.ensures) way

pub returns-clause-thinned : goal.returns-clause-thinned
returns-clause-thinned c = λ threads others way.
    let seen = c.args.self.now.visited in
    let at = index_from 0 seen.widths c.args.node.0 c.args.node.1 in
    subst (λ xs. IsThinning threads seen.widths c.insert.new.self.ids others xs) (sym c.in_ok-push.ensures.threads)
    (thin_kept threads seen.widths seen.ids c.insert.new.self.ids c.args.slots.now c.args.node others c.args.thin.now.threads c.insert.result (subst (λ b. IsMember at b seen.ids) c.if-has.false c.has.ensures) c.insert.ensures.inserted way)

pub returns-clause-few : goal.returns-clause-few
returns-clause-few c = few_more _ c.insert.result c.args.self.now.visited.ids c.insert.new.self.ids c.insert.ensures.inserted

pub returns-in_err-push-clause-few : goal.returns-in_err-push-clause-few
returns-in_err-push-clause-few c = few_more _ c.insert.result c.args.self.now.visited.ids c.insert.new.self.ids c.insert.ensures.inserted
