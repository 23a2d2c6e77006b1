use Rattle.std.proofs.Common.{Some, true, false, subst, ap, ◌∙◌, arith}
use Rattle.rx_steps.specs.Nodes.{index_from, end_from, IsInserted}
use Rattle.rx_steps.proofs.IndexLaws.{inserted, few}
use Rattle.rx_steps.proofs.visited.Visited.insert.Goals as goal

pub returns-then-not-insert-clause-inserted : goal.returns-then-not-insert-clause-inserted
returns-then-not-insert-clause-inserted c =
    let before = c.self.inside.set.members in
    let after = c.insert.new.self.members in
    let base : IsInserted (Some c.new.result) c.insert.result before after = inserted c.insert.result c.new.result before after c.insert.ensures.added c.insert.ensures.members in
    let known : IsInserted (Some c.new.result) false before after = subst (λ b. IsInserted (Some c.new.result) b before after) c.if-not-insert.true base in
    let here : IsInserted (Some c.in-Some.index) false before after = subst (λ k. IsInserted (Some k) false before after) c.new.ensures known in
    let there : IsInserted (index_from 0 c.args.self.now.widths c.args.node.0 c.args.node.1) false before after = subst (λ o. IsInserted o false before after) c.in-Some.ensures.index here in
    subst (λ v. IsInserted (index_from 0 c.args.self.now.widths c.args.node.0 c.args.node.1) false v.ids after) c.self.view_is there

pub returns-clause-inserted : goal.returns-clause-inserted
returns-clause-inserted c =
    let before = c.self.inside.set.members in
    let after = c.insert.new.self.members in
    let base : IsInserted (Some c.new.result) c.insert.result before after = inserted c.insert.result c.new.result before after c.insert.ensures.added c.insert.ensures.members in
    let known : IsInserted (Some c.new.result) true before after = subst (λ b. IsInserted (Some c.new.result) b before after) c.if-not-insert.false base in
    let here : IsInserted (Some c.in-Some.index) true before after = subst (λ k. IsInserted (Some k) true before after) c.new.ensures known in
    let there : IsInserted (index_from 0 c.args.self.now.widths c.args.node.0 c.args.node.1) true before after = subst (λ o. IsInserted o true before after) c.in-Some.ensures.index here in
    subst (λ v. IsInserted (index_from 0 c.args.self.now.widths c.args.node.0 c.args.node.1) true v.ids after) c.self.view_is there

pub returns-clause-room : goal.returns-clause-room
returns-clause-room c = λ is_new.
    let room = few c.insert.new.self.capacity c.insert.new.self.members c.len-len.ensures.set.below c.len-len.ensures.set.apart in
    let same = c.insert.ensures.capacity ∙ c.self.invariant.1 ∙ ap (λ v. end_from 0 v.widths) c.self.view_is in
    omega (arith, room, same)
