use Rattle.std.proofs.Common.{◌≡◌, Some, slice_get, subst}
use Rattle.rx_steps.proofs.FollowLaws.{if_ok}
use Rattle.rx_lists.proofs.RoundLaws.{marked_by}
use Rattle.rx_lists.proofs.leading.mark.Goals as goal

pub returns-clause-marked : goal.returns-clause-marked
returns-clause-marked c =
    let p = c.args.program.now in
    let here : slice_get p.states c.args.node.0 ≡ Some c.in-Some.state.now = subst (λ xs. slice_get xs c.args.node.0 ≡ Some c.in-Some.state.now) c.states.ensures.states c.in-Some.ensures in
    if_ok c.add.result
    (λ b added. marked_by p c.args.place.now c.args.node c.args.beyond.now.nodes c.args.here.now.nodes c.add.new.self.nodes c.args.here.now.widths c.in-Some.state.now b c.requires.widths here
    (λ i. (c.leads_on.ensures i).0 c.if-not-leads_on.false) added) c.add.ensures.added
