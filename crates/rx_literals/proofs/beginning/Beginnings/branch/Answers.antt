use Rattle.std.proofs.Common.{Some}
use Rattle.rx_walks.specs.Programs.{pass}
use Rattle.rx_literals.proofs.WayLaws.{on_ok, goes_on_there, goes_on_apart, branches_all}
use Rattle.rx_literals.proofs.beginning.Beginnings.branch.Goals as goal

pub returns-then-not-has_room : goal.returns-then-not-has_room
returns-then-not-has_room c =
    on_ok c.leave.result (goes_on_there (Some (pass c.args.states.now)) c.args.beginning c.args.self.now.list.items c.leave.new.self.list.items) c.leave.ensures

pub returns : goal.returns
returns c =
    goes_on_apart c.args.states.now c.args.beginning c.args.self.now.list.items c.loop-state.self.list.items
    (branches_all c.args.beginning.literal c.args.states.now c.loop-state.state-index c.args.self.now.list.items c.loop-state.self.list.items c.loop-state-test.false c.loop-state.invariant)
