use Rattle.std.proofs.Common.{◌≡◌, ◌++◌, take}
use Rattle.rx_literals.specs.Ways.{branches}
use Rattle.rx_literals.proofs.beginning.Beginnings.branch.Given as goal

abbrev pub invariant-loop-state : goal.invariant-loop-state
invariant-loop-state l = l.self.list.items ≡ l.fn.self.list.items ++ branches l.fn.beginning.literal (take l.state-index l.states)
