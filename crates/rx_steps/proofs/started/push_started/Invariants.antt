use Rattle.std.proofs.Common.{◌≡◌, ◌++◌, take}
use Rattle.rx_steps.specs.ListsAll.{nodes_of, started_at}
use Rattle.rx_steps.proofs.started.push_started.Given as goal

-- those of the first threads were added
abbrev pub invariant-loop-index : goal.invariant-loop-index
invariant-loop-index l = l.list.items ≡ l.fn.list.items ++ started_at l.start (nodes_of (take l.index l.nodes.threads))
