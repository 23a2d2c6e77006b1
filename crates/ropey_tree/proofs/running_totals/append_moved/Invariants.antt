use Rattle.std.proofs.Common.{◌≡◌, ◌++◌, take, map}
use Rattle.ropey_tree.specs.Counts.{plus, minus}
use Rattle.ropey_tree.proofs.running_totals.append_moved.Given as goal

abbrev pub invariant-loop-end : goal.invariant-loop-end
invariant-loop-end l = l.ends.items ≡ l.fn.ends.items ++ map (λ total. plus l.sum (minus total l.before)) (take l.end-index l.others)
