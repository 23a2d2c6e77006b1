use Rattle.std.proofs.Common.{◌≡◌, Contains}
use Rattle.rx_lists.specs.Leading.{IsRound}
use Rattle.rx_lists.proofs.leading.mark_all.Given as goal
use Rattle.std.specs.Prelude.{take}

-- the nodes up to this one were checked
abbrev pub invariant-loop-node : goal.invariant-loop-node
invariant-loop-node l = record {
  round : IsRound l.program l.place (λ q. Contains (take l.node-index l.nodes) q) l.beyond.nodes l.fn.here.nodes l.here.nodes;
  widths : l.here.widths ≡ l.fn.here.widths;
}
