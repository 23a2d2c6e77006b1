use Rattle.std.proofs.Common.{◌≡◌, ◌+◌, ◌≤◌, All, length, drop}
use Rattle.rx_steps.specs.Nodes.{widths_of, node_count}
use Rattle.rx_steps.specs.Threads.{IsThreadOf}
use Rattle.rx_steps.specs.ListsAll.{nodes_of}
use Rattle.rx_steps.specs.Reversed.{byte_program_of}
use Rattle.rx_steps.proofs.BackStepLaws.{BackWay}
use Rattle.rx_steps.proofs.stepper.Stepper.next_list_back.Given as goal

-- the step is under way with the threads that are left
abbrev pub invariant-loop-index : goal.invariant-loop-index
invariant-loop-index l = record {
  way : BackWay (byte_program_of l.program) l.place (nodes_of l.threads.threads) l.self-inside.closure.visited.ids (drop l.index (nodes_of l.threads.threads)) l.next.threads l.best;
  threads : All (IsThreadOf (byte_program_of l.program).states) l.next.threads;
  widths : l.self-inside.closure.visited.widths ≡ widths_of (byte_program_of l.program);
  slot_len : l.next.slot_len ≡ 0;
  counted : l.self-inside.closure.visited.followed ≡ l.fn.self.followed + length l.self-inside.closure.visited.ids;
  room : length l.self-inside.closure.visited.ids ≤ node_count (byte_program_of l.program);
}
