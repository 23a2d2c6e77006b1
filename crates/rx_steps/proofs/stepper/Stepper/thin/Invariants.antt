use Rattle.std.proofs.Common.{◌≡◌, ◌+◌, ◌≤◌, All, List, length, drop}
use Rattle.rx_program.specs.declared.states.State.{State}
use Rattle.rx_steps.specs.Threads.{IsThreadOf}
use Rattle.rx_steps.specs.Lists.{IsThinning}
use Rattle.rx_steps.proofs.stepper.Stepper.thin.Given as goal

-- the remaining threads are still to be checked
abbrev pub invariant-loop-index : goal.invariant-loop-index
invariant-loop-index l = record {
  way : IsThinning l.threads.threads l.closure.visited.widths l.closure.visited.ids (drop l.index l.threads.threads) l.thin.threads;
  threads : (states : List State) → All (IsThreadOf states) l.threads.threads → All (IsThreadOf states) l.thin.threads;
  widths : l.closure.visited.widths ≡ l.fn.self.widths;
  slot_len : l.thin.slot_len ≡ l.threads.slot_len;
  counted : l.closure.visited.followed ≡ l.fn.self.followed + length l.closure.visited.ids;
  few : length l.closure.visited.ids ≤ l.index;
}
