use Rattle.std.proofs.Common.{◌≡◌, ◌≤◌, ◌++◌}
use Rattle.rx_steps.specs.Threads.{no_slots}
use Rattle.rx_steps.proofs.thread_list.push_fresh_parts.Given as goal

-- this many slots were added
abbrev pub invariant-loop : goal.invariant-loop
invariant-loop l = record {
  slots : l.slots.items ≡ l.fn.slots.items ++ no_slots l.counter;
  nodes : l.nodes.items ≡ l.fn.nodes.items;
  within : l.counter ≤ l.slot_len;
}
