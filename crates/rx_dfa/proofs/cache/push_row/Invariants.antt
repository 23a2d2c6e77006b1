use Rattle.std.proofs.Common.{◌≡◌, ◌≤◌, ◌++◌, replicate}
use Rattle.rx_dfa.proofs.cache.push_row.Given as goal

-- this many entries were added
abbrev pub invariant-loop : goal.invariant-loop
invariant-loop l = record {
  entries : l.table.items ≡ l.fn.table.items ++ replicate l.counter 4294967295;
  within : l.counter ≤ l.width;
}
