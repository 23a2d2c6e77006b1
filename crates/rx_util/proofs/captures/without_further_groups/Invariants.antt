use Rattle.std.proofs.Common.{◌≡◌, ◌≤◌, [], replicate}
use Rattle.rx_util.specs.Groups.{named_groups}
use Rattle.rx_util.proofs.captures.without_further_groups.Given as goal

abbrev pub invariant-loop : goal.invariant-loop
invariant-loop l = record {
  names : named_groups l.names.items ≡ replicate l.counter [];
  within : l.counter ≤ l.count;
}
