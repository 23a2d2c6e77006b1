-- So many groups have no name yet.
use Rattle.std.proofs.Common.{◌≡◌, replicate, None}
use Rattle.rx_engine.proofs.groups.nameless.Given as goal

abbrev pub invariant-loop : goal.invariant-loop
invariant-loop l = l.names.items ≡ replicate l.counter None
