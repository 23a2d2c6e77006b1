use Rattle.std.proofs.Common.{◌≡◌, length}
use Rattle.rx_utf8.proofs.subsets.Maker.new.Given as goal

abbrev pub invariant-loop : goal.invariant-loop
invariant-loop l = length l.lists.items ≡ l.counter
