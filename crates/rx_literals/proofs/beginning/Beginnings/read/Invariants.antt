use Rattle.std.proofs.Common.{◌≡◌, ◌++◌, take, string_bytes}
use Rattle.rx_literals.specs.Ways.{readings}
use Rattle.rx_literals.proofs.beginning.Beginnings.read.Given as goal

abbrev pub invariant-loop-c : goal.invariant-loop-c
invariant-loop-c l = l.self.list.items ≡ l.fn.self.list.items ++ readings (string_bytes l.literal) (take l.c-index l.characters) l.next
