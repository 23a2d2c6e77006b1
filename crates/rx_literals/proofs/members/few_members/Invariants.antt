use Rattle.std.proofs.Common.{take}
use Rattle.rx_literals.specs.Ways.{HasMembers}
use Rattle.rx_literals.proofs.members.few_members.Given as goal

abbrev pub invariant-loop-range : goal.invariant-loop-range
invariant-loop-range l = HasMembers (take l.range-index l.ranges) l.members.items
