use Rattle.rx_literals.specs.ByteSets.{HasNoMemberBetween}
use Rattle.rx_literals.proofs.byte_set.ByteSet.find_in.Given as goal

abbrev pub invariant-loop-index : goal.invariant-loop-index
invariant-loop-index l = HasNoMemberBetween l.self l.hay 0 l.index
