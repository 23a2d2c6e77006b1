use Rattle.std.proofs.Common.{map, subst, sym}
use Rattle.rx_program.specs.Programs.{character_program, node_of}
use Rattle.rx_literals.specs.ByteSets.{MarksBegin}
use Rattle.rx_literals.specs.Endings.{MayCome}
use Rattle.rx_literals.proofs.ByteSetLaws.{closed_begin}
use Rattle.rx_literals.proofs.byte_set.ByteSet.of.Goals as goal

pub returns-in-Closed : goal.returns-in-Closed
returns-in-Closed c =
    let p = c.args.program.now in
    closed_begin (character_program p) c.go_through.new.members c.go_through.new.marks
    (subst (λ states. MarksBegin (map node_of states) c.go_through.new.members c.go_through.new.marks) c.states-states.ensures.states (c.go_through.ensures.closed c.in-Closed.is))
    (c.go_through.ensures.grows p.start (subst (λ marks. MayCome marks p.start) (sym c.deref_mut-in-loop.ensures.value) c.loop.invariant))
