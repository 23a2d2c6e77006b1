use Rattle.std.proofs.Common.{map, subst, sym}
use Rattle.rx_program.specs.Programs.{character_program, node_of}
use Rattle.rx_literals.specs.Endings.{MarksAreClosed, MayCome}
use Rattle.rx_literals.proofs.EndingLaws.{closed_ends}
use Rattle.rx_literals.proofs.ending.ends_with_slice.Goals as goal

pub returns-in-Closed : goal.returns-in-Closed
returns-in-Closed g c = λ is_word.
    let p = g.args.program.now in
    closed_ends (character_program p) g.go_through.new.marks
    (subst (λ states. MarksAreClosed (map node_of states) g.go_through.new.marks) g.states-states.ensures.states (g.go_through.ensures.closed g.in-Closed.is))
    (g.go_through.ensures.grows p.start (subst (λ marks. MayCome marks p.start) (sym g.deref_mut-in-loop.ensures.value) g.loop.invariant)) is_word
