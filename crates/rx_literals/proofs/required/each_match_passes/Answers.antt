use Rattle.std.proofs.Common.{map, subst, sym}
use Rattle.rx_program.specs.Programs.{character_program, node_of}
use Rattle.rx_literals.specs.Endings.{MayCome}
use Rattle.rx_literals.specs.Requirements.{MarksStopAt}
use Rattle.rx_literals.proofs.RequirementLaws.{closed_passes}
use Rattle.rx_literals.proofs.required.each_match_passes.Goals as goal

pub returns-in-Closed : goal.returns-in-Closed
returns-in-Closed g c = λ is_word.
    let p = g.args.program.now in
    closed_passes (character_program p) g.args.stop g.go_through_but.new.marks
    (subst (λ states. MarksStopAt (map node_of states) g.args.stop g.go_through_but.new.marks) g.states-states.ensures.states (g.go_through_but.ensures.closed g.in-Closed.is))
    (g.go_through_but.ensures.grows p.start (subst (λ marks. MayCome marks p.start) (sym g.deref_mut-in-loop.ensures.value) g.loop.invariant)) is_word
