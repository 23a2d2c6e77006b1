use Rattle.rx_utf8.proofs.TargetLaws.{row_in}
use Rattle.rx_utf8.proofs.reverse_automaton.ReverseAutomaton.step.Goals as goal

pub look_up-requires : goal.look_up-requires
look_up-requires c =
    row_in c.self.inside.rows.items c.deref.result.now c.args.state c.in-Some.row.now c.deref-in-Some.result.now
    c.deref.ensures.value c.in-Some.ensures.lookup.3.0 c.in-Some.ensures.lookup.1 c.deref-in-Some.ensures.value c.self.invariant.disjoint
