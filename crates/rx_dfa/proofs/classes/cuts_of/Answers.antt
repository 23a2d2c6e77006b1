use Rattle.std.proofs.Common.{All, subst, sym, ap, ◌∙◌, get_or, length, arith}
use Rattle.rx_dfa.specs.Classes.{StateIsCut}
use Rattle.rx_dfa.proofs.ClassLaws.{states_more, looks_stay, take_all}
use Rattle.rx_dfa.proofs.classes.cuts_of.Goals as goal

pub loop-state-preserved : goal.loop-state-preserved
loop-state-preserved c =
    let same = c.states-state-items.ensures.states in
    record {
      looks = looks_stay c.args.asked c.args.program.now.line_terminator c.loop-state.cuts c.cut_state.new.cuts c.cut_state.ensures.more c.loop-state.invariant.looks;
      cut = states_more c.loop-state.cuts c.cut_state.new.cuts c.args.program.now.states c.loop-state.state-index c.state-item.result c.state-item.result
          (omega (arith, c.loop-state-test.true, ap length same)) c.cut_state.ensures.more c.loop-state.invariant.cut
          (sym (c.state-item.is ∙ ap (λ xs. get_or xs c.loop-state.state-index c.state-item.result) same)) c.cut_state.ensures.cut;
    }

pub returns-clause-states : goal.returns-clause-states
returns-clause-states c = subst (λ xs. All (StateIsCut c.loop-state.cuts) xs) (take_all c.args.program.now.states c.loop-state.state-index (omega (arith, c.loop-state-test.false, ap length c.states-state-items.ensures.states))) c.loop-state.invariant.cut
