use Rattle.std.proofs.Common.{◌++◌, List, ap, subst, ◌∙◌}
use Rattle.rx_dfa.specs.Automata.{directed}
use Rattle.rx_dfa.specs.Directions.{IsList}
use Rattle.rx_dfa.specs.States.{started, start_at}
use Rattle.rx_steps.specs.Threads.{Thread}
use Rattle.rx_dfa.proofs.maker.Maker.next_state.Goals as goal

pub returns-clause-step : goal.returns-clause-step
returns-clause-step c =
    let p = directed c.args.automaton.now in
    let x = c.args.state.now in
    let ahead = c.args.ahead.now in
    let next = c.step.new.self.next.threads in
    let ended = c.in_ok-ended.ended in
    let slots = c.step.new.self.stepper.slots in
    let from = c.in_ok-begin.ensures.from ∙ ap (λ o. x.threads.threads ++ started o) c.at-start.ensures in
    record {
      next = next;
      slots = slots;
      list = subst (λ here. IsList p.is_back p.bytes here (x.threads.threads ++ started (start_at x.starting ahead.may_begin)) next ended slots) c.place_of-place.ensures
          (subst (λ (threads : List Thread). IsList p.is_back p.bytes c.place_of-place.result threads next ended slots) from c.in_ok-ended.ensures.list);
      thins = c.in_ok-thin.ensures.thin;
      starting = c.after.ensures;
      behind = c.side.ensures.side;
    }
