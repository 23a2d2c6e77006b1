use Rattle.std.proofs.Common.{◌≡◌, true, length, sym, subst, ◌∙◌}
use Rattle.rx_steps.specs.Lists.{Asks}
use Rattle.rx_steps.proofs.AskedLaws.{none_asked}
use Rattle.rx_lists.specs.Bits.{has_bit}
use Rattle.rx_lists.specs.Arrivals.{TellEdges}
use Rattle.rx_lists.proofs.pass_back.PassBack.new.Goals as goal

pub returns-clause-ready : goal.returns-clause-ready
returns-clause-ready c = record {
  order_is = c.in_ok-all_nodes.ensures;
  index_is = c.in_ok-new.ensures.widths;
  arrivals = subst (λ states. TellEdges states (length states) c.in_ok-new-2.field-0) c.states.ensures.states c.in_ok-new-2.ensures;
  looks = λ none l. subst (λ states. Asks states l → ⊥) c.states-2.ensures.states (none_asked _ _ c.of.ensures.any none l);
  told = λ none. c.new-4.ensures.told c.args.program.now;
  numbered = tt;
  here_are = c.in_ok-new-3.ensures.widths;
  beyond_are = c.in_ok-new-4.ensures.widths;
}

pub returns-clause-empty : goal.returns-clause-empty
returns-clause-empty c = λ q has. absurd (cc (sym (subst (λ words. has_bit words has.0 ≡ true) c.in_ok-shared.ensures has.2) ∙ c.in_ok-none.ensures.none has.0))
