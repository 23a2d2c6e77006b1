use Rattle.std.proofs.Common.{subst}
use Rattle.rx_steps.specs.Lists.{Asks}
use Rattle.rx_steps.proofs.AskedLaws.{none_asked}
use Rattle.rx_onepass.proofs.search.Cache.new.Goals as goal

pub returns-clause-made : goal.returns-clause-made
returns-clause-made c = record {
  widths_are = c.in_ok-new.ensures.made;
  looks = λ none l. subst (λ states. Asks states l → ⊥) c.states.ensures.states (none_asked _ _ c.of.ensures.any none l);
  are_edges = c.new-2.ensures _ 0;
}
