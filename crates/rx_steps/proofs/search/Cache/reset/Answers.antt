use Rattle.std.proofs.Common.{subst}
use Rattle.rx_steps.specs.Lists.{Asks}
use Rattle.rx_steps.proofs.AskedLaws.{none_asked}
use Rattle.rx_steps.proofs.search.Cache.reset.Goals as goal

pub returns-clause-made : goal.returns-clause-made
returns-clause-made c = record {
  widths_are = c.in_ok-self-inside.ensures.made;
  looks = λ none l. subst (λ states. Asks states l → ⊥) c.states.ensures.states (none_asked _ _ c.of.ensures.any none l);
  are_idle = λ b known. absurd (c.new-self-inside.ensures b known);
}
