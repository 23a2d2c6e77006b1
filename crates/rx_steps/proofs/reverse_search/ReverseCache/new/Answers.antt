use Rattle.std.proofs.Common.{map, subst}
use Rattle.rx_steps.specs.Lists.{Asks}
use Rattle.rx_steps.specs.Reversed.{state_of}
use Rattle.rx_steps.proofs.AskedLaws.{none_asked}
use Rattle.rx_steps.proofs.reverse_search.ReverseCache.new.Goals as goal

pub returns-clause-made : goal.returns-clause-made
returns-clause-made c = record {
  widths_are = c.in_ok-new_back.ensures.made;
  looks = λ none l. subst (λ states. Asks (map state_of states) l → ⊥) c.states.ensures.states (none_asked _ _ c.of_back.ensures.any none l);
}
