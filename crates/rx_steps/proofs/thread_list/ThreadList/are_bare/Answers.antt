use Rattle.std.proofs.Common.{subst, ap, ◌∙◌}
use Rattle.rx_steps.specs.Alike.{AreBare}
use Rattle.rx_steps.proofs.ThreadLaws.{none_has_slots}
use Rattle.rx_steps.proofs.thread_list.ThreadList.are_bare.Goals as goal

pub returns : goal.returns
returns c = λ none.
    subst (λ v. AreBare v.threads) c.self.view_is
    (none_has_slots c.self.inside.slot_len c.self.inside.nodes.items c.self.inside.slots.items (ap (λ v. v.slot_len) c.self.view_is ∙ none))
