use Rattle.std.proofs.Common.{subst}
use Rattle.rope_search.specs.Histories.{Texts, LeadOn}
use Rattle.rope_search.proofs.history.History.current.Goals as goal

pub returns-clause-led : goal.returns-clause-led
returns-clause-led c = subst (λ (t : Texts). LeadOn t.texts t.changes) c.self.view_is c.self.invariant.1
