use Rattle.std.proofs.Common.{subst}
use Rattle.rope_search.specs.Session.{LimitedBuffer}
use Rattle.rope_search.specs.Histories.{LeadOn}
use Rattle.rope_search.proofs.buffer.Buffer.text.Goals as goal

pub returns-clause-led : goal.returns-clause-led
returns-clause-led c = subst (λ (b : LimitedBuffer). LeadOn b.state.texts b.changes) c.self.view_is c.current.ensures.led
