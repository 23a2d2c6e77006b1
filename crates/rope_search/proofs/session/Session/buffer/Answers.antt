use Rattle.std.proofs.Common.{ap, subst}
use Rattle.std.proofs.lemmas.List.Elements.{All-map}
use Rattle.rope_search.specs.Session.{LimitedBuffer, LimitedSession}
use Rattle.rope_search.specs.Laws.{HoldsTexts, AllHoldTexts}
use Rattle.rope_search.proofs.session.Session.buffer.Goals as goal

pub returns-clause-texts : goal.returns-clause-texts
returns-clause-texts c =
    let all = All-map HoldsTexts (λ (b : LimitedBuffer). b.state) c.self.inside.buffers.items c.self.invariant.1.1 in
    subst AllHoldTexts (ap (λ (s : LimitedSession). s.state) c.self.view_is) all
