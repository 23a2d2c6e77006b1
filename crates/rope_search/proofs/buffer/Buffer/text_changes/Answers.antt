use Rattle.std.proofs.Common.{length, ap, sym, ◌∙◌}
use Rattle.rope_search.specs.Session.{LimitedBuffer}
use Rattle.rope_search.proofs.TextChangeLemmas.{ranges-length}
use Rattle.rope_search.proofs.buffer.Buffer.text_changes.Goals as goal

pub returns-clause-count : goal.returns-clause-count
returns-clause-count c =
    let history = c.self.inside.history in
    ap length c.last-changes.ensures.changes ∙ sym (ranges-length history.is_back history.last) ∙ ap (λ (v : LimitedBuffer). length v.text_changes) c.self.view_is
