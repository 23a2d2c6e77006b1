use Rattle.std.proofs.Common.{ap}
use Rattle.ropey.specs.Chunks.{text_of}
use Rattle.rope_search.specs.Session.{LimitedBuffer}
use Rattle.rope_search.proofs.ChangedLemmas.{replaces-off}
use Rattle.rope_search.proofs.buffer.Buffer.off.Goals as goal

pub returns-clause-changed : goal.returns-clause-changed
returns-clause-changed c =
    let history = c.self.inside.history in
    replaces-off c.a_row_a_line.ensures history.texts history.current c.self.inside.search c.args.self.now.state (text_of c.current.result.now) c.row_count.result c.whole-self-inside.result
    (ap (λ (v : LimitedBuffer). v.state) c.self.view_is) c.current.ensures.text c.row_count.ensures c.whole-self-inside.ensures
