use Rattle.std.proofs.Common.{◌≡◌, Err, ap}
use Rattle.rope_search_io.specs.Faults.{rank_of}
use Rattle.rope_search_c.proofs.EditLemmas.{refused-edits}
use Rattle.rope_search_c.proofs.counting.CountingSession.edit_all.Goals as goal

pub returns-in-Err : goal.returns-in-Err
returns-in-Err c =
    let told : c.from.result ≡ rank_of c.in-Err.fault = cc in
    refused-edits c.args.self.now c.args.edits.now c.args.text.now c.in-Err.fault c.from.result c.in-Err.ensures.fault (λ range. c.in-Err.ensures.range (ap Err range)) told
