use Rattle.std.proofs.Common.{arith}
use Rattle.ropey.specs.Chunks.{text_of}
use Rattle.rope_search_reports.specs.Text.{IsText}
use Rattle.rope_search.proofs.PartLaws.{cutting_scalars}
use Rattle.rope_search.proofs.search.Search.follow.Goals as goal

pub returns-in_err-patches-clause-put : goal.returns-in_err-patches-clause-put
returns-in_err-patches-clause-put c =
    let new = text_of c.args.new.now in
    let is_text : IsText new = cutting_scalars c.args.new.now c.len_bytes.ensures.cut.cut in
    let lead = c.requires.led in
    omega (arith, c.patches.ensures.count lead.0 lead.1, c.changes_put_lines.ensures c.args.changes.now (text_of c.args.old.now) new lead.0 is_text lead.1)

pub returns-clause-put : goal.returns-clause-put
returns-clause-put c =
    let new = text_of c.args.new.now in
    let is_text : IsText new = cutting_scalars c.args.new.now c.len_bytes.ensures.cut.cut in
    let lead = c.requires.led in
    omega (arith, c.patches.ensures.count lead.0 lead.1, c.changes_put_lines.ensures c.args.changes.now (text_of c.args.old.now) new lead.0 is_text lead.1)
