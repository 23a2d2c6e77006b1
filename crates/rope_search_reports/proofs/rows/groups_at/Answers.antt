use Rattle.std.proofs.Common.{◌≡◌, sym, subst}
use Rattle.std.specs.Prelude.{IfOk}
use Rattle.ropey.specs.Chunks.{text_of}
use Rattle.ropey.specs.Slices.{slice_text}
use Rattle.rope_search_reports.specs.Drafts.{HasOwnText}
use Rattle.rope_search_reports.specs.LineGroups.{TellsGroups}
use Rattle.rope_search_reports.specs.Position.{line_text}
use Rattle.rope_search_reports.proofs.PartLemmas.{line-is}
use Rattle.rope_search_reports.proofs.TextPlaces.{places}
use Rattle.rope_search_reports.proofs.rows.groups_at.Goals as goal

pub returns-clause-told : goal.returns-clause-told
returns-clause-told c =
    let own = line_text (text_of c.args.text.now) c.args.line_idx in
    let own_is : slice_text c.without_break.result ≡ own =
    c.without_break.ensures own (subst (λ ps. HasOwnText (text_of ps) own) (sym c.line.ensures) (line-is places c.args.text.now c.args.line_idx c.requires)) in
    subst (λ t. IfOk c.groups_at.result (λ told. TellsGroups c.args.finder.now t c.args.number told)) own_is c.groups_at.ensures.told
