use Rattle.std.proofs.Common.{sym, subst}
use Rattle.ropey.specs.Chunks.{text_of}
use Rattle.rope_search_reports.specs.Drafts.{HasOwnText}
use Rattle.rope_search_reports.specs.Position.{line_text}
use Rattle.rope_search_reports.proofs.PartLemmas.{line-is}
use Rattle.rope_search_reports.proofs.TextPlaces.{places}
use Rattle.rope_search_reports.proofs.line_texts.line_text.Goals as goal

pub returns : goal.returns
returns c =
    let own = line_text (text_of c.args.text.now) c.args.line_idx in
    c.without_break.ensures own (subst (λ ps. HasOwnText (text_of ps) own) (sym c.line.ensures) (line-is places c.args.text.now c.args.line_idx c.requires))
