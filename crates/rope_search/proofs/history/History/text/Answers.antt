use Rattle.std.proofs.Common.{◌<◌, [], length, ap, sym, subst, ◌∙◌, arith}
use Rattle.std.proofs.lemmas.List.{length-map}
use Rattle.rope_search_reports.specs.Text.{IsText}
use Rattle.rope_search_reports.proofs.PlaceLemmas.{rope-scalars}
use Rattle.rope_search.specs.Histories.{Texts, text_at}
use Rattle.rope_search.proofs.HistoryLemmas.{text_in}
use Rattle.rope_search.proofs.UndoStepLemmas.{seen_at}
use Rattle.rope_search.proofs.history.History.text.Goals as goal

pub returns-clause-scalars : goal.returns-clause-scalars
returns-clause-scalars c =
    let items = c.self.inside.versions.items in
    let inside : c.args.number < length items = omega (arith, c.requires, ap (λ (t : Texts). length t.texts) c.self.view_is, length-map items text_in) in
    let here = ap text_in c.index.ensures ∙ sym (seen_at text_in items c.args.number c.index.result.now [] inside) in
    subst (λ (t : Texts). IsText (text_at t.texts c.args.number)) c.self.view_is (subst IsText here (rope-scalars c.index.result.now.text c.len_bytes.ensures.cut.cut))
