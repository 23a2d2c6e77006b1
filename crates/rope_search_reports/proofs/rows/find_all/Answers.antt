use Rattle.std.proofs.lemmas.Result.{IfOk-weaker}
use Rattle.ropey.specs.Chunks.{text_of}
use Rattle.rope_search_reports.specs.Text.{bytes_of}
use Rattle.rope_search_reports.specs.Matches.{AreFirstGroups, AreGroups}
use Rattle.rope_search_reports.proofs.FirstLemmas.{ten-are-all}
use Rattle.rope_search_reports.proofs.rows.find_all.Goals as goal

pub returns-clause-found : goal.returns-clause-found
returns-clause-found c =
    let pattern = c.args.finder.now in
    let content = bytes_of (text_of c.args.text.now) in
    IfOk-weaker c.groups_of.result (λ groups. AreFirstGroups 10 pattern content groups.items) (λ groups. AreGroups pattern content groups.items)
    (λ groups is. ten-are-all pattern content groups.items is) c.groups_of.ensures.found
