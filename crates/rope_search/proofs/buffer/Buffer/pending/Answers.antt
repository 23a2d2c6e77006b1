use Rattle.std.proofs.Common.{◌≡◌, ap, sym, subst, ◌∙◌, arith, length}
use Rattle.ropey.specs.Chunks.{text_of}
use Rattle.str_indices.specs.Text.{byte_len}
use Rattle.rope_search_reports.specs.Report.{match_count}
use Rattle.rope_search.specs.Histories.{text_at}
use Rattle.rope_search.specs.Searched.{HoldsPending}
use Rattle.rope_search.proofs.PendingLemmas.{first-few}
use Rattle.rope_search.proofs.buffer.Buffer.pending.Goals as goal

pub returns-in-Some-clause-few : goal.returns-in-Some-clause-few
returns-in-Some-clause-few c =
    let history = c.self.inside.history in
    let text = text_at history.texts history.current in
    let s = c.in-Some.pending in
    let holds = subst (HoldsPending text) c.in-Some.is c.self.invariant.1 in
    let few = first-few c.has_report.ensures c.few_matches.ensures c.one_list_of_matches.ensures text s.finder (length s.rows.items) s.rows.items holds.1
    (omega (arith, c.len_bytes.ensures.bytes, c.len_bytes.ensures.fits, ap byte_len c.current.ensures.text)) holds.2 in
    omega (arith, ap match_count c.as_slice.ensures.value, few)
