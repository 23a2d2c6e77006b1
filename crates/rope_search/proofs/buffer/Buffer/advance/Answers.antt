use Rattle.std.proofs.Common.{◌≡◌, ◌^◌, ◌<◌, ◌≤◌, length, ap, sym, subst, arith}
use Rattle.std.specs.Prelude.{IfSome}
use Rattle.ropey.specs.Chunks.{text_of}
use Rattle.str_indices.specs.Text.{byte_len}
use Rattle.rope_search_reports.specs.Report.{IsReport, match_count}
use Rattle.rope_search_reports.specs.Text.{line_count}
use Rattle.rope_search.specs.declared.search.Search.{Search}
use Rattle.rope_search.specs.Histories.{text_at}
use Rattle.rope_search.specs.Pending.{AreFirstRows}
use Rattle.rope_search.specs.Searched.{HoldsPending}
use Rattle.rope_search.proofs.PendingLemmas.{rows-all}
use Rattle.rope_search.proofs.buffer.Buffer.advance.Goals as goal

pub invariant_of-self-2 : goal.invariant_of-self-2
invariant_of-self-2 c =
    let history = c.self.inside.history in
    let text = text_at history.texts history.current in
    let s = c.search_further.new.self in
    let told = c.in_ok-search_further.ensures in
    let there : text_of c.current-text.result.now ≡ text = c.current-text.ensures.text in
    let own : AreFirstRows text s.finder (length s.rows.items) s.rows.items =
    subst (λ f. AreFirstRows text f (length s.rows.items) s.rows.items) (sym told.finder)
    (subst (λ t. AreFirstRows t c.in-Some.pending.finder (length s.rows.items) s.rows.items) there told.rows) in
    let all : line_count text ≤ length s.rows.items = omega (arith, c.if-len-len_lines.false, c.len.ensures, c.len_lines.ensures, ap line_count there) in
    let report = rows-all text s.finder s.rows.items own all in
    let few : match_count s.rows.items < 2 ^ 64 =
    omega (arith, c.few_matches.ensures text s.finder s.rows.items report, c.len_bytes.ensures.bytes, c.len_bytes.ensures.fits, ap byte_len there) in (
      subst (λ o. IfSome o (λ (x : Search). IsReport text x.finder x.rows.items × (match_count x.rows.items < 2 ^ 64))) (sym c.take.ensures.value) (report, few),
      subst (HoldsPending text) (sym c.take.ensures.after) tt,
      λ own made set is. absurd cc,
    )
