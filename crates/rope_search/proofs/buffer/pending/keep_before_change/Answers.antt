use Rattle.std.proofs.Common.{◌≡◌, length, ap, sym, subst, ◌∙◌, true}
use Rattle.std.proofs.lemmas.Grind.{common_steps}
use Rattle.std.proofs.Common.{arith}
use Rattle.std.specs.Prelude.{Some, option_map}
use Rattle.rope_search_reports.specs.Text.{IsText}
use Rattle.rope_search.specs.Histories.{text_at}
use Rattle.rope_search.specs.Pending.{AreFirstRows, done_before}
use Rattle.rope_search.specs.Searched.{HoldsPending, shown_pending}
use Rattle.rope_search.specs.Session.{PendingPattern}
use Rattle.rope_search.specs.TextChanges.{ranges_in}
use Rattle.rope_search.proofs.PartLaws.{cutting_scalars}
use Rattle.rope_search.proofs.PendingLemmas.{kept-long, kept-rows}
use Rattle.rope_search.proofs.buffer.pending.keep_before_change.Goals as goal

pub returns-clause-holds : goal.returns-clause-holds
returns-clause-holds c =
    let hist = c.args.history.now in
    let text = text_at hist.texts hist.current in
    let ranges = ranges_in hist.is_back hist.last in
    let s = c.in-Some.search in
    let is : c.args.pending.now ≡ Some s = sym c.take.ensures.value ∙ c.in-Some.is in
    let holds = subst (HoldsPending c.requires.0) is c.requires.2 in
    let scalars : IsText text = subst IsText c.current.ensures.text (cutting_scalars c.current.result.now c.len_bytes.ensures.cut.cut) in
    let long : c.len.result ≡ length s.rows.items = grind (arith, common_steps) in
    let rows = kept-rows c.edits_splice_lines.ensures c.places_are_in_lines.ensures c.requires.0 text s.finder ranges s.rows.items c.lines_kept-kept.result c.requires.1 scalars c.requires.3 holds.2
    (c.lines_kept-kept.ensures ∙ ap (done_before text ranges) long) in
    (holds.0, holds.1, subst (λ rs. AreFirstRows text s.finder (length rs) rs) (sym c.truncate.ensures.items) rows)

pub returns-clause-kept : goal.returns-clause-kept
returns-clause-kept c =
    let hist = c.args.history.now in
    let text = text_at hist.texts hist.current in
    let ranges = ranges_in hist.is_back hist.last in
    let s = c.in-Some.search in
    let is : c.args.pending.now ≡ Some s = sym c.take.ensures.value ∙ c.in-Some.is in
    let long : c.len.result ≡ length s.rows.items = grind (arith, common_steps) in
    let count : length c.truncate.new.self.items ≡ done_before text ranges (length s.rows.items) =
    ap length c.truncate.ensures.items ∙ kept-long text ranges s.rows.items c.lines_kept-kept.result (c.lines_kept-kept.ensures ∙ ap (done_before text ranges) long) in
    ap (λ n. Some (record { pattern = s.finder; done = n })) count
    ∙ sym (ap (λ o. option_map (λ (p : PendingPattern). record p { done = done_before text ranges p.done }) (shown_pending o)) is)
