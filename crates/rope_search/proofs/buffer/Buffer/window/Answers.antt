use Rattle.std.proofs.Common.{◌≡◌, ap, sym, subst, ◌∙◌, arith, length, ◌++◌, take, drop, ◌-◌}
use Rattle.std.specs.Prelude.{Option, Some}
use Rattle.ropey.specs.Chunks.{text_of}
use Rattle.str_indices.specs.Text.{byte_len}
use Rattle.rope_search_reports.specs.Report.{match_count}
use Rattle.rope_search.specs.declared.search.Search.{Search}
use Rattle.rope_search.specs.Pending.{AreFirstRows}
use Rattle.rope_search.specs.Searched.{HoldsPending, shown_pending}
use Rattle.rope_search.specs.Session.{LimitedBuffer, PendingPattern, current_text}
use Rattle.rope_search.proofs.PendingLemmas.{window-completed, window-few, window-told}
use Rattle.rope_search.proofs.buffer.Buffer.window.Goals as goal

pub returns-clause-rows : goal.returns-clause-rows
returns-clause-rows c =
    let s = c.in-Some.pending in
    let text = text_of c.current-text.result.now in
    let there : text ≡ current_text c.args.self.now.state = c.current-text.ensures.text ∙ ap (λ (v : LimitedBuffer). current_text v.state) c.self.view_is in
    let shown : shown_pending (Some s) ≡ c.args.self.now.pending = ap shown_pending (sym c.in-Some.is) ∙ ap (λ (v : LimitedBuffer). v.pending) c.self.view_is in
    let holds = subst (λ t. HoldsPending t (Some s)) (sym c.current-text.ensures.text) (subst (HoldsPending _) c.in-Some.is c.self.invariant.1) in
    window-completed c.one_list_of_matches.ensures c.args.self.now s text c.in_ok-rows.rows.items c.args.from c.args.to there shown holds.2 c.in_ok-rows.ensures.rows

pub returns-clause-few : goal.returns-clause-few
returns-clause-few c = λ rows are.
    let s = c.in-Some.pending in
    let made = c.in_ok-rows.rows.items in
    let text = text_of c.current-text.result.now in
    let there : text ≡ current_text c.args.self.now.state = c.current-text.ensures.text ∙ ap (λ (v : LimitedBuffer). current_text v.state) c.self.view_is in
    let shown : shown_pending (Some s) ≡ c.args.self.now.pending = ap shown_pending (sym c.in-Some.is) ∙ ap (λ (v : LimitedBuffer). v.pending) c.self.view_is in
    let holds = subst (λ t. HoldsPending t (Some s)) (sym c.current-text.ensures.text) (subst (HoldsPending _) c.in-Some.is c.self.invariant.1) in
    let mine : PendingPattern = record { pattern = s.finder; done = length s.rows.items } in
    let both = window-told c.one_list_of_matches.ensures c.args.self.now s text made c.args.from c.args.to there shown holds.2 c.in_ok-rows.ensures.rows mine rows (sym shown) are in
    let few = window-few c.has_report.ensures c.few_matches.ensures c.one_list_of_matches.ensures text s.finder (take (c.args.to - c.args.from) (drop c.args.from s.rows.items) ++ made) c.args.from c.args.to holds.1
    (omega (arith, c.len_bytes.ensures.bytes, c.len_bytes.ensures.fits)) c.in_ok-rows.ensures.rows in
    omega (arith, few, ap (λ rs. match_count (take (c.args.to - c.args.from) (drop c.args.from rs) ++ made)) both.1)
