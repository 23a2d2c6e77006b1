use Rattle.std.proofs.Common.{◌≡◌, List, ℕ, Bor, refl, sym, ap, subst, ◌∙◌, Ok}
use Rattle.rope_search.specs.declared.commands.Reply.TheVariants.{List as Listing}
use Rattle.rope_search.specs.Session.{IsReportIn, chosen_buffer}
use Rattle.rope_search.proofs.ReplyLemmas.{listed_or, IsShown-list}
use Rattle.rope_search.proofs.replies.write_answer.Goals as goal

pub returns-in-Ok-List-clause-written : goal.returns-in-Ok-List-clause-written
returns-in-Ok-List-clause-written g c =
    let told = listed_or c.buffer.result.now.state c.report.result _ c.report.ensures.rows c.report.ensures.none.0 refl in
    let same = ap (λ (r : Bor (List (List (ℕ × ℕ)))). r.now) (sym c.unwrap_or-rows.ensures) in
    let rows : IsReportIn c.buffer.result.now.state c.unwrap_or-rows.result.now = subst (IsReportIn c.buffer.result.now.state) same told in
    let here : IsReportIn (chosen_buffer c.args.session.now.state) c.unwrap_or-rows.result.now =
    subst (λ b. IsReportIn b c.unwrap_or-rows.result.now) c.buffer.ensures.state rows in
    let list : c.in-Ok-List.field-0 ≡ Listing = rw c.in-Ok-List.is at c.in-Ok-List.field-0-is in
    let answer : c.args.answer ≡ Ok Listing = c.in-Ok-List.is ∙ ap Ok list in
    rw answer (IsShown-list c.args.session.now.state c.unwrap_or-rows.result.now _ _ _ here c.write_report.ensures.written)
