use Rattle.std.proofs.Common.{◌≡◌, ◌^◌, ◌<◌, refl, ap, sym, subst, ◌∙◌, arith}
use Rattle.std.specs.Prelude.{IfSome, None, Some}
use Rattle.ropey.specs.Chunks.{text_of}
use Rattle.rope_search_reports.specs.Text.{line_count}
use Rattle.rope_search.specs.Pending.{ArePendingRows}
use Rattle.rope_search.specs.Session.{LimitedBuffer, chosen_in, current_text}
use Rattle.rope_search_c.specs.Pending.{pending_in}
use Rattle.rope_search_c.proofs.PendingLemmas.{lines-fit}
use Rattle.rope_search_c.proofs.counting.CountingSession.window.Goals as goal

pub put_window-requires-clause-lines : goal.put_window-requires-clause-lines
put_window-requires-clause-lines c =
    let old = c.args.self.now in
    let one : c.buffer.result.now ≡ chosen_in old.session = c.buffer.ensures.kept ∙ ap chosen_in c.window.ensures.same in
    let are : ArePendingRows (chosen_in old.session) c.in-Some.rows.now =
    subst (λ b. ArePendingRows b c.in-Some.rows.now) one (subst (λ o. IfSome o (λ rows. ArePendingRows c.buffer.result.now rows.now)) c.in-Some.is c.pending.ensures.rows) in
    let some : pending_in old ≡ None → ⊥ = λ none. let e = c.window.ensures.nothing.1 none in let is = c.in-Ok.is in absurd cc in
    let text : current_text (chosen_in old.session).state ≡ text_of c.text.result.now =
    ap (λ (b : LimitedBuffer). current_text b.state) (sym one) ∙ ap current_text c.buffer.ensures.state ∙ sym c.text.ensures in
    let lines : line_count (current_text (chosen_in old.session).state) < 2 ^ 64 =
    subst (λ t. line_count t < 2 ^ 64) (sym text) (omega (arith, c.len_lines.ensures, c.len_lines.type_inv)) in
    rw (c.rows_between.ensures, c.deref.ensures.value)
    (lines-fit old c.args.from c.args.to c.in-Some.rows.now c.in-Ok.made.items are c.in-Ok.ensures.rows some lines (omega (arith, c.ranges.from.fits)))
