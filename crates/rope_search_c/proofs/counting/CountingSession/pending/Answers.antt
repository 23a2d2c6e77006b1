use Rattle.std.proofs.Common.{◌≡◌, ◌^◌, ◌<◌, length, refl, ap, sym, subst, ◌∙◌, arith}
use Rattle.std.specs.Prelude.{IfSome, None, Some}
use Rattle.rope_search_reports.specs.Report.{match_count}
use Rattle.rope_search.specs.Pending.{ArePendingRows}
use Rattle.rope_search.specs.Session.{LimitedBuffer, PendingPattern}
use Rattle.rope_search_c.specs.Pending.{pending_in}
use Rattle.rope_search_c.proofs.PendingLemmas.{at-none, at-some}
use Rattle.rope_search_c.proofs.SpanLemmas.{count_between}
use Rattle.rope_search_c.proofs.counting.CountingSession.pending.Goals as goal

pub returns-in-None : goal.returns-in-None
returns-in-None c =
    let kept : c.buffer.result.now.pending ≡ pending_in c.args.self.now = ap (λ (b : LimitedBuffer). b.pending) c.buffer.ensures.kept in
    let none : pending_in c.args.self.now ≡ None = sym kept ∙ c.pending.ensures.none.0 c.in-None.is in
    at-none (pending_in c.args.self.now) _ _ none (refl, refl)

pub returns-in-Some : goal.returns-in-Some
returns-in-Some c =
    let kept : c.buffer.result.now.pending ≡ pending_in c.args.self.now = ap (λ (b : LimitedBuffer). b.pending) c.buffer.ensures.kept in
    at-some (pending_in c.args.self.now) _ _
    (λ none. let e = c.pending.ensures.none.1 (kept ∙ none) in let is = c.in-Some.is in absurd cc)
    (λ pending is. (
      refl,
      subst (λ o. IfSome o (λ rows. length rows.now ≡ pending.done)) c.in-Some.is
          (subst (λ o. IfSome o (λ (p : PendingPattern). IfSome c.pending.result (λ rows. length rows.now ≡ p.done))) (kept ∙ is) c.pending.ensures.done),
    ))
