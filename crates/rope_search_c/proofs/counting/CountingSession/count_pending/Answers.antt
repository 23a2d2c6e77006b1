use Rattle.std.proofs.Common.{◌≡◌, ◌^◌, ◌<◌, length, refl, ap, sym, subst, ◌∙◌, arith}
use Rattle.std.specs.Prelude.{IfSome, None, Some}
use Rattle.rope_search_reports.specs.Report.{match_count}
use Rattle.rope_search.specs.Pending.{ArePendingRows}
use Rattle.rope_search.specs.Session.{LimitedBuffer, PendingPattern}
use Rattle.rope_search_c.specs.Pending.{pending_in}
use Rattle.rope_search_c.proofs.PendingLemmas.{at-none, at-some}
use Rattle.rope_search_c.proofs.SpanLemmas.{count_between}
use Rattle.rope_search_c.proofs.counting.CountingSession.count_pending.Goals as goal

pub returns-in_default : goal.returns-in_default
returns-in_default c =
    let kept : c.buffer.result.now.pending ≡ pending_in c.args.self.now = ap (λ (b : LimitedBuffer). b.pending) c.buffer.ensures.kept in
    let none : pending_in c.args.self.now ≡ None = sym kept ∙ c.pending.ensures.none.0 c.in_default.is in
    at-none (pending_in c.args.self.now) _ _ none (refl, refl)

pub count_matches-requires : goal.count_matches-requires
count_matches-requires c =
    let few = subst (λ o. IfSome o (λ rows. match_count rows.now < 2 ^ 64)) c.in-Some.is c.pending.ensures.few in
    omega (arith, few, count_between c.args.from c.args.to c.in-Some.rows.now, ap match_count c.rows_between.ensures)

pub returns : goal.returns
returns c =
    let kept : c.buffer.result.now.pending ≡ pending_in c.args.self.now = ap (λ (b : LimitedBuffer). b.pending) c.buffer.ensures.kept in
    at-some (pending_in c.args.self.now) _ _
    (λ none. let e = c.pending.ensures.none.1 (kept ∙ none) in let is = c.in-Some.is in absurd cc)
    (λ pending is. (
      c.in-Some.rows.now,
      subst (λ b. ArePendingRows b c.in-Some.rows.now) c.buffer.ensures.kept
          (subst (λ o. IfSome o (λ rows. ArePendingRows c.buffer.result.now rows.now)) c.in-Some.is c.pending.ensures.rows),
      refl,
      c.count_matches.ensures ∙ ap match_count c.rows_between.ensures,
    ))
