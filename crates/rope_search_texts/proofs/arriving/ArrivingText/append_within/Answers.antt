use Rattle.std.proofs.Common.{arith}
use Rattle.rope_search_texts.proofs.GrowingLemmas.{goes_over, stays_over, stays_refused, stays_within}
use Rattle.rope_search_texts.proofs.arriving.ArrivingText.append_within.Goals as goal

pub returns-then-bytes-saturating_sub : goal.returns-then-bytes-saturating_sub
returns-then-bytes-saturating_sub c =
    rw c.in-Growing.is (goes_over c.args.limit _ _ _ c.args.bytes.now (omega (arith, c.len.ensures, c.saturating_sub.ensures, c.if-bytes-saturating_sub.true)) c.judge-judge.ensures c.feed.ensures)

pub returns-else-bytes-saturating_sub : goal.returns-else-bytes-saturating_sub
returns-else-bytes-saturating_sub c =
    rw c.in-Growing.is (stays_within c.args.limit _ _ c.args.bytes.now (omega (arith, c.len.ensures, c.saturating_sub.ensures, c.if-bytes-saturating_sub.false)) c.append.ensures)

pub returns-in-Judged : goal.returns-in-Judged
returns-in-Judged c = rw c.in-Judged.is (stays_over c.args.limit _ _ _ (rw c.in-Judged.is at c.append-in-Judged.ensures))
