use Rattle.rope_search_texts.proofs.GrowingLemmas.{judged_text, judged_none}
use Rattle.rope_search_texts.proofs.arriving.ArrivingText.finish.Goals as goal

pub returns-then-is_utf8-clause-finishes : goal.returns-then-is_utf8-clause-finishes
returns-then-is_utf8-clause-finishes c = λ limit bytes arrives. judged_text limit bytes _ c.is_utf8.result (rw c.in-Judged.is at arrives) c.is_utf8.ensures c.if-is_utf8.true

pub returns-else-is_utf8-clause-finishes : goal.returns-else-is_utf8-clause-finishes
returns-else-is_utf8-clause-finishes c = λ limit bytes arrives. judged_none limit bytes _ c.is_utf8.result (rw c.in-Judged.is at arrives) c.is_utf8.ensures c.if-is_utf8.false

pub returns-then-is_utf8-clause-within : goal.returns-then-is_utf8-clause-within
returns-then-is_utf8-clause-within c = λ limit bytes arrives. judged_text limit bytes _ c.is_utf8.result (rw c.in-Judged.is at arrives) c.is_utf8.ensures c.if-is_utf8.true

pub returns-else-is_utf8-clause-within : goal.returns-else-is_utf8-clause-within
returns-else-is_utf8-clause-within c = λ limit bytes arrives. judged_none limit bytes _ c.is_utf8.result (rw c.in-Judged.is at arrives) c.is_utf8.ensures c.if-is_utf8.false
