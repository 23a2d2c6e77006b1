use Rattle.rope_search.proofs.PayloadLemmas.{judged_payload}
use Rattle.rope_search.proofs.payloads.Collected.payload.Goals as goal

pub returns-in-Judged-clause-stands : goal.returns-in-Judged-clause-stands
returns-in-Judged-clause-stands c = λ limit bytes h. judged_payload limit bytes _ _ c.is_utf8.ensures (rw c.in-Judged.is at h)
