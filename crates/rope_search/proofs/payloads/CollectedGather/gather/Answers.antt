use Rattle.rope_search.proofs.PayloadLemmas.{GathersMore-judged}
use Rattle.rope_search.proofs.payloads.CollectedGather.gather.Goals as goal

pub returns-in-Judged : goal.returns-in-Judged
returns-in-Judged c = rw c.in-Judged.is (GathersMore-judged _ _ _ c.feed.ensures)
