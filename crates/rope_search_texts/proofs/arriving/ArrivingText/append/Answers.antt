use Rattle.rope_search_texts.proofs.GrowingLemmas.{judged_more}
use Rattle.rope_search_texts.proofs.arriving.ArrivingText.append.Goals as goal

pub returns-in-Judged : goal.returns-in-Judged
returns-in-Judged c = rw c.in-Judged.is (judged_more _ _ _ c.feed.ensures)
