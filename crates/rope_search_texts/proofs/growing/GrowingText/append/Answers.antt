use Rattle.std.proofs.lemmas.Result.{err_from_is_err_and}
use Rattle.rope_search_texts.proofs.GrowingLemmas.{halves, stops_at_first, stops_at_second}
use Rattle.rope_search_texts.proofs.growing.GrowingText.append.Goals as goal

pub returns-in_err-push_all-clause-stops : goal.returns-in_err-push_all-clause-stops
returns-in_err-push_all-clause-stops c =
    let p = err_from_is_err_and c.from_residual.result c.from_residual.ensures.1 in
    let whole = halves _ _ _ _ c.split_at.ensures.front c.split_at.ensures.back in
    rw (p.1, p.2) (stops_at_first _ _ _ _ _ whole c.in_err-push_all.ensures.stops)

pub returns-in_err-push_text-clause-stops : goal.returns-in_err-push_text-clause-stops
returns-in_err-push_text-clause-stops c =
    let p = err_from_is_err_and c.from_residual-in_err-push_text.result c.from_residual-in_err-push_text.ensures.1 in
    let whole = halves _ _ _ _ c.split_at.ensures.front c.split_at.ensures.back in
    let halved = halves _ _ _ _ c.split_at-2.ensures.front c.split_at-2.ensures.back in
    rw (p.1, p.2) (stops_at_second _ _ _ _ _ _ _ _ whole halved c.in_ok-push_all.ensures.bytes c.in_err-push_text.ensures.stops)
