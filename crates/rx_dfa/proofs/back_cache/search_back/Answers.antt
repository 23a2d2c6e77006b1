use Rattle.std.proofs.Common.{◌≡◌, ap, subst, ◌∙◌}
use Rattle.rx_steps.specs.Reversed.{IsHalfAnswerBack}
use Rattle.rx_steps.specs.Searching.{search_of}
use Rattle.rx_steps.proofs.FollowLaws.{if_ok}
use Rattle.rx_steps.proofs.OverLaws.{same_search}
use Rattle.rx_dfa.proofs.back_cache.search_back.Goals as goal
use Rattle.rx_dfa.proofs.back_cache.search_back.Goals.{then-not-walks_alone+in-Err, else-not-walks_alone}

pub returns-clause-answer : goal.returns-clause-answer
returns-clause-answer g c =
    let b = c.args.utf8_empty in
    let old = c.args.input.now in
    let now = c.if-not-walks_alone.input in
    let same : search_of b now ≡ search_of b old = elim c.if-not-walks_alone.branch [
      | then-not-walks_alone+in-Err w ↦ ap (λ i. search_of b i) w.input-is ∙ same_search b w.try_search_back.new.input old w.try_search_back.ensures.same.content w.try_search_back.ensures.asked
      | else-not-walks_alone w ↦ ap (λ i. search_of b i) w.input-is
    ] in
    if_ok c.search_rev-answer.result (λ found is p reverse. subst (λ s. IsHalfAnswerBack p s found) same (is p reverse)) c.search_rev-answer.ensures.answer
