use Rattle.rope_search.proofs.RequestLemmas.{TakesRequest-after}
use Rattle.rope_search.proofs.requests.read_request.Goals as goal

pub returns-in-Some : goal.returns-in-Some
returns-in-Some g c =
    let read = rw c.in-Whole.is at c.in_ok-read_line.ensures in
    TakesRequest-after _ _ _ _ _ _ _ _ _ _ c.in-Some.ensures.found read.2 c.read_rest.ensures
