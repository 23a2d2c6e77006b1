use Rattle.std.proofs.lemmas.Result.{err_from_is_err_and}
use Rattle.rope_search.specs.Order.{SetText}
use Rattle.rope_search.proofs.RequestLemmas.{TakesRest-text, TakesRest-whole, TakesPart-of, has_text}
use Rattle.rope_search.proofs.requests.read_rest.Goals as goal

pub returns-in_err-text : goal.returns-in_err-text
returns-in_err-text g c =
    let p = err_from_is_err_and c.from_residual.result c.from_residual.ensures.1 in
    rw (c.in-Text.is, p.1, p.2) (TakesPart-of (SetText c.in-Text.len) _ _ (has_text c.in-Text.len) c.in_err-text.ensures)

pub returns-in-Some : goal.returns-in-Some
returns-in-Some g c = rw c.in-Text.is (TakesRest-text _ c.in-Text.len _ _ _ _ _ (rw c.in-Some.is at c.in_ok-text.ensures))

pub returns-in-None : goal.returns-in-None
returns-in-None g c = rw c.in-Text.is (TakesPart-of (SetText c.in-Text.len) _ _ (has_text c.in-Text.len) (rw c.in-None.is at c.in_ok-text.ensures))

pub returns-in_err-collected : goal.returns-in_err-collected
returns-in_err-collected g c =
    let p = err_from_is_err_and c.from_residual-in_err-collected.result c.from_residual-in_err-collected.ensures.1 in
    rw (p.1, p.2) (TakesPart-of c.args.header _ _ c.payload_len.ensures c.in_err-collected.ensures)

pub returns-in-Some-2 : goal.returns-in-Some-2
returns-in-Some-2 g c =
    TakesRest-whole _ _ c.args.header _ _ _ _ _ c.payload_len.ensures (rw (c.in-Some-2.is, c.payload_limit-most.ensures) at c.in_ok-collected.ensures)

pub returns-in-None-2 : goal.returns-in-None-2
returns-in-None-2 g c = TakesPart-of c.args.header _ _ c.payload_len.ensures (rw c.in-None-2.is at c.in_ok-collected.ensures)
