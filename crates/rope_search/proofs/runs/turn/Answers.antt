use Rattle.std.proofs.lemmas.Result.{err_from_is_err_and}
use Rattle.rope_search.proofs.ArrivingLemmas.{text_step, text_searches}
use Rattle.rope_search.proofs.TurnLemmas.{Turned-given, TakesTurn-failed}
use Rattle.rope_search.specs.Order.{Order}
use Rattle.rope_search.specs.Stands.{Stands}
use Rattle.rope_search.specs.Reads.{payload_of}
use Rattle.rope_search.specs.Requests.{IsReadAs}
use Rattle.rope_search.proofs.runs.turn.Goals as goal

pub returns-in_err-write_answer-in-Text-clause-taken : goal.returns-in_err-write_answer-in-Text-clause-taken
returns-in_err-write_answer-in-Text-clause-taken g c =
    let p = err_from_is_err_and c.from_residual-in_err-write_answer-in-Text.result c.from_residual-in_err-write_answer-in-Text.ensures.1 in
    let read = rw (c.in-Text.is, c.limits-limits.ensures) at c.in_ok-ending.ensures in
    let told = c.set_arrived-answer.ensures in
    rw (p.1, p.2) (TakesTurn-failed _ _ c.set_arrived-answer.result _ _
    (λ Written written. Turned-given c.known.ensures _ _ c.set_arrived-answer.result _ _ Written c.buffer.ensures.texts read
    (λ order is. text_step _ _ _ _ _ _ is told.step) (λ order is. text_searches _ _ _ _ _ _ is told.searches) written)
    c.in_err-write_answer-in-Text.ensures.written)

pub returns-in_ok-write_answer-in-Text-clause-taken : goal.returns-in_ok-write_answer-in-Text-clause-taken
returns-in_ok-write_answer-in-Text-clause-taken g c =
    let read = rw (c.in-Text.is, c.limits-limits.ensures) at c.in_ok-ending.ensures in
    let told = c.set_arrived-answer.ensures in
    Turned-given c.known.ensures _ _ c.set_arrived-answer.result _ _ _ c.buffer.ensures.texts read
    (λ order is. text_step _ _ _ _ _ _ is told.step) (λ order is. text_searches _ _ _ _ _ _ is told.searches) c.in_ok-write_answer-in-Text.ensures.written

pub returns-in_err-write_answer-in-Given-clause-taken : goal.returns-in_err-write_answer-in-Given-clause-taken
returns-in_err-write_answer-in-Given-clause-taken g c =
    let p = err_from_is_err_and c.from_residual-in_err-write_answer-in-Given.result c.from_residual-in_err-write_answer-in-Given.ensures.1 in
    let read = rw (c.in-Given.is, c.limits-limits.ensures) at c.in_ok-ending.ensures in
    let stands : (order : Order) → IsReadAs c.args.session.now.limit c.in-Given.header c.in-Given.collected order → Stands c.args.session.now.limit c.with.result order =
    λ order is. c.with.ensures.stands _ order is.of_header (c.payload.ensures.stands _ (payload_of order) is.payload) in
    rw (p.1, p.2) (TakesTurn-failed _ _ c.apply-answer.result _ _
    (λ Written written. Turned-given c.known.ensures _ _ c.apply-answer.result _ _ Written c.buffer.ensures.texts read (λ order is. c.apply-answer.ensures.step order (stands order is))
    (λ order is. c.apply-answer.ensures.searches order (stands order is)) written)
    c.in_err-write_answer-in-Given.ensures.written)

pub returns-in_ok-write_answer-in-Given-clause-taken : goal.returns-in_ok-write_answer-in-Given-clause-taken
returns-in_ok-write_answer-in-Given-clause-taken g c =
    let read = rw (c.in-Given.is, c.limits-limits.ensures) at c.in_ok-ending.ensures in
    let stands : (order : Order) → IsReadAs c.args.session.now.limit c.in-Given.header c.in-Given.collected order → Stands c.args.session.now.limit c.with.result order =
    λ order is. c.with.ensures.stands _ order is.of_header (c.payload.ensures.stands _ (payload_of order) is.payload) in
    Turned-given c.known.ensures _ _ c.apply-answer.result _ _ _ c.buffer.ensures.texts read (λ order is. c.apply-answer.ensures.step order (stands order is))
    (λ order is. c.apply-answer.ensures.searches order (stands order is)) c.in_ok-write_answer-in-Given.ensures.written
