use Rattle.std.proofs.Common.{◌≡◌, ap, subst, ◌∙◌, arith}
use Rattle.rx_steps.specs.Reversed.{IsHalfAnswerBack, IsRefusalBack}
use Rattle.rx_steps.specs.Searching.{search_of}
use Rattle.rx_chunk.proofs.EngineLaws.{if_ok}
use Rattle.rx_matches.proofs.HalfLaws.{asked_again, turned_search}
use Rattle.rx_matches.proofs.RefusalLaws.{back_memory, if_err}
use Rattle.regex_cursor.proofs.engines.meta.back.search_from.Goals as goal

pub turn_forward-requires : goal.turn_forward-requires
turn_forward-requires g c =
    let start : c.search_back-back.new.input.asked.span.start ≡ c.args.input.now.asked.span.start = ap (λ a. a.span.start) c.search_back-back.ensures.asked ∙ ap (λ a. a.span.start) c.turn_back-last.ensures.turned.asked in
    record { span = omega (arith, c.requires.span, start, c.turn_back-last.ensures.last) }

pub returns-clause-answer : goal.returns-clause-answer
returns-clause-answer g c =
    let u = c.args.utf8_empty in
    let turned = turned_search u c.args.input.now c.turn_back-last.new.input c.args.end c.requires.unanchored c.turn_back-last.ensures.turned in
    if_ok c.search_back-back.result (λ found is p reverse. subst (λ s. IsHalfAnswerBack p s found) turned (is p reverse)) c.search_back-back.ensures.answer

pub returns-clause-asked : goal.returns-clause-asked
returns-clause-asked g c =
    let a = c.args.input.now.asked in
    asked_again a c.search_back-back.new.input.asked c.turn_forward.new.input.asked c.args.end c.turn_back-last.result c.requires.unanchored
    (c.search_back-back.ensures.asked ∙ c.turn_back-last.ensures.turned.asked) c.turn_back-last.ensures.last c.turn_forward.ensures.asked

pub returns-clause-refused : goal.returns-clause-refused
returns-clause-refused g c =
    let u = c.args.utf8_empty in
    let turned = turned_search u c.args.input.now c.turn_back-last.new.input c.args.end c.requires.unanchored c.turn_back-last.ensures.turned in
    if_err c.search_back-back.result (λ error why. back_memory (search_of u c.args.input.now) c.args.end error (subst (λ s. IsRefusalBack s error) turned why)) c.search_back-back.ensures.refused
