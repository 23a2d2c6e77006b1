use Rattle.std.proofs.Common.{subst, ap, ◌∙◌}
use Rattle.rx_input.specs.Inputs.{Asked, InputState}
use Rattle.rx_steps.specs.Searching.{anchoring_of, search_of}
use Rattle.rx_chunk.specs.Engines.{EngineFinds}
use Rattle.rx_chunk.specs.Iterating.{IsNextAnswer}
use Rattle.rx_chunk.proofs.EngineLaws.{if_ok}
use Rattle.regex_cursor.proofs.HereLaws.{asked_as_before, some_next}
use Rattle.regex_cursor.proofs.engines.meta.leftmost.next_here.Goals as goal

pub returns-clause-answer : goal.returns-clause-answer
returns-clause-answer g c =
    let re = c.args.strategy.now.vm in
    let i = c.args.input.now in
    let last = c.args.last_match_end in
    let slots = c.next_anchored-found.new.slots in
    if_ok c.next_anchored-found.result
    (λ found is. some_next re c.requires.first (search_of re.utf8_empty i) (ap anchoring_of c.requires.unanchored) last found slots
    (subst (λ x. IsNextAnswer (EngineFinds re) (search_of re.utf8_empty x) last found slots) c.set_anchored.ensures is))
    c.next_anchored-found.ensures.answer

pub returns-clause-asked : goal.returns-clause-asked
returns-clause-asked g c =
    let started = c.next_anchored-found.ensures.same in
    let set = ap (λ (x : InputState). x.asked) c.set_anchored.ensures in
    c.put_back.ensures.asked
    ∙ ap (λ (x : InputState). record x.asked { span = c.get_span-span.result }) c.set_anchored-2.ensures
    ∙ asked_as_before c.args.input.now.asked c.next_anchored-found.new.input.asked c.get_span-span.result started.0 c.requires.unanchored c.get_span-span.ensures
    (started.1.asked ∙ ap (λ (a : Asked). record a { span = record a.span { start = started.0 } }) set)
