use Rattle.std.proofs.Common.{sym, subst, ◌∙◌}
use Rattle.rx_steps.specs.Searching.{search_of}
use Rattle.rx_chunk.specs.Engines.{EngineFinds, TellsWhether}
use Rattle.rx_chunk.proofs.EarlyLaws.{first_end, whether_first}
use Rattle.rx_chunk.proofs.KindLaws.{whether_of}
use Rattle.rx_chunk.proofs.pikevm.is_match.Goals as goal

pub returns-clause-answer : goal.returns-clause-answer
returns-clause-answer g c =
    let e = c.args.vm.now in
    let s = search_of e.utf8_empty c.args.input.now in
    let pattern = c.in_ok-pattern.pattern in
    subst (λ yes. TellsWhether (EngineFinds e) s yes) (sym c.is_some.ensures)
    (whether_of e s _ (whether_first e.program s c.seek_first.new.input.position pattern c.seek_first.new.slots c.in_ok-pattern.ensures.answer))

pub returns-clause-stops : goal.returns-clause-stops
returns-clause-stops g c = λ yes.
    let s = search_of c.args.vm.now.utf8_empty c.args.input.now in
    first_end c.args.vm.now.program s c.seek_first.new.input.position c.in_ok-pattern.pattern c.seek_first.new.slots (sym c.is_some.ensures ∙ yes) c.in_ok-pattern.ensures.answer
