use Rattle.std.proofs.Common.{IfSome, ap, subst}
use Rattle.rx_steps.specs.Searching.{search_of}
use Rattle.rx_program.specs.Programs.{character_program}
use Rattle.rx_literals.specs.Literals.{IsLiteralOf}
use Rattle.rx_engine.specs.Engines.{Engine}
use Rattle.regex_cursor.specs.Strategies.{Engines, IsStart}
use Rattle.regex_cursor.proofs.engines.meta.strategy.Strategy.first_start.Goals as goal

pub returns-in-Some-clause-start : goal.returns-in-Some-clause-start
returns-in-Some-clause-start g c =
    let i = c.args.input.now in
    let vm = c.self.inside.core.value.vm in
    let literal : IsLiteralOf c.in-Some.needle (character_program vm.program) = subst (λ o. IfSome o (λ needles. IsLiteralOf needles (character_program vm.program))) c.in-Some.is c.self.invariant.literals.whole in
    subst (λ (x : Engine). IsStart x.program (search_of x.utf8_empty i) c.start_of_literal.result) (ap (λ (e : Engines). e.vm) c.self.view_is)
    (c.start_of_literal.ensures.start vm.program vm.utf8_empty literal)
