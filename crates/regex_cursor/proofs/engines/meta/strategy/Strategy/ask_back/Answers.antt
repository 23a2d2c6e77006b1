use Rattle.std.proofs.Common.{IfSome, sym, subst}
use Rattle.rx_program.specs.Programs.{character_program}
use Rattle.rx_steps.specs.Searching.{search_of}
use Rattle.rx_literals.specs.Endings.{EndsWithSlice}
use Rattle.rx_chunk.proofs.EngineLaws.{if_ok}
use Rattle.regex_cursor.specs.Strategies.{Engines, IsLeft}
use Rattle.regex_cursor.proofs.engines.meta.strategy.Strategy.ask_back.Goals as goal

pub returns-clause-left : goal.returns-clause-left
returns-clause-left g c =
    let i = c.args.input.now in
    let e = c.args.self.now in
    let kept = c.args.kept.now.core.value.vm in
    let ends : EndsWithSlice (character_program c.self.inside.core.value.vm.program) = c.self.invariant.ends_last c.if-not-self.false in
    let here : EndsWithSlice (character_program e.vm.program) = subst (λ (x : Engines). EndsWithSlice (character_program x.vm.program)) c.self.view_is ends in
    let there : EndsWithSlice (character_program kept.program) = subst (λ p. EndsWithSlice (character_program p)) (sym c.requires.serve.program) here in
    if_ok c.search_last.result
    (λ told is. subst (λ p. IfSome told (IsLeft p (search_of e.vm.utf8_empty i))) c.requires.serve.program
    (subst (λ u. IfSome told (IsLeft kept.program (search_of u i))) c.requires.serve.utf8_empty (is there)))
    c.search_last.ensures.left
