use Rattle.std.proofs.Common.{◌≡◌, List, ℕ, IfSome, sym, ap, subst, ◌∙◌}
use Rattle.std.specs.Option.{option_copied}
use Rattle.rx_program.specs.Programs.{character_program}
use Rattle.rx_literals.specs.Literals.{IsLiteralOf}
use Rattle.regex_cursor.specs.Strategies.{Engines, AreEngines}
use Rattle.regex_cursor.proofs.LiteralLaws.{lent}
use Rattle.regex_cursor.proofs.engines.meta.strategy.Strategy.whole_literal.Goals as goal

pub returns-in-LeftmostFirst-clause-is_literal : goal.returns-in-LeftmostFirst-clause-is_literal
returns-in-LeftmostFirst-clause-is_literal c =
    let e = c.args.self.now in
    let are : AreEngines e = subst (λ (x : Engines). AreEngines x) c.self.view_is c.self.invariant in
    let same : option_copied c.as_ref.result ≡ e.literals.whole = c.as_ref.ensures.value ∙ ap (λ (x : Engines). x.literals.whole) c.self.view_is in
    let is = λ (needles : List (List ℕ)). IsLiteralOf needles (character_program e.vm.program) in
    lent is c.as_ref.result (subst (λ o. IfSome o is) (sym same) are.literals.whole)
