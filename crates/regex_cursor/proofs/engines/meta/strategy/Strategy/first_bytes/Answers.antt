use Rattle.std.proofs.Common.{◌≡◌, Bool, List, IfSome, sym, ap, subst, ◌∙◌}
use Rattle.std.specs.Option.{option_copied}
use Rattle.rx_program.specs.Programs.{character_program}
use Rattle.rx_literals.specs.ByteSets.{MatchesBeginIn}
use Rattle.regex_cursor.specs.Strategies.{Engines, AreEngines}
use Rattle.regex_cursor.proofs.LiteralLaws.{lent}
use Rattle.regex_cursor.proofs.engines.meta.strategy.Strategy.first_bytes.Goals as goal

pub returns : goal.returns
returns c =
    let e = c.args.self.now in
    let are : AreEngines e = subst (λ (x : Engines). AreEngines x) c.self.view_is c.self.invariant in
    let same : option_copied c.as_ref.result ≡ e.literals.first = c.as_ref.ensures.value ∙ ap (λ (x : Engines). x.literals.first) c.self.view_is in
    let begin = λ (members : List Bool). MatchesBeginIn members (character_program e.vm.program) in
    record { begin = lent begin c.as_ref.result (subst (λ o. IfSome o begin) (sym same) are.literals.first) }
