use Rattle.std.proofs.Common.{◌≡◌, List, ℕ, Option, Some, None, IfSome, sym, ap, subst, ◌∙◌}
use Rattle.std.specs.Borrow.{Bor}
use Rattle.std.specs.Option.{option_copied}
use Rattle.rx_program.specs.Programs.{character_program}
use Rattle.rx_literals.specs.Beginnings.{MatchesBeginWith}
use Rattle.rx_literals.specs.Requirements.{MatchesContain}
use Rattle.rx_literals.proofs.RequirementLaws.{beginnings_are_contained}
use Rattle.regex_cursor.specs.Strategies.{Engines, AreEngines}
use Rattle.regex_cursor.proofs.LiteralLaws.{lent}
use Rattle.regex_cursor.proofs.engines.meta.strategy.Strategy.prefilter.Goals as goal

pub returns-in-Some : goal.returns-in-Some
returns-in-Some c =
    let vm = c.self.inside.core.value.vm in
    let begins : MatchesBeginWith c.in-Some.beginnings (character_program vm.program) = subst (λ o. IfSome o (λ needles. MatchesBeginWith needles (character_program vm.program))) c.in-Some.is c.self.invariant.literals.beginnings in
    let contained : MatchesContain c.in-Some.beginnings (character_program vm.program) = beginnings_are_contained c.in-Some.beginnings (character_program vm.program) begins in
    record { contained = subst (λ (e : Engines). MatchesContain c.in-Some.beginnings (character_program e.vm.program)) c.self.view_is contained }

pub returns-in-None : goal.returns-in-None
returns-in-None c =
    let e = c.args.self.now in
    let are : AreEngines e = subst (λ (x : Engines). AreEngines x) c.self.view_is c.self.invariant in
    let same : option_copied c.as_ref.result ≡ e.literals.required = c.as_ref.ensures.value ∙ ap (λ (x : Engines). x.literals.required) c.self.view_is in
    let contained = λ (needles : List (List ℕ)). MatchesContain needles (character_program e.vm.program) in
    record { contained = lent contained c.as_ref.result (subst (λ o. IfSome o contained) (sym same) are.literals.required) }
