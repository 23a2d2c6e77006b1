use Rattle.std.proofs.Common.{None, IfSome, sym, ap, subst, ◌∙◌}
use Rattle.rx_util.specs.Anchoring.{is_anchored}
use Rattle.rx_steps.specs.Searching.{search_of}
use Rattle.rx_program.specs.Programs.{character_program}
use Rattle.rx_engine.specs.Engines.{Engine}
use Rattle.rx_chunk.specs.Engines.{Finds}
use Rattle.rx_literals.specs.Beginnings.{MatchesBeginWith}
use Rattle.regex_cursor.specs.Strategies.{BeginsFrom, Engines}
use Rattle.regex_cursor.proofs.StartLaws.{is_free, begins_from, begins_nowhere}
use Rattle.rx_literals.proofs.SkipLaws.{matches_come_behind, no_needle_no_match}
use Rattle.regex_cursor.proofs.engines.meta.strategy.Strategy.first_beginning.Goals as goal

pub returns-in-Some-find_literal-clause-start : goal.returns-in-Some-find_literal-clause-start
returns-in-Some-find_literal-clause-start g c =
    let i = c.args.input.now in
    let vm = c.self.inside.core.value.vm in
    let begins : MatchesBeginWith c.in-Some.prefilter (character_program vm.program) = subst (λ o. IfSome o (λ needles. MatchesBeginWith needles (character_program vm.program))) c.in-Some.is c.self.invariant.literals.beginnings in
    let free = is_free i.asked.anchored (ap is_anchored (sym c.get_anchored.ensures) ∙ sym c.is_anchored.ensures ∙ c.if-not-is_anchored.true) in
    subst (λ (x : Engine). BeginsFrom x.program (search_of x.utf8_empty i) c.in-Some-find_literal.span.start) (ap (λ (e : Engines). e.vm) c.self.view_is)
    (begins_from vm.program c.in-Some.prefilter (search_of vm.utf8_empty i) begins free c.in-Some-find_literal.span matches_come_behind c.in-Some-find_literal.ensures.found)

pub returns-in-None-clause-start : goal.returns-in-None-clause-start
returns-in-None-clause-start g c =
    let i = c.args.input.now in
    let vm = c.self.inside.core.value.vm in
    let begins : MatchesBeginWith c.in-Some.prefilter (character_program vm.program) = subst (λ o. IfSome o (λ needles. MatchesBeginWith needles (character_program vm.program))) c.in-Some.is c.self.invariant.literals.beginnings in
    let free = is_free i.asked.anchored (ap is_anchored (sym c.get_anchored.ensures) ∙ sym c.is_anchored.ensures ∙ c.if-not-is_anchored.true) in
    subst (λ (x : Engine). Finds x.program (search_of x.utf8_empty i) None) (ap (λ (e : Engines). e.vm) c.self.view_is)
    (begins_nowhere vm.program c.in-Some.prefilter (search_of vm.utf8_empty i) begins free c.find_literal.ensures.needles no_needle_no_match c.in-None.ensures.found)
