use Rattle.std.proofs.Common.{sym, subst, ◌∙◌}
use Rattle.rx_steps.specs.Searching.{search_of}
use Rattle.rx_chunk.specs.Engines.{EngineFinds, TellsWhether}
use Rattle.rx_engine.specs.Engines.{Engine}
use Rattle.rx_chunk.proofs.EngineLaws.{if_ok}
use Rattle.regex_cursor.specs.Strategies.{IsLeft}
use Rattle.regex_cursor.proofs.BackLaws.{found_told}
use Rattle.regex_cursor.proofs.StrategyLaws.{cut_search, whole_is_span, literal_there, none_there, match_there, whole_whether}
use Rattle.regex_cursor.proofs.engines.meta.leftmost.is_match.Goals as goal

pub cut-whole-requires : goal.cut-whole-requires
cut-whole-requires g c =
    let is = subst (λ left. IsLeft c.args.strategy.now.vm.program (search_of c.args.strategy.now.vm.utf8_empty c.args.input.now) left) c.in-In.is c.in_ok-ask.ensures.left in
    is.holds.ordered

pub put_back-requires : goal.put_back-requires
put_back-requires g c =
    let i = c.args.input.now in
    let re = c.args.strategy.now.vm in
    let is = subst (λ left. IsLeft re.program (search_of re.utf8_empty i) left) c.in-In.is c.in_ok-ask.ensures.left in
    whole_is_span re.program re.utf8_empty i c.ask.new.input c.in-In.part.span c.cut-whole.result is.holds c.in_ok-ask.ensures.asked c.cut-whole.ensures.whole

pub returns-else-is_some-clause-answer : goal.returns-else-is_some-clause-answer
returns-else-is_some-clause-answer g c =
    let i = c.args.input.now in
    let re = c.args.strategy.now.vm in
    let part = c.in-In.part.span in
    let is = subst (λ left. IsLeft re.program (search_of re.utf8_empty i) left) c.in-In.is c.in_ok-ask.ensures.left in
    let k = c.cut-whole.new.input in
    let search = cut_search re.utf8_empty i c.ask.new.input k part c.in_ok-ask.ensures.same c.in_ok-ask.ensures.asked c.cut-whole.ensures.same c.cut-whole.ensures.asked in
    if_ok c.is_match-yes.result
    (λ yes told. whole_whether re c.requires.first (search_of re.utf8_empty i) part is.holds yes (subst (λ x. TellsWhether (EngineFinds re) x yes) search (subst (λ (e : Engine). TellsWhether (EngineFinds e) (search_of e.utf8_empty k) yes) c.vm.ensures.vm told)))
    c.is_match-yes.ensures.answer

pub returns-in-Match-clause-answer : goal.returns-in-Match-clause-answer
returns-in-Match-clause-answer g c =
    let i = c.args.input.now in
    let re = c.args.strategy.now.vm in
    let literal = subst (λ left. IsLeft re.program (search_of re.utf8_empty i) left) c.in-Match.is c.in_ok-ask.ensures.left in
    literal_there re c.requires.first (search_of re.utf8_empty i) c.in-Match.field-0 literal

pub returns-in-Nothing-clause-answer : goal.returns-in-Nothing-clause-answer
returns-in-Nothing-clause-answer g c =
    let i = c.args.input.now in
    let none = subst (λ left. IsLeft c.args.strategy.now.vm.program (search_of c.args.strategy.now.vm.utf8_empty i) left) c.in-Nothing.is c.in_ok-ask.ensures.left in
    none_there c.args.strategy.now.vm c.requires.first (search_of c.args.strategy.now.vm.utf8_empty i) none

pub returns-then-is_some-clause-answer : goal.returns-then-is_some-clause-answer
returns-then-is_some-clause-answer g c =
    let i = c.args.input.now in
    let re = c.args.strategy.now.vm in
    let is = subst (λ left. IsLeft re.program (search_of re.utf8_empty i) left) c.in-In.is c.in_ok-ask.ensures.left in
    match_there re c.requires.first (search_of re.utf8_empty i) c.in-In.part is (sym c.is_some.ensures ∙ c.if-is_some.true)

pub returns-in-Found-clause-answer : goal.returns-in-Found-clause-answer
returns-in-Found-clause-answer g c =
    let i = c.args.input.now in
    let re = c.args.strategy.now.vm in
    let is = subst (λ left. IsLeft re.program (search_of re.utf8_empty i) left) c.in-Found.is c.in_ok-ask.ensures.left in
    (found_told re c.requires.first (search_of re.utf8_empty i) c.in-Found.field-0 i.asked.earliest is).whether
