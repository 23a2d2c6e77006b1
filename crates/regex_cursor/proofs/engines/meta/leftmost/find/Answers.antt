use Rattle.std.proofs.Common.{◌≡◌, Some, sym, ap, subst, ◌∙◌, arith}
use Rattle.std.proofs.lemmas.Option.{same_Some}
use Rattle.rx_util.specs.declared.search.Span.{Span}
use Rattle.rx_util.specs.Search.{Found}
use Rattle.rx_input.specs.Inputs.{Asked}
use Rattle.rx_steps.specs.Searching.{search_of}
use Rattle.rx_chunk.proofs.EngineLaws.{if_ok}
use Rattle.regex_cursor.specs.Strategies.{IsLeft}
use Rattle.rx_matches.proofs.HalfLaws as halves
use Rattle.regex_cursor.proofs.BackLaws.{found_told, known_last}
use Rattle.regex_cursor.proofs.StrategyLaws.{cut_asked, cut_search, whole_inside, whole_is_span, no_match_told, literal_inside, literal_told, whole_match}
use Rattle.regex_cursor.proofs.LowerLaws.{inside_law}
use Rattle.regex_cursor.proofs.engines.meta.leftmost.find.Goals as goal

pub new-requires : goal.new-requires
new-requires g c =
    let literal = subst (λ left. IsLeft c.args.strategy.now.vm.program (search_of c.args.strategy.now.vm.utf8_empty c.args.input.now) left) c.in-Match.is c.in_ok-ask.ensures.left in
    record { ordered = omega (arith, literal.some) }

pub cut-whole-requires : goal.cut-whole-requires
cut-whole-requires g c =
    let is = subst (λ left. IsLeft c.args.strategy.now.vm.program (search_of c.args.strategy.now.vm.utf8_empty c.args.input.now) left) c.in-In.is c.in_ok-ask.ensures.left in
    is.holds.ordered

pub put_back-requires : goal.put_back-requires
put_back-requires g c =
    let i = c.args.input.now in
    let re = c.args.strategy.now.vm in
    let is = subst (λ left. IsLeft re.program (search_of re.utf8_empty i) left) c.in-In.is c.in_ok-ask.ensures.left in
    whole_is_span re.program re.utf8_empty i c.ask.new.input c.in-In.part.span c.cut-whole.result is.holds c.in_ok-ask.ensures.asked c.cut-whole.ensures.whole

pub returns-in-In-clause-answer : goal.returns-in-In-clause-answer
returns-in-In-clause-answer g c =
    let i = c.args.input.now in
    let re = c.args.strategy.now.vm in
    let part = c.in-In.part.span in
    let is = subst (λ left. IsLeft re.program (search_of re.utf8_empty i) left) c.in-In.is c.in_ok-ask.ensures.left in
    let k = c.cut-whole.new.input in
    let search = cut_search re.utf8_empty i c.ask.new.input k part c.in_ok-ask.ensures.same c.in_ok-ask.ensures.asked c.cut-whole.ensures.same c.cut-whole.ensures.asked in
    let asked = cut_asked i c.ask.new.input k part c.in_ok-ask.ensures.asked c.cut-whole.ensures.asked in
    if_ok c.find_in-found.result
    (λ found told. whole_match re c.requires.first (search_of re.utf8_empty i) part is.holds i k found asked search told)
    c.find_in-found.ensures.answer

pub returns-in-Match-clause-answer : goal.returns-in-Match-clause-answer
returns-in-Match-clause-answer g c =
    let i = c.args.input.now in
    let re = c.args.strategy.now.vm in
    let literal = subst (λ left. IsLeft re.program (search_of re.utf8_empty i) left) c.in-Match.is c.in_ok-ask.ensures.left in
    literal_told re c.requires.first (search_of re.utf8_empty i) i.asked.earliest c.in-Match.span c.new.result c.new.ensures.pattern c.new.ensures.span literal

pub returns-in-Nothing-clause-answer : goal.returns-in-Nothing-clause-answer
returns-in-Nothing-clause-answer g c =
    let i = c.args.input.now in
    let none = subst (λ left. IsLeft c.args.strategy.now.vm.program (search_of c.args.strategy.now.vm.utf8_empty i) left) c.in-Nothing.is c.in_ok-ask.ensures.left in
    no_match_told c.args.strategy.now.vm c.requires.first (search_of c.args.strategy.now.vm.utf8_empty i) i.asked.earliest none

pub returns-in-Nothing-clause-inside : goal.returns-in-Nothing-clause-inside
returns-in-Nothing-clause-inside g c = λ m some. absurd (cc some)

pub returns-in-Match-clause-inside : goal.returns-in-Match-clause-inside
returns-in-Match-clause-inside g c = λ m some.
    let i = c.args.input.now in
    let re = c.args.strategy.now.vm in
    let literal = subst (λ left. IsLeft re.program (search_of re.utf8_empty i) left) c.in-Match.is c.in_ok-ask.ensures.left in
    let ends : m.span ≡ c.in-Match.span = ap (λ (o : Found). o.span) (sym (same_Some c.new.result m some)) ∙ c.new.ensures.span in
    literal_inside re.program re.utf8_empty i c.in-Match.span m.span.end (ap (λ (x : Span). x.end) ends) inside_law c.ask.ensures.bound literal

pub returns-in-In-clause-inside : goal.returns-in-In-clause-inside
returns-in-In-clause-inside g c =
    let i = c.args.input.now in
    let re = c.args.strategy.now.vm in
    let part = c.in-In.part.span in
    let is = subst (λ left. IsLeft re.program (search_of re.utf8_empty i) left) c.in-In.is c.in_ok-ask.ensures.left in
    let asked = cut_asked i c.ask.new.input c.cut-whole.new.input part c.in_ok-ask.ensures.asked c.cut-whole.ensures.asked in
    if_ok c.find_in-found.result
    (λ found inside a some. whole_inside i c.cut-whole.new.input part a.span.end asked is.holds.behind is.holds.before (inside a some))
    c.find_in-found.ensures.inside

pub find_in-found-requires-clause-known : goal.find_in-found-requires-clause-known
find_in-found-requires-clause-known g c =
    let i = c.args.input.now in
    let re = c.args.strategy.now.vm in
    let part = c.in-In.part in
    let is = subst (λ left. IsLeft re.program (search_of re.utf8_empty i) left) c.in-In.is c.in_ok-ask.ensures.left in
    let search = cut_search re.utf8_empty i c.ask.new.input c.cut-whole.new.input part.span c.in_ok-ask.ensures.same c.in_ok-ask.ensures.asked c.cut-whole.ensures.same c.cut-whole.ensures.asked in
    known_last re.program re.utf8_empty (search_of re.utf8_empty i) c.cut-whole.new.input part.span part.pattern is.match search (ap (λ (a : Asked). a.span.end) c.cut-whole.ensures.asked)

pub returns-in-Found-clause-answer : goal.returns-in-Found-clause-answer
returns-in-Found-clause-answer g c =
    let i = c.args.input.now in
    let re = c.args.strategy.now.vm in
    let is = subst (λ left. IsLeft re.program (search_of re.utf8_empty i) left) c.in-Found.is c.in_ok-ask.ensures.left in
    found_told re c.requires.first (search_of re.utf8_empty i) c.in-Found.found i.asked.earliest is

pub returns-in-Found-clause-inside : goal.returns-in-Found-clause-inside
returns-in-Found-clause-inside g c =
    let i = c.args.input.now in
    let re = c.args.strategy.now.vm in
    let is = subst (λ left. IsLeft re.program (search_of re.utf8_empty i) left) c.in-Found.is c.in_ok-ask.ensures.left in
    halves.whole_inside re.program re.utf8_empty i (Some c.in-Found.found) c.ask.ensures.bound is
