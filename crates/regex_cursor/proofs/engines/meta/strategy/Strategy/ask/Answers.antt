use Rattle.std.proofs.Common.{subst}
use Rattle.rx_walks.specs.Finds.{from_place_on}
use Rattle.rx_steps.specs.Searching.{search_of}
use Rattle.rx_chunk.proofs.EngineLaws.{if_ok}
use Rattle.regex_cursor.specs.Strategies.{BeginsFrom, IsLeft, IsStart}
use Rattle.regex_cursor.proofs.LeftLaws.{done_span, left_from, none_done}
use Rattle.regex_cursor.proofs.StartLaws.{same_search}
use Rattle.regex_cursor.proofs.LowerLaws.{exist_law, inside_law}
use Rattle.regex_cursor.proofs.engines.meta.strategy.Strategy.ask.Goals as goal

pub returns-then-is_done-clause-left : goal.returns-then-is_done-clause-left
returns-then-is_done-clause-left g c =
    let i = c.args.input.now in
    let re = c.args.self.now.vm in
    none_done re.program (search_of re.utf8_empty i) exist_law inside_law (done_span i.asked.span.start i.asked.span.end c.is_done.result c.is_done.ensures c.if-is_done.true)

pub returns-in-Nowhere-clause-left : goal.returns-in-Nowhere-clause-left
returns-in-Nowhere-clause-left g c =
    let re = c.args.self.now.vm in
    subst (λ x. IsStart re.program (search_of re.utf8_empty c.args.input.now) x) c.in-Nowhere.is c.first_start.ensures.start

pub returns-in-At-clause-left : goal.returns-in-At-clause-left
returns-in-At-clause-left g c =
    let re = c.args.self.now.vm in
    subst (λ x. IsStart re.program (search_of re.utf8_empty c.args.input.now) x) c.in-At.is c.first_start.ensures.start

pub returns-in-From-clause-left : goal.returns-in-From-clause-left
returns-in-From-clause-left g c =
    let i = c.args.input.now in
    let re = c.args.self.now.vm in
    let s = search_of re.utf8_empty i in
    let place = c.in-From.place in
    let begins : BeginsFrom re.program s place = subst (λ x. IsStart re.program s x) c.in-From.is c.first_start.ensures.start in
    let same = same_search re.utf8_empty i c.first_start.new.input c.first_start.ensures.same c.first_start.ensures.asked in
    if_ok c.ask_from.result
    (λ left is. left_from re.program s place left begins (subst (λ t. IsLeft re.program (from_place_on t place) left) same is))
    c.ask_from.ensures.left
