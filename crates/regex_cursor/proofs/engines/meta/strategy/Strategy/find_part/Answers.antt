use Rattle.std.proofs.Common.{sym, subst}
use Rattle.rx_steps.specs.Searching.{search_of}
use Rattle.regex_cursor.specs.Strategies.{IsLeft, IsPart}
use Rattle.regex_cursor.proofs.StartLaws.{same_search}
use Rattle.regex_cursor.proofs.engines.meta.strategy.Strategy.find_part.Goals as goal

pub shorten-requires-clause-part : goal.shorten-requires-clause-part
shorten-requires-clause-part g c =
    let i = c.args.input.now in
    let re = c.args.self.now.vm in
    let search = same_search re.utf8_empty i c.ask.new.input c.in_ok-left.ensures.same c.in_ok-left.ensures.asked in
    subst (λ s. IsPart re.program s c.in-In.part) (sym search) (subst (λ left. IsLeft re.program (search_of re.utf8_empty i) left) c.in-In.is c.in_ok-left.ensures.left)

pub returns-in_ok-shorter-in-In-clause-part : goal.returns-in_ok-shorter-in-In-clause-part
returns-in_ok-shorter-in-In-clause-part g c =
    let i = c.args.input.now in
    let re = c.args.self.now.vm in
    let search = same_search re.utf8_empty i c.ask.new.input c.in_ok-left.ensures.same c.in_ok-left.ensures.asked in
    subst (λ s. IsPart re.program s c.in_ok-shorter-in-In.shorter) search c.in_ok-shorter-in-In.ensures.part

pub returns-in_default-clause-part : goal.returns-in_default-clause-part
returns-in_default-clause-part g c =
    let re = c.args.self.now.vm in
    c.part.ensures re.program (search_of re.utf8_empty c.args.input.now) c.in_ok-left.ensures.left
