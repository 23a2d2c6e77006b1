use Rattle.std.proofs.Common.{Some, length, sym, subst}
use Rattle.rx_steps.specs.Searching.{search_of}
use Rattle.rx_chunk.specs.Engines.{Finds, IsFound}
use Rattle.rx_chunk.proofs.EngineLaws.{if_ok}
use Rattle.regex_cursor.specs.Strategies.{IsLeft, IsPart}
use Rattle.regex_cursor.proofs.LastLaws.{same_slots_told}
use Rattle.regex_cursor.proofs.StartLaws.{same_search}
use Rattle.regex_cursor.proofs.StrategyLaws.{no_slots_told, literal_fits, literal_slots_told}
use Rattle.regex_cursor.proofs.LowerLaws.{inside_law}
use Rattle.regex_cursor.proofs.engines.meta.leftmost.search_slots.Goals as goal

pub put_match-requires : goal.put_match-requires
put_match-requires g c =
    let i = c.args.input.now in
    let re = c.args.strategy.now.vm in
    let literal = subst (λ left. IsLeft re.program (search_of re.utf8_empty i) left) c.in-Match.is c.in_ok-ask.ensures.left in
    let fits = literal_fits re.program re.utf8_empty i c.in-Match.span inside_law c.ask.ensures.bound literal in
    record { start = fits.0; end = fits.1 }

pub returns-in-Match-clause-answer : goal.returns-in-Match-clause-answer
returns-in-Match-clause-answer g c =
    let i = c.args.input.now in
    let re = c.args.strategy.now.vm in
    let literal = subst (λ left. IsLeft re.program (search_of re.utf8_empty i) left) c.in-Match.is c.in_ok-ask.ensures.left in
    literal_slots_told re c.requires.first (search_of re.utf8_empty i) i.asked.earliest c.in-Match.span c.put_match.new.slots (length c.clear_few.new.slots) c.put_match.ensures literal

pub returns-in-Nothing-clause-answer : goal.returns-in-Nothing-clause-answer
returns-in-Nothing-clause-answer g c =
    let i = c.args.input.now in
    let none = subst (λ left. IsLeft c.args.strategy.now.vm.program (search_of c.args.strategy.now.vm.utf8_empty i) left) c.in-Nothing.is c.in_ok-ask.ensures.left in
    no_slots_told c.args.strategy.now.vm c.requires.first (search_of c.args.strategy.now.vm.utf8_empty i) i.asked.earliest c.clear_few.new.slots (length c.args.slots.now) none c.clear_few.ensures.all

pub slots_of_found-requires-clause-found : goal.slots_of_found-requires-clause-found
slots_of_found-requires-clause-found g c =
    let i = c.args.input.now in
    let re = c.args.strategy.now.vm in
    let search = same_search re.utf8_empty i c.ask.new.input c.in_ok-ask.ensures.same c.in_ok-ask.ensures.asked in
    let is = subst (λ left. IsLeft re.program (search_of re.utf8_empty i) left) c.in-Found.is c.in_ok-ask.ensures.left in
    subst (λ s. IsFound (Finds re.program) s (Some c.in-Found.found)) (sym search) is

pub returns-in-Found-clause-answer : goal.returns-in-Found-clause-answer
returns-in-Found-clause-answer g c =
    let i = c.args.input.now in
    let re = c.args.strategy.now.vm in
    if_ok c.slots_of_found.result
    (λ pattern told. same_slots_told re i c.ask.new.input pattern c.slots_of_found.new.slots c.in_ok-ask.ensures.same c.in_ok-ask.ensures.asked told)
    c.slots_of_found.ensures.answer

pub slots_of_part-requires-clause-part : goal.slots_of_part-requires-clause-part
slots_of_part-requires-clause-part g c =
    let i = c.args.input.now in
    let re = c.args.strategy.now.vm in
    let search = same_search re.utf8_empty i c.ask.new.input c.in_ok-ask.ensures.same c.in_ok-ask.ensures.asked in
    subst (λ s. IsPart re.program s c.in-In.part) (sym search) (subst (λ left. IsLeft re.program (search_of re.utf8_empty i) left) c.in-In.is c.in_ok-ask.ensures.left)

pub returns-in-In-clause-answer : goal.returns-in-In-clause-answer
returns-in-In-clause-answer g c =
    let i = c.args.input.now in
    let re = c.args.strategy.now.vm in
    if_ok c.slots_of_part.result
    (λ pattern told. same_slots_told re i c.ask.new.input pattern c.slots_of_part.new.slots c.in_ok-ask.ensures.same c.in_ok-ask.ensures.asked told)
    c.slots_of_part.ensures.answer
