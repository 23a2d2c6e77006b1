use Rattle.std.proofs.Common.{refl, ap}
use Rattle.rx_input.specs.Inputs.{Asked}
use Rattle.rx_steps.specs.Searching.{search_of}
use Rattle.rx_chunk.proofs.EngineLaws.{if_ok}
use Rattle.regex_cursor.proofs.BackLaws.{known_last}
use Rattle.regex_cursor.proofs.StrategyLaws.{cut_search, whole_is_span, whole_slots}
use Rattle.regex_cursor.proofs.engines.meta.leftmost.slots_of_part.Goals as goal

pub cut-whole-requires : goal.cut-whole-requires
cut-whole-requires g c = c.requires.part.holds.ordered

pub slots_in-found-requires-clause-known : goal.slots_in-found-requires-clause-known
slots_in-found-requires-clause-known g c =
    let i = c.args.input.now in
    let re = c.args.strategy.now.vm in
    let part = c.args.part in
    let search = cut_search re.utf8_empty i i c.cut-whole.new.input part.span (record { content = refl; is_sized = refl }) refl c.cut-whole.ensures.same c.cut-whole.ensures.asked in
    known_last re.program re.utf8_empty (search_of re.utf8_empty i) c.cut-whole.new.input part.span part.pattern c.requires.part.match search (ap (λ (a : Asked). a.span.end) c.cut-whole.ensures.asked)

pub put_back-requires : goal.put_back-requires
put_back-requires g c =
    let i = c.args.input.now in
    let re = c.args.strategy.now.vm in
    whole_is_span re.program re.utf8_empty i i c.args.part.span c.cut-whole.result c.requires.part.holds refl c.cut-whole.ensures.whole

pub returns-clause-answer : goal.returns-clause-answer
returns-clause-answer g c =
    let i = c.args.input.now in
    let re = c.args.strategy.now.vm in
    let part = c.args.part.span in
    let k = c.cut-whole.new.input in
    let search = cut_search re.utf8_empty i i k part (record { content = refl; is_sized = refl }) refl c.cut-whole.ensures.same c.cut-whole.ensures.asked in
    let slots = c.slots_in-found.new.slots in
    if_ok c.slots_in-found.result
    (λ pattern told. whole_slots re c.requires.first (search_of re.utf8_empty i) part c.requires.part.holds i k pattern slots c.cut-whole.ensures.asked search told)
    c.slots_in-found.ensures.answer
