use Rattle.std.proofs.Common.{◌<◌, ◌^◌, Some, length, sym, subst, arith}
use Rattle.rx_steps.specs.Searching.{search_of}
use Rattle.rx_chunk.specs.Engines.{IsAnswerAt}
use Rattle.rx_chunk.proofs.AnswerLaws.{all_fits, all_stops, none_of_all_at, slots_are, some_of_all_at}
use Rattle.rx_chunk.proofs.pikevm.all.seek_all.Goals as goal

pub returns-in_default-clause-answer : goal.returns-in_default-clause-answer
returns-in_default-clause-answer g c =
    none_of_all_at c.args.earliest c.args.vm.now (search_of c.args.vm.now.utf8_empty c.args.input.now) c.best_of_all.new.input.position c.in_ok-found.field-0 c.clear_slots.new.slots c.requires.all
    c.in_default.is c.in_ok-found.ensures.answer c.clear_slots.ensures.none

pub put_whole-requires-clause-start : goal.put_whole-requires-clause-start
put_whole-requires-clause-start g c =
    let e = c.args.vm.now in
    let s = search_of e.utf8_empty c.args.input.now in
    let fits = all_fits e s c.best_of_all.new.input.position c.in-Some.found c.requires.all c.args.earliest c.in_ok-found.field-0 c.in-Some.is c.in_ok-found.ensures.answer in
    let content : length c.args.input.now.cursor.content < 2 ^ 63 = c.best_of_all.ensures.bound in
    omega (arith, fits.0, content)

pub put_whole-requires-clause-end : goal.put_whole-requires-clause-end
put_whole-requires-clause-end g c =
    let e = c.args.vm.now in
    let s = search_of e.utf8_empty c.args.input.now in
    let fits = all_fits e s c.best_of_all.new.input.position c.in-Some.found c.requires.all c.args.earliest c.in_ok-found.field-0 c.in-Some.is c.in_ok-found.ensures.answer in
    let content : length c.args.input.now.cursor.content < 2 ^ 63 = c.best_of_all.ensures.bound in
    omega (arith, fits.1, content)

pub returns-clause-answer : goal.returns-clause-answer
returns-clause-answer g c =
    let e = c.args.vm.now in
    let s = search_of e.utf8_empty c.args.input.now in
    let i = c.best_of_all.new.input.position in
    let m = c.in-Some.found in
    let slots = c.put_whole.new.slots in
    subst (λ k. IsAnswerAt c.args.earliest e s i (Some k) slots) (sym c.pattern.ensures)
    (some_of_all_at e s i m c.requires.all c.args.earliest c.in_ok-found.field-0 slots c.in-Some.is c.in_ok-found.ensures.answer (slots_are m slots (length c.clear_slots.new.slots) c.put_whole.ensures))

pub returns-clause-stops : goal.returns-clause-stops
returns-clause-stops g c = λ k some.
    let e = c.args.vm.now in
    let s = search_of e.utf8_empty c.args.input.now in
    all_stops e s c.best_of_all.new.input.position c.in-Some.found c.requires.all c.args.earliest c.in_ok-found.field-0 c.in-Some.is c.in_ok-found.ensures.answer
