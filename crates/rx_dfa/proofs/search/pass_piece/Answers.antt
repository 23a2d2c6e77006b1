use Rattle.std.proofs.Common.{◌≡◌, ◌+◌, take, Some, slice_get, refl, subst, arith}
use Rattle.std.proofs.lemmas.Option.{slice_get_within}
use Rattle.rx_dfa.specs.declared.states.AutomatonState.{AutomatonState}
use Rattle.rx_dfa.specs.Passing.{HasPassed, SearchStandsAt, search_by}
use Rattle.rx_dfa.specs.Tables.{IsRefusalAmong}
use Rattle.rx_dfa.proofs.TableLaws.{there_is}
use Rattle.rx_dfa.proofs.LoopLaws.{Laws}
use Rattle.rx_dfa.proofs.ScanLaws.{content_long, refused_there, stands_on}
use Rattle.rx_dfa.proofs.LowerLaws.{first_character, last_character}
use Rattle.rx_steps.proofs.AlikeLaws.{steps_are_alike, steps_end}
use Rattle.rx_walks.proofs.LookLaws.{one_byte_tells}
use Rattle.rx_dfa.proofs.search.pass_piece.Goals as goal

pub returns-in-Err-clause-refused : goal.returns-in-Err-clause-refused
returns-in-Err-clause-refused g c =
    let a = c.args.automaton.now in
    let b = g.T.Table.is_whole in
    let input = c.args.input.now in
    let s = search_by a input in
    let bytes = c.bytes_ahead.result.now in
    let there = c.bytes_ahead.ensures.stand a.alphabet.now.utf8_empty c.requires.inside in
    refused_there b a s input.position bytes c.in-Err.error there c.requires.inside.4 (subst (λ i. IsRefusalAmong b a i bytes c.in-Err.error) c.position-at.ensures.position c.in-Err.ensures.refused)

pub returns-in-Ok-clause-number : goal.returns-in-Ok-clause-number
returns-in-Ok-clause-number g c =
    let here = there_is (g.T.Table.shown c.args.table.now).states c.args.number c.requires.number in
    let on = c.in-Ok.ensures.passed here.0 here.1 in
    slice_get_within (g.T.Table.shown c.scan.new.table).states c.in-Ok.next on.next on.stands

pub returns-in-Ok-clause-stands : goal.returns-in-Ok-clause-stands
returns-in-Ok-clause-stands g c = λ q at.
    let a = c.args.automaton.now in
    let input = c.args.input.now in
    let s = search_by a input in
    let old = (g.T.Table.shown c.args.table.now).states in
    let new = (g.T.Table.shown c.scan.new.table).states in
    let bytes = c.bytes_ahead.result.now in
    let n = c.in-Ok.passed in
    let there = c.bytes_ahead.ensures.stand a.alphabet.now.utf8_empty c.requires.inside in
    let long = content_long s input.position bytes there c.requires.inside.4 in
    let laws : Laws = record { alike = steps_are_alike; end = steps_end; one_byte = one_byte_tells; first = first_character; last = last_character } in
    let far : input.position + n ≡ c.move_to.new.self.position = omega (arith, c.move_to.ensures.position_is, c.position-at.ensures.position, long, c.in-Ok.ensures.within) in
    let passed : (x : AutomatonState) → slice_get old c.args.number ≡ Some x → HasPassed a new x (take n bytes) input.position c.args.met.now c.in-Ok.next c.scan.new.met =
    λ x stands. subst (λ i. HasPassed a new x (take n bytes) i c.args.met.now c.in-Ok.next c.scan.new.met) c.position-at.ensures.position (c.in-Ok.ensures.passed x stands) in
    subst (λ i. SearchStandsAt a s q i new c.in-Ok.next c.scan.new.met) far
    (stands_on laws a s q input.position n bytes old new c.args.number c.in-Ok.next c.args.met.now c.scan.new.met c.requires.forward.way c.requires.is.asked refl there c.in-Ok.ensures.within passed at)

pub returns-in-Ok-clause-inside : goal.returns-in-Ok-clause-inside
returns-in-Ok-clause-inside g c =
    let a = c.args.automaton.now in
    let input = c.args.input.now in
    let there = c.bytes_ahead.ensures.stand a.alphabet.now.utf8_empty c.requires.inside in
    let long = content_long (search_by a input) input.position c.bytes_ahead.result.now there c.requires.inside.4 in
    let far : input.position + c.in-Ok.passed ≡ c.move_to.new.self.position = omega (arith, c.move_to.ensures.position_is, c.position-at.ensures.position, long, c.in-Ok.ensures.within) in
    let inside = c.requires.inside in
    (omega (arith, far, inside.0), omega (arith, far, there.end, c.in-Ok.ensures.within), omega (arith, far, inside.2), omega (arith, far, there.end, c.in-Ok.ensures.within), omega (arith, far, long, c.in-Ok.ensures.within))

pub returns-in-Ok-clause-on : goal.returns-in-Ok-clause-on
returns-in-Ok-clause-on g c = λ lt.
    let a = c.args.automaton.now in
    let input = c.args.input.now in
    let there = c.bytes_ahead.ensures.stand a.alphabet.now.utf8_empty c.requires.inside in
    let long = content_long (search_by a input) input.position c.bytes_ahead.result.now there c.requires.inside.4 in
    let some = c.in-Ok.ensures.some (c.bytes_ahead.ensures.some a.alphabet.now.utf8_empty c.requires.inside lt) in
    omega (arith, some, c.move_to.ensures.position_is, c.position-at.ensures.position, long, c.in-Ok.ensures.within)
