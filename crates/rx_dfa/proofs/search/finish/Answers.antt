use Rattle.std.proofs.Common.{◌≡◌, Some, slice_get, arith, sym, ap, subst, ◌∙◌}
use Rattle.rx_dfa.specs.Automata.{directed}
use Rattle.rx_dfa.specs.Passing.{IsLastColumn, search_by}
use Rattle.rx_dfa.specs.Searching.{IsHalfAnswer, met_after}
use Rattle.rx_dfa.proofs.LoopLaws.{Laws}
use Rattle.rx_dfa.proofs.EndLaws.{last_answers}
use Rattle.rx_dfa.proofs.SearchLaws.{byte_there}
use Rattle.rx_dfa.proofs.ScanLaws.{cache_in, lacks_there, quit_there, state_at}
use Rattle.rx_dfa.proofs.LowerLaws.{first_character, keeping_law, last_character}
use Rattle.rx_steps.proofs.AlikeLaws.{steps_are_alike, steps_end}
use Rattle.rx_walks.proofs.LookLaws.{one_byte_tells}
use Rattle.rx_dfa.proofs.search.finish.Goals as goal

pub returns-in-Some-clause-refused : goal.returns-in-Some-clause-refused
returns-in-Some-clause-refused g c =
    let a = c.args.automaton.now in
    let i = c.args.input.now.position in
    let s = search_by a c.args.input.now in
    let told = c.in-Some.ensures.some in
    let there = byte_there s i c.in-Some.byte (sym (c.byte_seen-seen.ensures a.alphabet.now.utf8_empty) ∙ told.0) in
    let stands : slice_get s.content c.position-at.result ≡ Some c.in-Some.byte = ap (λ k. slice_get s.content k) c.position-at.ensures.position ∙ there.0 in
    quit_there g.T.Table.is_whole a s c.in-Some.byte c.position-at.result (
      stands,
      omega (arith, c.requires.inside.0, c.position-at.ensures.position),
      omega (arith, there.1, c.position-at.ensures.position),
      told.1,
    )

pub last_end-requires-clause-column : goal.last_end-requires-clause-column
last_end-requires-clause-column g c = (c.last_column-column.ensures c.requires.last (c.byte_seen-seen.ensures c.args.automaton.now.alphabet.now.utf8_empty) (c.byte_that_quits.ensures.none c.in_default.is)).inside

pub last_end-requires-clause-goes_on : goal.last_end-requires-clause-goes_on
last_end-requires-clause-goes_on g c = (c.last_column-column.ensures c.requires.last (c.byte_seen-seen.ensures c.args.automaton.now.alphabet.now.utf8_empty) (c.byte_that_quits.ensures.none c.in_default.is)).goes_on

pub returns-in-Ok-clause-answer : goal.returns-in-Ok-clause-answer
returns-in-Ok-clause-answer g c = λ q starts at.
    let a = c.args.automaton.now in
    let old = g.T.Table.shown c.args.table.now in
    let s = search_by a c.args.input.now in
    let i = c.args.input.now.position in
    let is : IsLastColumn a s i c.last_column-column.result = c.last_column-column.ensures c.requires.last (c.byte_seen-seen.ensures a.alphabet.now.utf8_empty) (c.byte_that_quits.ensures.none c.in_default.is) in
    let laws : Laws = record { alike = steps_are_alike; end = steps_end; one_byte = one_byte_tells; first = first_character; last = last_character } in
    let whole = last_answers laws a s q i c.last_column-column.result at.state c.in-Ok.ended c.args.met c.requires.forward.reads keeping_law starts c.requires.is.asked
    (state_at (directed a) a.alphabet.now old c.args.number at.state (cache_in g.T.Table.is_whole a old c.requires.table) at.stands).bare c.requires.inside c.requires.last is at.behind (c.in-Ok.ensures.step at.state at.stands) at.reached in
    subst (λ o. IsHalfAnswer (directed a).bytes s o) (ap (λ k. met_after k c.in-Ok.ended c.args.met) (sym c.position-at.ensures.position) ∙ sym c.last_met.ensures) whole

pub returns-in-Err-clause-refused : goal.returns-in-Err-clause-refused
returns-in-Err-clause-refused g c =
    let a = c.args.automaton.now in
    lacks_there g.T.Table.is_whole a (search_by a c.args.input.now) c.args.input.now.position c.position-at.result c.in-Err.error c.requires.inside c.position-at.ensures.position c.in-Err.ensures.refused
