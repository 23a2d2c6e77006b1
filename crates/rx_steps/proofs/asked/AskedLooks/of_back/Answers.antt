use Rattle.std.proofs.Common.{◌≡◌, ◌≤◌, length, map, option_map, Some, slice_get, sym, ap, ◌∙◌, arith}
use Rattle.std.proofs.lemmas.Option.{slice_get-get_or, slice_get-map}
use Rattle.std.proofs.lemmas.List.{length-map}
use Rattle.rx_walks.specs.Looks.{asks_characters}
use Rattle.rx_steps.specs.Asked.{is_look, is_of_lines}
use Rattle.rx_steps.specs.Reversed.{state_of}
use Rattle.rx_steps.proofs.AskedLaws.{one_more_told, all_told}
use Rattle.rx_steps.proofs.asked.AskedLooks.of_back.Goals as goal

pub loop-state-preserved : goal.loop-state-preserved
loop-state-preserved c =
    let states = map state_of c.args.states.now in
    let n = c.loop-state.state-index in
    let y = c.state-item.result in
    let x = state_of y in
    let here : slice_get states n ≡ Some x = slice_get-map state_of c.args.states.now n ∙ ap (option_map state_of) (slice_get-get_or c.args.states.now n y c.loop-state-test.true ∙ ap (λ z. Some z) (sym c.state-item.is)) in
    record {
      any = one_more_told states is_look n x c.loop-state.asked.any c.with_back-asked.result.any here c.with_back-asked.ensures.any c.loop-state.invariant.any;
      lines = one_more_told states is_of_lines n x c.loop-state.asked.lines c.with_back-asked.result.lines here c.with_back-asked.ensures.lines c.loop-state.invariant.lines;
      words = one_more_told states asks_characters n x c.loop-state.asked.words c.with_back-asked.result.words here c.with_back-asked.ensures.words c.loop-state.invariant.words;
    }

pub returns-clause-any : goal.returns-clause-any
returns-clause-any c =
    let past : length (map state_of c.args.states.now) ≤ c.loop-state.state-index = omega (arith, c.loop-state-test.false, length-map c.args.states.now state_of) in
    all_told (map state_of c.args.states.now) is_look c.loop-state.state-index c.loop-state.asked.any past c.loop-state.invariant.any

pub returns-clause-lines : goal.returns-clause-lines
returns-clause-lines c =
    let past : length (map state_of c.args.states.now) ≤ c.loop-state.state-index = omega (arith, c.loop-state-test.false, length-map c.args.states.now state_of) in
    all_told (map state_of c.args.states.now) is_of_lines c.loop-state.state-index c.loop-state.asked.lines past c.loop-state.invariant.lines

pub returns-clause-words : goal.returns-clause-words
returns-clause-words c =
    let past : length (map state_of c.args.states.now) ≤ c.loop-state.state-index = omega (arith, c.loop-state-test.false, length-map c.args.states.now state_of) in
    all_told (map state_of c.args.states.now) asks_characters c.loop-state.state-index c.loop-state.asked.words past c.loop-state.invariant.words
