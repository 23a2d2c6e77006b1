use Rattle.std.proofs.Common.{◌≡◌, ◌<◌, ◌≤◌, All, Some, subst, sym, ap, ◌∙◌, get_or, length, map, option_map, slice_get, arith}
use Rattle.std.proofs.lemmas.List.{length-map}
use Rattle.std.proofs.lemmas.Option.{get_or_from_slice_get, slice_get-get_or, slice_get-map}
use Rattle.rx_steps.specs.Reversed.{state_of}
use Rattle.rx_dfa.specs.Classes.{StateIsCut}
use Rattle.rx_dfa.proofs.ClassLaws.{states_more, looks_stay, take_all}
use Rattle.rx_dfa.proofs.classes.cuts_of_back.Goals as goal

pub loop-state-preserved : goal.loop-state-preserved
loop-state-preserved c =
    let same = c.states-state-items.ensures.states in
    let turned = c.args.reverse.now.states in
    let states = map state_of turned in
    let n = c.loop-state.state-index in
    let y = c.state-item.result in
    let x = state_of y in
    let inside : n < length turned = omega (arith, c.loop-state-test.true, ap length same) in
    let item : get_or turned n y ≡ y = sym (c.state-item.is ∙ ap (λ xs. get_or xs n y) same) in
    let here : slice_get states n ≡ Some x = slice_get-map state_of turned n ∙ ap (option_map state_of) (slice_get-get_or turned n y inside ∙ ap Some item) in
    record {
      looks = looks_stay c.args.asked c.args.reverse.now.line_terminator c.loop-state.cuts c.cut_state_back.new.cuts c.cut_state_back.ensures.more c.loop-state.invariant.looks;
      cut = states_more c.loop-state.cuts c.cut_state_back.new.cuts states n x x (omega (arith, inside, length-map turned state_of)) c.cut_state_back.ensures.more c.loop-state.invariant.cut
          (get_or_from_slice_get states n x x here) c.cut_state_back.ensures.cut;
    }

pub returns-clause-states : goal.returns-clause-states
returns-clause-states c =
    let turned = c.args.reverse.now.states in
    let states = map state_of turned in
    let past : length states ≤ c.loop-state.state-index = omega (arith, c.loop-state-test.false, ap length c.states-state-items.ensures.states, length-map turned state_of) in
    subst (λ xs. All (StateIsCut c.loop-state.cuts) xs) (take_all states c.loop-state.state-index past) c.loop-state.invariant.cut
