use Rattle.std.proofs.Common.{ℕ, ◌≡◌, ◌-◌, ◌<◌, true, List, length, take, sym, ap, subst, ◌∙◌, arith}
use Rattle.std.proofs.lemmas.List.{length-take}
use Rattle.std.proofs.lemmas.Option.{slice_get_within}
use Rattle.rx_steps.specs.Searching.{search_of}
use Rattle.rx_dfa.specs.Back.{StandsBack, StopsBack, placed_error}
use Rattle.rx_dfa.proofs.BackLaws.{refused_before, stands_on_back}
use Rattle.rx_dfa.proofs.TableLaws.{there_is}
use Rattle.rx_dfa.proofs.back.pass_back.Goals as goal

pub overflow_sub-end : goal.overflow_sub-end
overflow_sub-end g c = omega (arith, (c.requires.inside true).3, c.position-at.ensures.position, c.end-end.ensures)

pub scan-requires-clause-fits : goal.scan-requires-clause-fits
scan-requires-clause-fits g c =
    let inside = c.requires.inside true in
    let there = c.bytes_before-len.ensures.stand true inside in
    omega (arith, there.low, inside.3, c.position-at.ensures.position, c.end-end.ensures, c.end-end.type_inv)

pub overflow_sub-at : goal.overflow_sub-at
overflow_sub-at g c =
    let there = c.bytes_before-len.ensures.stand true (c.requires.inside true) in
    omega (arith, c.in-Ok.ensures.within, there.low, c.position-at.ensures.position)

pub returns-in-Err-clause-refused : goal.returns-in-Err-clause-refused
returns-in-Err-clause-refused g c = λ b.
    let a = c.args.automaton.now in
    let asked = a.alphabet.now.asked in
    let w = g.T.Table.is_whole in
    let input = c.args.input.now in
    let s = search_of b input in
    let bytes = take c.bytes_before-len.result.1 c.bytes_before-len.result.0 in
    let there = c.bytes_before-len.ensures.stand b (c.requires.inside b) in
    let far : c.end-end.result - c.position-at.result ≡ s.end - input.position = ap (λ e. e - c.position-at.result) c.end-end.ensures ∙ ap (λ k. s.end - k) c.position-at.ensures.position in
    let told = refused_before w a s input.position (c.end-end.result - c.position-at.result) bytes c.in-Err.error there (c.requires.inside b) far c.in-Err.ensures.refused in
    subst (λ e. StopsBack w asked s e) (sym (c.placed_error.ensures ∙ ap (λ e. placed_error e c.in-Err.error) c.end-end.ensures)) told

pub returns-in-Ok-clause-number : goal.returns-in-Ok-clause-number
returns-in-Ok-clause-number g c =
    let here = there_is (g.T.Table.shown c.args.table.now).states c.args.number c.requires.number in
    let on = c.in-Ok.ensures.passed here.0 here.1 in
    slice_get_within (g.T.Table.shown c.scan.new.table).states c.in-Ok.next on.next on.stands

pub returns-in-Ok-clause-stands : goal.returns-in-Ok-clause-stands
returns-in-Ok-clause-stands g c = λ b q last at.
    let a = c.args.automaton.now in
    let input = c.args.input.now in
    let s = search_of b input in
    let old = (g.T.Table.shown c.args.table.now).states in
    let new = (g.T.Table.shown c.scan.new.table).states in
    let bytes = take c.bytes_before-len.result.1 c.bytes_before-len.result.0 in
    let n = c.in-Ok.passed in
    let there = c.bytes_before-len.ensures.stand b (c.requires.inside b) in
    let d = c.end-end.result - c.position-at.result in
    let e : d ≡ s.end - input.position = ap (λ e. e - c.position-at.result) c.end-end.ensures ∙ ap (λ k. s.end - k) c.position-at.ensures.position in
    let same = ap (λ (xs : List ℕ). length xs) c.bytes_before-len.ensures.same.same.content in
    let far : input.position - n ≡ c.move_to.new.self.position = omega (arith, c.move_to.ensures.position_is, c.position-at.ensures.position, same, (c.requires.inside b).4) in
    subst (λ i. StandsBack a s q i new c.in-Ok.next c.scan.new.met) far
    (stands_on_back a s q input.position d n bytes old new c.args.number c.in-Ok.next c.args.met.now c.scan.new.met c.requires.back last (c.requires.inside b) there e c.in-Ok.ensures.within c.in-Ok.ensures.passed at)

pub returns-in-Ok-clause-inside : goal.returns-in-Ok-clause-inside
returns-in-Ok-clause-inside g c = λ b.
    let input = c.args.input.now in
    let inside = c.requires.inside b in
    let there = c.bytes_before-len.ensures.stand b inside in
    let same = ap (λ (xs : List ℕ). length xs) c.bytes_before-len.ensures.same.same.content in
    let far : input.position - c.in-Ok.passed ≡ c.move_to.new.self.position = omega (arith, c.move_to.ensures.position_is, c.position-at.ensures.position, same, inside.4) in
    (omega (arith, far, there.low, c.in-Ok.ensures.within), omega (arith, far, inside.1), omega (arith, far, there.low, c.in-Ok.ensures.within), omega (arith, far, inside.3), omega (arith, far, inside.4))

pub returns-in-Ok-clause-on : goal.returns-in-Ok-clause-on
returns-in-Ok-clause-on g c = λ b lt.
    let input = c.args.input.now in
    let inside = c.requires.inside b in
    let there = c.bytes_before-len.ensures.stand b inside in
    let same = ap (λ (xs : List ℕ). length xs) c.bytes_before-len.ensures.same.same.content in
    let some = c.bytes_before-len.ensures.some b inside lt in
    let far : input.position - c.in-Ok.passed ≡ c.move_to.new.self.position = omega (arith, c.move_to.ensures.position_is, c.position-at.ensures.position, same, inside.4) in
    let n = c.bytes_before-len.result.1 in
    let bytes = c.bytes_before-len.result.0 in
    let len : 0 < length (take n bytes) = omega (arith, length-take n bytes, some, c.bytes_before-len.ensures.long) in
    let on = c.in-Ok.ensures.some len in
    omega (arith, far, on, there.low, c.in-Ok.ensures.within, lt)
