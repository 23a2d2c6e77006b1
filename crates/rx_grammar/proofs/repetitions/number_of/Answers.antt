use Rattle.std.proofs.Common.{◌≡◌, ◌+◌, ◌*◌, ◌≤◌, drop, get_or, sym, ap, ◌∙◌, arith}
use Rattle.std.proofs.lemmas.List.{at_drop_more}
use Rattle.std.specs.Char.{digit_value}
use Rattle.rx_grammar.specs.Repetitions.{decimal_after}
use Rattle.rx_grammar.proofs.DigitLemmas.{decimal_after-grows}
use Rattle.rx_grammar.proofs.repetitions.number_of.Goals as goal

pub returns-then-number-gt-MAX_NUMBER : goal.returns-then-number-gt-MAX_NUMBER
returns-then-number-gt-MAX_NUMBER c = λ all.
    let ds = c.args.digits.now in
    let i = c.loop-digit.digit-index in
    let n = c.loop-digit.number in
    let item = c.digit-item.result in
    let d = get_or ds i item in
    let same : digit_value item ≡ digit_value d = ap digit_value c.digit-item.is in
    let next = at_drop_more (decimal_after n) ds i item c.loop-digit-test.true in
    let grows : 10 * n + digit_value d ≤ decimal_after (10 * n + digit_value d) (drop (i + 1) ds) = decimal_after-grows (10 * n + digit_value d) (drop (i + 1) ds) in
    let whole : decimal_after (10 * n + digit_value d) (drop (i + 1) ds) ≡ decimal_after 0 ds = sym next ∙ c.loop-digit.invariant.value in
    let value = c.in_ok-number.ensures.value in
    omega (arith, value.1)
