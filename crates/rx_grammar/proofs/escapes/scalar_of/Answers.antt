use Rattle.std.proofs.Common.{◌≡◌, ◌+◌, ◌*◌, ◌≤◌, drop, get_or, sym, ap, ◌∙◌, arith}
use Rattle.std.proofs.lemmas.List.{at_drop_more}
use Rattle.std.specs.Char.{digit_value}
use Rattle.rx_grammar.specs.Escapes.{hex_after}
use Rattle.rx_grammar.proofs.DigitLemmas.{hex_after-grows, scalar_bound}
use Rattle.rx_grammar.proofs.escapes.scalar_of.Goals as goal

pub returns-then-code-gt-MAX_SCALAR : goal.returns-then-code-gt-MAX_SCALAR
returns-then-code-gt-MAX_SCALAR c = λ x spells.
    let ds = c.args.digits.now in
    let i = c.loop-digit.digit-index in
    let n = c.loop-digit.code in
    let item = c.digit-item.result in
    let d = get_or ds i item in
    let same : digit_value item ≡ digit_value d = ap digit_value c.digit-item.is in
    let next = at_drop_more (hex_after n) ds i item c.loop-digit-test.true in
    let grows : 16 * n + digit_value d ≤ hex_after (16 * n + digit_value d) (drop (i + 1) ds) = hex_after-grows (16 * n + digit_value d) (drop (i + 1) ds) in
    let whole : hex_after (16 * n + digit_value d) (drop (i + 1) ds) ≡ hex_after 0 ds = sym next ∙ c.loop-digit.invariant.value in
    let bound : x ≤ 0x10_FFFF = scalar_bound x spells.scalar in
    let value = c.in_ok-code.ensures.value in
    omega (arith, value.1, spells.value)
