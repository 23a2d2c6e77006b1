use Rattle.std.proofs.Common.{◌≡◌, ◌+◌, ◌-◌, length, arith, sym, ap, ◌∙◌}
use Rattle.std.proofs.lemmas.Bool.{eq-eqb, ne_eqb}
use Rattle.rx_dfa.specs.Alphabets.{AlphabetView}
use Rattle.rx_dfa.proofs.DenseLaws.{end_in}
use Rattle.rx_dfa.proofs.alphabet.Alphabet.end_column.Goals as goal

pub returns-then-may_begin-clause-end : goal.returns-then-may_begin-clause-end
returns-then-may_begin-clause-end c =
    let alphabet = c.args.self.now in
    let len : length c.self.inside.classes.bytes ≡ length alphabet.classes.bytes = ap (λ (v : AlphabetView). length v.classes.bytes) c.self.view_is in
    let k = c.column_count.result - 2 in
    let here : k ≡ length alphabet.classes.bytes = omega (arith, c.column_count.ensures, len) in
    end_in alphabet k c.args.may_begin (omega (arith, here)) (eq-eqb k (length alphabet.classes.bytes) here ∙ sym c.if-may_begin.true)

pub returns-else-may_begin-clause-end : goal.returns-else-may_begin-clause-end
returns-else-may_begin-clause-end c =
    let alphabet = c.args.self.now in
    let len : length c.self.inside.classes.bytes ≡ length alphabet.classes.bytes = ap (λ (v : AlphabetView). length v.classes.bytes) c.self.view_is in
    let k = c.column_count-else-may_begin.result - 1 in
    let here : k ≡ length alphabet.classes.bytes + 1 = omega (arith, c.column_count-else-may_begin.ensures, len) in
    end_in alphabet k c.args.may_begin (omega (arith, here)) (ne_eqb k (length alphabet.classes.bytes) (λ e. omega (arith, here, e)) ∙ sym c.if-may_begin.false)
