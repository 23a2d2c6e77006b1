use Rattle.std.proofs.Common.{◌<◌, ◌≤◌, length, sym, arith}
use Rattle.std.proofs.lemmas.Bool.{eqb-true}
use Rattle.rx_grammar.specs.Repetitions.{decimal_after}
use Rattle.rx_grammar.proofs.ReaderLemmas.{number_read}
use Rattle.rx_grammar.proofs.repetitions.number.Goals as goal

pub returns-then-is_empty : goal.returns-then-is_empty
returns-then-is_empty c = λ n u number.
    let some : 1 ≤ length c.split_front.result.0.now = (number_read c.split_front.ensures number).1 in omega (arith, eqb-true (length c.split_front.result.0.now) 0 (sym c.if-is_empty.ensures))

pub returns-in-None : goal.returns-in-None
returns-in-None c = λ n u number.
    let read = number_read c.split_front.ensures number in
    let much : 65535 < decimal_after 0 c.split_front.result.0.now = c.in-None.ensures c.split_front.ensures.all in
    omega (arith, read.2, read.3)
