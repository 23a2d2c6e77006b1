use Rattle.std.proofs.Common.{◌≤◌, length, sym, arith}
use Rattle.std.proofs.lemmas.Bool.{eqb-true}
use Rattle.rx_grammar.proofs.InputLemmas.{Begins-from}
use Rattle.rx_grammar.proofs.ReaderLemmas.{braces_read}
use Rattle.rx_grammar.proofs.escapes.number_in_braces.Goals.{then-is_empty-via-then-is_empty, then-is_empty-via-else-is_empty+then-digits-gt8}
use Rattle.rx_grammar.proofs.escapes.number_in_braces.Goals as goal

pub returns-in_default : goal.returns-in_default
returns-in_default c = λ x u number. c.in_default.ensures (Begins-from (braces_read c.split_front.ensures number).0)

pub returns-then-is_empty : goal.returns-then-is_empty
returns-then-is_empty c = λ x u number.
    let read = braces_read c.split_front.ensures number in
    let some : 1 ≤ length c.split_front.result.0.now = read.1 in
    let few : length c.split_front.result.0.now ≤ 8 = read.2 in
    elim c.then-is_empty.branch [
      | then-is_empty-via-then-is_empty w ↦ omega (arith, eqb-true (length c.split_front.result.0.now) 0 (sym w.if-is_empty.ensures))
      | then-is_empty-via-else-is_empty+then-digits-gt8 w ↦ omega arith
    ]

pub returns-in-None : goal.returns-in-None
returns-in-None c = λ x u number. c.in-None.ensures x (braces_read c.split_front.ensures number).3
