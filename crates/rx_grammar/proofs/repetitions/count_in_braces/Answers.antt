use Rattle.std.proofs.Common.{◌≤◌, subst, arith}
use Rattle.rx_grammar.specs.Input.{Begins}
use Rattle.rx_grammar.specs.Repetitions.{exactly, at_least, between}
use Rattle.rx_grammar.proofs.RepetitionLaws.{number_unique, no_count, no_end, second_number}
use Rattle.rx_grammar.proofs.repetitions.count_in_braces.Goals as goal

pub returns-in_default : goal.returns-in_default
returns-in_default c = λ n m u count. no_count c.in_default.ensures count

pub returns-in-Some-eat : goal.returns-in-Some-eat
returns-in-Some-eat c = exactly c.in-Some.ensures c.in-Some-eat.ensures

pub returns-in_default-eat-2 : goal.returns-in_default-eat-2
returns-in_default-eat-2 c = λ n m u count. no_end c.in-Some.ensures c.in_default-eat.ensures c.in_default-eat-2.ensures count

pub returns-in-Some-eat-3 : goal.returns-in-Some-eat-3
returns-in-Some-eat-3 c = at_least c.in-Some.ensures c.in-Some-eat-2.ensures c.in-Some-eat-3.ensures

pub returns-in_default-number : goal.returns-in_default-number
returns-in_default-number c = λ n m u count.
    let second = second_number c.in-Some.ensures c.in-Some-eat-2.ensures c.in_default-eat-3.ensures count in
    c.in_default-number.ensures second.0 second.1 second.2

pub returns-in_default-eat-4 : goal.returns-in_default-eat-4
returns-in_default-eat-4 c = λ n m u count.
    let second = second_number c.in-Some.ensures c.in-Some-eat-2.ensures c.in_default-eat-3.ensures count in
    let same = number_unique second.2 c.in-Some-number.ensures in
    c.in_default-eat-4.ensures (subst (Begins 125) same.1 second.3)

pub returns-then-most-least : goal.returns-then-most-least
returns-then-most-least c = λ n m u count.
    let second = second_number c.in-Some.ensures c.in-Some-eat-2.ensures c.in_default-eat-3.ensures count in
    let same = number_unique second.2 c.in-Some-number.ensures in
    let order : c.in-Some.least ≤ second.0 = second.4 in
    omega (arith, same.0)

pub returns : goal.returns
returns c = between c.in-Some.ensures c.in-Some-eat-2.ensures c.in-Some-number.ensures c.in-Some-eat-4.ensures c.if-most-least.false
