use Rattle.std.proofs.Common.{Err, length, ap, arith}
use Rattle.std.proofs.lemmas.Str.{encodes-chars}
use Rattle.rx_grammar.proofs.OutcomeLaws.{never_here}
use Rattle.rx_grammar.proofs.explanations.explain.Goals as goal

pub returns-in-Err-TooLong-clause-none : goal.returns-in-Err-TooLong-clause-none
returns-in-Err-TooLong-clause-none c =
    let long = c.in-Err-TooLong.ensures.too_long.0 (ap Err c.in-Err-TooLong.field-0-is) in
    let same = ap length (encodes-chars c.args.text.now c.utf8.text) in
    (λ e. absurd (cc), λ some. absurd (omega (arith, some.1.size, same, long)))

pub returns-in_ok-deep_place-in-Err-Nesting-clause-reason : goal.returns-in_ok-deep_place-in-Err-Nesting-clause-reason
returns-in_ok-deep_place-in-Err-Nesting-clause-reason c =
    let is = c.in-Err-Nesting.field-0-is in
    (c.in-Err-Nesting.ensures.nesting (λ e. absurd (cc))).0 (ap Err is)

pub returns-in_ok-deep_place-in-Err-Nesting-clause-none : goal.returns-in_ok-deep_place-in-Err-Nesting-clause-none
returns-in_ok-deep_place-in-Err-Nesting-clause-none c =
    let deep = returns-in_ok-deep_place-in-Err-Nesting-clause-reason c in
    (λ e. absurd (cc), λ some. absurd (deep.nothing some.0 some.1))

pub returns-in_ok-place-in-Err-Outside-clause-reason : goal.returns-in_ok-place-in-Err-Outside-clause-reason
returns-in_ok-place-in-Err-Outside-clause-reason c =
    let is = c.in-Err-Outside.field-0-is in
    (c.in-Err-Outside.ensures.outside (λ e. absurd (cc))).0 (ap Err is)

pub returns-in_ok-place-in-Err-Outside-clause-none : goal.returns-in_ok-place-in-Err-Outside-clause-none
returns-in_ok-place-in-Err-Outside-clause-none c =
    let never = returns-in_ok-place-in-Err-Outside-clause-reason c in
    (λ e. absurd (cc), λ some. absurd (never_here some.1 never.1))
