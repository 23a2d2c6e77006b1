use Rattle.std.proofs.Common.{Some, subst, arith}
use Rattle.rx_steps.specs.ListsAll.{IsBestMet, end_met_by}
use Rattle.rx_steps.proofs.EndLaws.{only_first, only_second, first_best, second_best}
use Rattle.rx_steps.proofs.started.least.Goals as goal

pub returns-in_default : goal.returns-in_default
returns-in_default c = λ start xs ys one other. only_first xs ys (end_met_by start c.args.first) one (subst (λ o. IsBestMet ys (end_met_by start o)) c.in_default.is other)

pub returns-in_default-first : goal.returns-in_default-first
returns-in_default-first c = λ start xs ys one other.
    only_second xs ys (end_met_by start (Some c.in-Some.other)) (subst (λ o. IsBestMet xs (end_met_by start o)) c.in_default-first.is one) (subst (λ o. IsBestMet ys (end_met_by start o)) c.in-Some.is other)

pub returns-then-as_usize : goal.returns-then-as_usize
returns-then-as_usize c = λ start xs ys one other.
    second_best xs ys (record { start = start; pattern = c.in-Some-first.one }) (record { start = start; pattern = c.in-Some.other }) (subst (λ o. IsBestMet xs (end_met_by start o)) c.in-Some-first.is one) (subst (λ o. IsBestMet ys (end_met_by start o)) c.in-Some.is other)
    (record { by_start = omega arith; by_pattern = λ e. omega (arith, c.if-as_usize.true, c.as_usize.ensures, c.as_usize-2.ensures) })

pub returns-else-as_usize : goal.returns-else-as_usize
returns-else-as_usize c = λ start xs ys one other.
    first_best xs ys (record { start = start; pattern = c.in-Some-first.one }) (record { start = start; pattern = c.in-Some.other }) (subst (λ o. IsBestMet xs (end_met_by start o)) c.in-Some-first.is one) (subst (λ o. IsBestMet ys (end_met_by start o)) c.in-Some.is other)
    (record { by_start = omega arith; by_pattern = λ e. omega (arith, c.if-as_usize.false, c.as_usize.ensures, c.as_usize-2.ensures) })
