use Rattle.std.proofs.Common.{Some, subst}
use Rattle.rx_steps.specs.ListsAll.{IsBestMet}
use Rattle.rx_steps.proofs.EndLaws.{only_first, only_second, first_best, second_best}
use Rattle.rx_steps.proofs.started.better.Goals as goal

pub returns-in_default : goal.returns-in_default
returns-in_default c = λ xs ys one other. only_first xs ys c.args.first one (subst (λ o. IsBestMet ys o) c.in_default.is other)

pub returns-in_default-first : goal.returns-in_default-first
returns-in_default-first c = λ xs ys one other.
    only_second xs ys (Some c.in-Some.other) (subst (λ o. IsBestMet xs o) c.in_default-first.is one) (subst (λ o. IsBestMet ys o) c.in-Some.is other)

pub returns-then-is_better : goal.returns-then-is_better
returns-then-is_better c = λ xs ys one other.
    second_best xs ys c.in-Some-first.one c.in-Some.other (subst (λ o. IsBestMet xs o) c.in-Some-first.is one) (subst (λ o. IsBestMet ys o) c.in-Some.is other) (c.is_better.ensures.yes c.if-is_better.true)

pub returns-else-is_better : goal.returns-else-is_better
returns-else-is_better c = λ xs ys one other.
    first_best xs ys c.in-Some-first.one c.in-Some.other (subst (λ o. IsBestMet xs o) c.in-Some-first.is one) (subst (λ o. IsBestMet ys o) c.in-Some.is other) (c.is_better.ensures.no c.if-is_better.false)
