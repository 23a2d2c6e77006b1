use Rattle.std.proofs.Common.{◌≡◌, ◌<◌, [], List, ℕ, drop, length, sym, subst, arith}
use Rattle.std.proofs.lemmas.Bool.Decides.{nat_tests}
use Rattle.std.proofs.lemmas.List.{drop_all}
use Rattle.rope_search.specs.Header.{Spelling}
use Rattle.rope_search.proofs.HeaderLemmas.{Spelling-step, Spelling-stop, Spelling-nil}
use Rattle.rope_search.proofs.headers.number_of.Goals as goal

pub loop-digit-preserved : goal.loop-digit-preserved
loop-digit-preserved c =
    let step = c.in_ok-value.ensures in
    (omega (arith, step.0.1, step.1), Spelling-step _ _ _ _ c.loop-digit-test.true step.0.0 step.1 c.loop-digit.invariant.1)

pub returns-in_err-value-clause-none : goal.returns-in_err-value-clause-none
returns-in_err-value-clause-none c =
    rw c.from_residual.ensures (Spelling-stop _ _ _ c.loop-digit-test.true c.in_err-value.ensures c.loop-digit.invariant.1)

pub returns-clause-found : goal.returns-clause-found
returns-clause-found c =
    let value = c.loop-digit.value in
    let none : drop c.loop-digit.digit-index c.args.digits.now ≡ [] = drop_all c.loop-digit.digit-index c.args.digits.now (omega arith) in
    let whole : Spelling 0 c.args.digits.now value =
    (c.loop-digit.invariant.1 value).1 (subst (λ (ds : List ℕ). Spelling value ds value) (sym none) (Spelling-nil value c.loop-digit.invariant.0)) in
    let some : 0 < length c.args.digits.now = grind (arith, nat_tests, c.if-is_empty.ensures) in
    record { some = some; few = omega arith; decimal = whole.decimal; value = whole.value; fits = whole.fits }
