use Rattle.std.proofs.Common.{◌≡◌, [], ◌∷◌, length, Some, None, refl, ap, arith}
use Rattle.std.proofs.lemmas.Slice.Eq.{strip_prefix_is}
use Rattle.std.proofs.lemmas.Bool.Decides.{Decides-eqb, nat_tests}
use Rattle.rope_search.proofs.HeaderLemmas.{IsWorded-told, IsWorded-none, IsWorded-more, nothing_left}
use Rattle.rope_search.proofs.headers.number_after.Goals as goal

pub returns-in_err-strip_prefix-clause-none : goal.returns-in_err-strip_prefix-clause-none
returns-in_err-strip_prefix-clause-none c =
    rw c.from_residual.ensures
    (λ n worded. strip_prefix_is Decides-eqb c.args.line.now c.args.word.now None c.in_err-strip_prefix.ensures.cases worded.0 worded.2)

pub returns-in_err-number-clause-none : goal.returns-in_err-number-clause-none
returns-in_err-number-clause-none c =
    let whole = strip_prefix_is Decides-eqb c.args.line.now c.args.word.now (Some c.in_ok-strip_prefix.field-0) c.in_ok-strip_prefix.ensures.cases in
    rw c.from_residual-in_err-number.ensures
    (λ n h. IsWorded-none c.args.word.now c.args.line.now c.in_ok-strip_prefix.field-0.now (n ∷ []) whole (c.in_err-number.ensures.none n []) h)

pub returns-then-is_empty-clause-found : goal.returns-then-is_empty-clause-found
returns-then-is_empty-clause-found c =
    let whole = strip_prefix_is Decides-eqb c.args.line.now c.args.word.now (Some c.in_ok-strip_prefix.field-0) c.in_ok-strip_prefix.ensures.cases in
    let none : length c.in_ok-number.others.now ≡ 0 = grind (arith, nat_tests, c.if-is_empty.ensures, c.if-is_empty.true, c.is_empty.ensures) in
    IsWorded-told c.args.word.now c.args.line.now c.in_ok-strip_prefix.field-0.now c.in_ok-number.others.now (c.in_ok-number.number ∷ []) whole
    c.in_ok-number.ensures.found (nothing_left c.in_ok-number.others.now none)

pub returns-else-is_empty-clause-none : goal.returns-else-is_empty-clause-none
returns-else-is_empty-clause-none c =
    let whole = strip_prefix_is Decides-eqb c.args.line.now c.args.word.now (Some c.in_ok-strip_prefix.field-0) c.in_ok-strip_prefix.ensures.cases in
    let some : length c.in_ok-number.others.now ≡ 0 → ⊥ = λ none. grind (arith, nat_tests, none, c.if-is_empty.ensures, c.if-is_empty.false, c.is_empty.ensures) in
    λ n h. IsWorded-more c.args.word.now c.args.line.now c.in_ok-strip_prefix.field-0.now c.in_ok-number.others.now (c.in_ok-number.number ∷ []) whole
    c.in_ok-number.ensures.found (λ e. some (ap length e)) (n ∷ []) refl h
