use Rattle.std.proofs.Common.{◌≡◌, [], ◌∷◌, length, Some, None, refl, ap, arith}
use Rattle.std.proofs.lemmas.Slice.Eq.{strip_prefix_is}
use Rattle.std.proofs.lemmas.Bool.Decides.{Decides-eqb, nat_tests}
use Rattle.rope_search.proofs.HeaderLemmas.{IsWorded-told, IsWorded-none, IsWorded-more, nothing_left}
use Rattle.rope_search.proofs.headers.position_after.Goals as goal

pub returns-in_err-strip_prefix-clause-none : goal.returns-in_err-strip_prefix-clause-none
returns-in_err-strip_prefix-clause-none c =
    rw c.from_residual.ensures
    (λ l k worded. strip_prefix_is Decides-eqb c.args.line.now c.args.word.now None c.in_err-strip_prefix.ensures.cases worded.0 worded.2)

pub returns-in_err-position-clause-none : goal.returns-in_err-position-clause-none
returns-in_err-position-clause-none c =
    let whole = strip_prefix_is Decides-eqb c.args.line.now c.args.word.now (Some c.in_ok-strip_prefix.field-0) c.in_ok-strip_prefix.ensures.cases in
    rw c.from_residual-in_err-position.ensures
    (λ l k h. IsWorded-none c.args.word.now c.args.line.now c.in_ok-strip_prefix.field-0.now (l ∷ k ∷ []) whole (c.in_err-position.ensures.none l k []) h)

pub returns-then-is_empty-clause-found : goal.returns-then-is_empty-clause-found
returns-then-is_empty-clause-found c =
    let whole = strip_prefix_is Decides-eqb c.args.line.now c.args.word.now (Some c.in_ok-strip_prefix.field-0) c.in_ok-strip_prefix.ensures.cases in
    let none : length c.in_ok-position.others.now ≡ 0 = grind (arith, nat_tests, c.if-is_empty.ensures, c.if-is_empty.true, c.is_empty.ensures) in
    IsWorded-told c.args.word.now c.args.line.now c.in_ok-strip_prefix.field-0.now c.in_ok-position.others.now (c.in_ok-position.position.line ∷ c.in_ok-position.position.column ∷ []) whole
    c.in_ok-position.ensures.found (nothing_left c.in_ok-position.others.now none)

pub returns-else-is_empty-clause-none : goal.returns-else-is_empty-clause-none
returns-else-is_empty-clause-none c =
    let whole = strip_prefix_is Decides-eqb c.args.line.now c.args.word.now (Some c.in_ok-strip_prefix.field-0) c.in_ok-strip_prefix.ensures.cases in
    let some : length c.in_ok-position.others.now ≡ 0 → ⊥ = λ none. grind (arith, nat_tests, none, c.if-is_empty.ensures, c.if-is_empty.false, c.is_empty.ensures) in
    λ l k h. IsWorded-more c.args.word.now c.args.line.now c.in_ok-strip_prefix.field-0.now c.in_ok-position.others.now (c.in_ok-position.position.line ∷ c.in_ok-position.position.column ∷ []) whole
    c.in_ok-position.ensures.found (λ e. some (ap length e)) (l ∷ k ∷ []) refl h
