use Rattle.std.proofs.Common.{◌≡◌, [], ◌∷◌, length, codes, Some, refl, ap, arith}
use Rattle.std.proofs.lemmas.Slice.Eq.{strip_prefix_is}
use Rattle.std.proofs.lemmas.Bool.Decides.{Decides-eqb, nat_tests}
use Rattle.rope_search.specs.Header.{SpellsFront}
use Rattle.rope_search.proofs.HeaderLemmas.{Begins-then, Begins-rest, IsWorded-told, IsWorded-none, IsWorded-more, nothing_left, edit_numbers}
use Rattle.rope_search.proofs.headers.edit_of.Goals as goal

pub returns-in_err-from-clause-none : goal.returns-in_err-from-clause-none
returns-in_err-from-clause-none c =
    let line = c.args.line.now in
    let rest = c.in_ok-strip_prefix.field-0.now in
    let whole = strip_prefix_is Decides-eqb line (codes "edit") (Some c.in_ok-strip_prefix.field-0) c.in_ok-strip_prefix.ensures.cases in
    rw c.from_residual-in_err-from.ensures
    (λ l k m j n h. IsWorded-none (codes "edit") line rest (l ∷ k ∷ m ∷ j ∷ n ∷ []) whole (c.in_err-from.ensures.none l k (m ∷ j ∷ n ∷ [])) h)

pub returns-in_err-to-clause-none : goal.returns-in_err-to-clause-none
returns-in_err-to-clause-none c =
    let line = c.args.line.now in
    let rest = c.in_ok-strip_prefix.field-0.now in
    let from = c.in_ok-from.from in
    let whole = strip_prefix_is Decides-eqb line (codes "edit") (Some c.in_ok-strip_prefix.field-0) c.in_ok-strip_prefix.ensures.cases in
    rw c.from_residual-in_err-to.ensures
    (λ l k m j n h. IsWorded-none (codes "edit") line rest (l ∷ k ∷ m ∷ j ∷ n ∷ []) whole
    (λ spelled. c.in_err-to.ensures.none m j (n ∷ [])
    (Begins-rest rest (from.line ∷ from.column ∷ []) c.in_ok-from.others.now (l ∷ k ∷ []) (m ∷ j ∷ n ∷ []) c.in_ok-from.ensures.found refl spelled)) h)

pub returns-in_err-len-clause-none : goal.returns-in_err-len-clause-none
returns-in_err-len-clause-none c =
    let line = c.args.line.now in
    let rest = c.in_ok-strip_prefix.field-0.now in
    let from = c.in_ok-from.from in
    let to = c.in_ok-to.to in
    let whole = strip_prefix_is Decides-eqb line (codes "edit") (Some c.in_ok-strip_prefix.field-0) c.in_ok-strip_prefix.ensures.cases in
    let both : SpellsFront rest (from.line ∷ from.column ∷ to.line ∷ to.column ∷ []) c.in_ok-to.others.now =
    Begins-then rest c.in_ok-from.others.now c.in_ok-to.others.now (from.line ∷ from.column ∷ []) (to.line ∷ to.column ∷ []) c.in_ok-from.ensures.found c.in_ok-to.ensures.found in
    rw c.from_residual-in_err-len.ensures
    (λ l k m j n h. IsWorded-none (codes "edit") line rest (l ∷ k ∷ m ∷ j ∷ n ∷ []) whole
    (λ spelled. c.in_err-len.ensures.none n []
    (Begins-rest rest (from.line ∷ from.column ∷ to.line ∷ to.column ∷ []) c.in_ok-to.others.now (l ∷ k ∷ m ∷ j ∷ []) (n ∷ []) both refl spelled)) h)

pub returns-then-is_empty-clause-found : goal.returns-then-is_empty-clause-found
returns-then-is_empty-clause-found c =
    let line = c.args.line.now in
    let rest = c.in_ok-strip_prefix.field-0.now in
    let from = c.in_ok-from.from in
    let to = c.in_ok-to.to in
    let others = c.in_ok-len.others.now in
    let whole = strip_prefix_is Decides-eqb line (codes "edit") (Some c.in_ok-strip_prefix.field-0) c.in_ok-strip_prefix.ensures.cases in
    let both : SpellsFront rest (from.line ∷ from.column ∷ to.line ∷ to.column ∷ []) c.in_ok-to.others.now =
    Begins-then rest c.in_ok-from.others.now c.in_ok-to.others.now (from.line ∷ from.column ∷ []) (to.line ∷ to.column ∷ []) c.in_ok-from.ensures.found c.in_ok-to.ensures.found in
    let all : SpellsFront rest (edit_numbers from to c.in_ok-len.len) others =
    Begins-then rest c.in_ok-to.others.now others (from.line ∷ from.column ∷ to.line ∷ to.column ∷ []) (c.in_ok-len.len ∷ []) both c.in_ok-len.ensures.found in
    let none : length others ≡ 0 = grind (arith, nat_tests, c.if-is_empty.ensures, c.if-is_empty.true, c.is_empty.ensures) in
    IsWorded-told (codes "edit") line rest others (edit_numbers from to c.in_ok-len.len) whole all (nothing_left others none)

pub returns-else-is_empty-clause-none : goal.returns-else-is_empty-clause-none
returns-else-is_empty-clause-none c =
    let line = c.args.line.now in
    let rest = c.in_ok-strip_prefix.field-0.now in
    let from = c.in_ok-from.from in
    let to = c.in_ok-to.to in
    let others = c.in_ok-len.others.now in
    let whole = strip_prefix_is Decides-eqb line (codes "edit") (Some c.in_ok-strip_prefix.field-0) c.in_ok-strip_prefix.ensures.cases in
    let both : SpellsFront rest (from.line ∷ from.column ∷ to.line ∷ to.column ∷ []) c.in_ok-to.others.now =
    Begins-then rest c.in_ok-from.others.now c.in_ok-to.others.now (from.line ∷ from.column ∷ []) (to.line ∷ to.column ∷ []) c.in_ok-from.ensures.found c.in_ok-to.ensures.found in
    let all : SpellsFront rest (edit_numbers from to c.in_ok-len.len) others =
    Begins-then rest c.in_ok-to.others.now others (from.line ∷ from.column ∷ to.line ∷ to.column ∷ []) (c.in_ok-len.len ∷ []) both c.in_ok-len.ensures.found in
    let some : length others ≡ 0 → ⊥ = λ none. grind (arith, nat_tests, none, c.if-is_empty.ensures, c.if-is_empty.false, c.is_empty.ensures) in
    λ l k m j n h. IsWorded-more (codes "edit") line rest others (edit_numbers from to c.in_ok-len.len) whole all (λ e. some (ap length e)) (l ∷ k ∷ m ∷ j ∷ n ∷ []) refl h
