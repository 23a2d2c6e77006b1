use Rattle.std.proofs.Common.{◌≡◌, List, ℕ, [], ◌∷◌, ◌++◌, take, drop, Some, sym, ap, ◌∙◌, subst, take-append-drop}
use Rattle.std.proofs.lemmas.Slice.Eq.{strip_prefix_is}
use Rattle.std.proofs.lemmas.Bool.Decides.{Decides-eqb}
use Rattle.rope_search.specs.Header.{HasNoSpace, EndsNumber}
use Rattle.rope_search.proofs.HeaderLemmas.{Begins-number, Begins-none}
use Rattle.rope_search.proofs.headers.next_number.Goals as goal

-- bytes that are split are the space, the digits and the others
cut_whole : (bytes rest digits others : List ℕ) (k : ℕ) → bytes ≡ (32 ∷ []) ++ rest → digits ≡ take k rest → others ≡ drop k rest → bytes ≡ 32 ∷ digits ++ others
cut_whole bytes rest digits others k whole front back =
    whole ∙ ap (λ l. 32 ∷ l) (sym (take-append-drop k rest) ∙ ap (λ l. l ++ drop k rest) (sym front) ∙ ap (λ l. digits ++ l) (sym back))

pub returns-in_err-number_of-clause-none : goal.returns-in_err-number_of-clause-none
returns-in_err-number_of-clause-none c =
    let rest = c.in_ok-bytes.bytes.now in
    let digits = c.split_at.result.0.now in
    let others = c.split_at.result.1.now in
    let whole = strip_prefix_is Decides-eqb c.args.bytes.now (32 ∷ []) (Some c.in_ok-bytes.bytes) c.in_ok-bytes.ensures.cases in
    let clean : HasNoSpace digits = subst HasNoSpace (sym c.split_at.ensures.front) c.len_to_space.ensures.before in
    let ends : EndsNumber others = subst EndsNumber (sym c.split_at.ensures.back) c.len_to_space.ensures.behind in
    rw c.from_residual-in_err-number_of.ensures
    (Begins-none c.args.bytes.now digits others clean ends (cut_whole c.args.bytes.now rest digits others c.len_to_space.result whole c.split_at.ensures.front c.split_at.ensures.back)
    c.in_err-number_of.ensures.none)

pub returns-clause-found : goal.returns-clause-found
returns-clause-found c =
    let rest = c.in_ok-bytes.bytes.now in
    let digits = c.split_at.result.0.now in
    let others = c.split_at.result.1.now in
    let whole = strip_prefix_is Decides-eqb c.args.bytes.now (32 ∷ []) (Some c.in_ok-bytes.bytes) c.in_ok-bytes.ensures.cases in
    let clean : HasNoSpace digits = subst HasNoSpace (sym c.split_at.ensures.front) c.len_to_space.ensures.before in
    let ends : EndsNumber others = subst EndsNumber (sym c.split_at.ensures.back) c.len_to_space.ensures.behind in
    Begins-number c.args.bytes.now digits others c.in_ok-number_of.field-0 clean ends
    (cut_whole c.args.bytes.now rest digits others c.len_to_space.result whole c.split_at.ensures.front c.split_at.ensures.back)
    c.in_ok-number_of.ensures.found
