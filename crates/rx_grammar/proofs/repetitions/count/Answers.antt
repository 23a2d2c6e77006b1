use Rattle.std.proofs.Common.{◌≡◌, ◌∷◌, ap, ◌∙◌}
use Rattle.rx_grammar.specs.Repetitions.{star, plus, question, in_braces}
use Rattle.rx_grammar.proofs.RepetitionLaws.{braces_read}
use Rattle.rx_grammar.proofs.ReaderLemmas.{MatchOption-map}
use Rattle.rx_grammar.proofs.repetitions.count.Goals as goal

pub returns-in-42 : goal.returns-in-42
returns-in-42 c = star (c.in-Some.ensures ∙ ap (λ x. x ∷ c.in-Some.rest.now) c.in-42.is)

pub returns-in-43 : goal.returns-in-43
returns-in-43 c = plus (c.in-Some.ensures ∙ ap (λ x. x ∷ c.in-Some.rest.now) c.in-43.is)

pub returns-in-63 : goal.returns-in-63
returns-in-63 c = question (c.in-Some.ensures ∙ ap (λ x. x ∷ c.in-Some.rest.now) c.in-63.is)

pub returns-in-123 : goal.returns-in-123
returns-in-123 c =
    let e : c.args.text.now ≡ 123 ∷ c.in-Some.rest.now = c.in-Some.ensures ∙ ap (λ x. x ∷ c.in-Some.rest.now) c.in-123.is in
    MatchOption-map c.count_in_braces.result _ _ _ _ c.count_in_braces.ensures
    (λ none n m u count. none n m u (braces_read e count)) (λ r inside. in_braces e inside)
