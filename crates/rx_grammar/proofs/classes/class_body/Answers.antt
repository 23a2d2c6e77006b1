use Rattle.std.proofs.Common.{◌∷◌, ◌++◌, [], ap, ◌∙◌}
use Rattle.rx_sets.specs.declared.items.ClassItem.TheVariants.{Span}
use Rattle.rx_grammar.proofs.ReaderLemmas.{IfOk-map, MatchOption-map}
use Rattle.rx_grammar.proofs.ClassLaws.{bracket_body, hyphen_body, other_body, no_bracket_body, no_hyphen_body, no_other_body}
use Rattle.rx_grammar.proofs.classes.class_body.Goals as goal

pub returns-in-Some : goal.returns-in-Some
returns-in-Some c =
    let is = c.in_ok-push.ensures.items ∙ ap (λ l. l ++ Span 93 93 ∷ []) c.new-items.ensures.items in
    IfOk-map c.class_items.result _ _ c.class_items.ensures
    (λ found h. MatchOption-map found _ _ _ _ h (no_bracket_body c.in-Some.ensures) (λ r after. bracket_body c.in-Some.ensures is after))

pub returns-in_default-eat : goal.returns-in_default-eat
returns-in_default-eat c =
    IfOk-map c.class_items-in_default-eat.result _ _ c.class_items-in_default-eat.ensures
    (λ found h. MatchOption-map found _ _ _ _ h (no_other_body c.in_default.ensures c.in_default-eat.ensures)
    (λ r after. other_body c.in_default.ensures c.in_default-eat.ensures c.new-items.ensures.items after))

pub returns : goal.returns
returns c =
    let is = c.in_ok-push-in-None.ensures.items ∙ ap (λ l. l ++ Span 45 45 ∷ []) c.new-items.ensures.items in
    IfOk-map c.class_items-in-None.result _ _ c.class_items-in-None.ensures
    (λ found h. MatchOption-map found _ _ _ _ h (no_hyphen_body c.in-Some-eat.ensures) (λ r after. hyphen_body c.in-Some-eat.ensures c.in-None.ensures is after))
