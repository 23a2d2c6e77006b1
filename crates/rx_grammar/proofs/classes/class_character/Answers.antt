use Rattle.std.proofs.Common.{◌≡◌, ◌∷◌, sym, ap, ◌∙◌, true≢false}
use Rattle.rx_grammar.specs.Classes.{itself, escaped}
use Rattle.rx_grammar.proofs.ReaderLemmas.{MatchOption-map}
use Rattle.rx_grammar.proofs.ClassLaws.{escaped_read}
use Rattle.rx_grammar.proofs.classes.class_character.Goals as goal

pub returns-then-c-eq92 : goal.returns-then-c-eq92
returns-then-c-eq92 c =
    let e : c.args.text.now ≡ 92 ∷ c.in-Some.rest.now = c.in-Some.ensures ∙ ap (λ x. x ∷ c.in-Some.rest.now) c.if-c-eq92.true in
    MatchOption-map c.escaped_character.result _ _ _ _ c.escaped_character.ensures
    (λ none x u one. none x u (escaped_read e one)) (λ r escape. escaped e escape)

pub returns-then-not-doubles : goal.returns-then-not-doubles
returns-then-not-doubles c =
    itself c.in-Some.ensures (sym c.if-not-is_class_literal.ensures) (λ doubles begins. true≢false (sym doubles ∙ sym c.if-not-doubles.ensures))

pub returns-in-None : goal.returns-in-None
returns-in-None c = itself c.in-Some.ensures (sym c.if-not-is_class_literal.ensures) (λ doubles begins. c.in-None.ensures begins)
