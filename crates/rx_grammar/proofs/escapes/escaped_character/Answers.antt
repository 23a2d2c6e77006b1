use Rattle.std.proofs.Common.{◌≡◌, ◌∷◌, sym, ap, ◌∙◌}
use Rattle.rx_grammar.specs.Escapes.{two_digits, four_digits}
use Rattle.rx_grammar.proofs.ReaderLemmas.{MatchOption-map, x_read, u_read, escaped_by-reads}
use Rattle.rx_grammar.proofs.escapes.escaped_character.Goals as goal

pub returns-then-letter-eq120 : goal.returns-then-letter-eq120
returns-then-letter-eq120 c =
    let e : c.args.text.now ≡ 120 ∷ c.in-Some.rest.now = c.in-Some.ensures ∙ ap (λ x. x ∷ c.in-Some.rest.now) c.if-letter-eq120.true in
    MatchOption-map c.number_after.result _ _ _ _ c.number_after.ensures
    (λ none x u escape. none x u (x_read e escape)) (λ r number. two_digits e number)

pub returns-then-letter-eq117 : goal.returns-then-letter-eq117
returns-then-letter-eq117 c =
    let e : c.args.text.now ≡ 117 ∷ c.in-Some.rest.now = c.in-Some.ensures ∙ ap (λ x. x ∷ c.in-Some.rest.now) c.if-letter-eq117.true in
    MatchOption-map c.number_after-then-letter-eq117.result _ _ _ _ c.number_after-then-letter-eq117.ensures
    (λ none x u escape. none x u (u_read e escape)) (λ r number. four_digits e number)

pub returns-in-Some-escaped_by : goal.returns-in-Some-escaped_by
returns-in-Some-escaped_by c = escaped_by-reads c.in-Some.letter c.in-Some.ensures (sym c.in-Some-escaped_by.ensures)
