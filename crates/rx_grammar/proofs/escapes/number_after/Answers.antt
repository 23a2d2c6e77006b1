use Rattle.rx_grammar.specs.Escapes.{unbraced, braced}
use Rattle.rx_grammar.proofs.ReaderLemmas.{MatchOption-map, braced_read, unbraced_read}
use Rattle.rx_grammar.proofs.escapes.number_after.Goals as goal

pub returns-in-Some : goal.returns-in-Some
returns-in-Some c =
    MatchOption-map c.number_in_braces.result _ _ _ _ c.number_in_braces.ensures
    (λ none x u number. none x u (braced_read c.requires c.in-Some.ensures number)) (λ r number. braced c.in-Some.ensures number)

pub returns-in-None : goal.returns-in-None
returns-in-None c =
    MatchOption-map c.number_of_length.result _ _ _ _ c.number_of_length.ensures
    (λ none x u number. none x u (unbraced_read c.in-None.ensures number)) (λ r number. unbraced number)
