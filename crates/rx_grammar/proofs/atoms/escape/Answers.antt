use Rattle.std.proofs.Common.{◌∷◌, sym, ap, ◌∙◌}
use Rattle.rx_grammar.specs.Grammar.{character, letter_class, look}
use Rattle.rx_grammar.proofs.atoms.escape.Goals as goal

pub returns-in-Some : goal.returns-in-Some
returns-in-Some c = character c.in-Some.ensures c.in_ok-set.ensures

pub returns-in-Some-letter_named : goal.returns-in-Some-letter_named
returns-in-Some-letter_named c =
    letter_class c.in-Some-letter_named.kind c.in-Some-letter_named.negated (c.in-Some-first.ensures ∙ ap (λ x. x ∷ c.in-Some-first.rest.now) c.in-Some-letter_named.ensures) c.in_ok-set-2.ensures

pub returns-in-Some-look_of : goal.returns-in-Some-look_of
returns-in-Some-look_of c = look c.in-Some-first.letter c.in-Some-first.ensures (sym c.in-Some-look_of.ensures)
