use Rattle.std.proofs.Common.{◌∷◌, sym, ap, subst, ◌∙◌}
use Rattle.rx_grammar.specs.Trees.{look_at}
use Rattle.rx_grammar.specs.Grammar.{PlainAtom, caret, dollar, escape}
use Rattle.rx_grammar.proofs.ReaderLemmas.{IfOk-map, MatchOption-map}
use Rattle.rx_grammar.proofs.AtomLaws.{no_escape_atom, no_class_atom, class_atom}
use Rattle.rx_grammar.proofs.atoms.plain_atom.Goals as goal

pub returns-in-94 : goal.returns-in-94
returns-in-94 c =
    let e = c.in-Some.ensures ∙ ap (λ x. x ∷ c.in-Some.rest.now) c.in-94.is in
    subst (λ x. PlainAtom c.args.config.now c.args.text.now (look_at x) c.in-Some.rest.now) (sym c.line_start.ensures) (caret e)

pub returns-in-36 : goal.returns-in-36
returns-in-36 c =
    let e = c.in-Some.ensures ∙ ap (λ x. x ∷ c.in-Some.rest.now) c.in-36.is in
    subst (λ x. PlainAtom c.args.config.now c.args.text.now (look_at x) c.in-Some.rest.now) (sym c.line_end.ensures) (dollar e)

pub returns-in-92 : goal.returns-in-92
returns-in-92 c =
    let e = c.in-Some.ensures ∙ ap (λ x. x ∷ c.in-Some.rest.now) c.in-92.is in
    IfOk-map c.escape.result _ _ c.escape.ensures (λ found h. MatchOption-map found _ _ _ _ h (no_escape_atom e) (λ r one. escape e one))

pub returns-in-91 : goal.returns-in-91
returns-in-91 c =
    let e = c.in-Some.ensures ∙ ap (λ x. x ∷ c.in-Some.rest.now) c.in-91.is in
    IfOk-map c.class_atom.result _ _ c.class_atom.ensures (λ found h. MatchOption-map found _ _ _ _ h (no_class_atom e) (λ r one. class_atom e one))
