use Rattle.std.proofs.Common.{IsTrue, IfOk, subst, sym, Bool, true}
use Rattle.rx_sets.specs.Sets.{in_kind, InPerl, IsSetOf}
use Rattle.rx_sets.proofs.LetterLemmas.{IfOk-same, IfOk-complement, not_named}
use Rattle.rx_sets.proofs.letter_set.perl_set.Goals as goal

pub returns-then-negated : goal.returns-then-negated
returns-then-negated c =
    subst (λ (b : Bool). IfOk c.complement.result (λ set. IsSetOf set (InPerl c.args.kind b))) (sym c.if-negated.true)
    (IfOk-same c.complement.result (λ d. ¬ IsTrue (in_kind c.args.kind d)) (InPerl c.args.kind true) (not_named c.args.kind)
    (IfOk-complement c.complement.result _ (λ d. IsTrue (in_kind c.args.kind d)) c.complement.ensures.canonical c.complement.ensures.members c.in_ok-set.ensures))
