use Rattle.std.proofs.Common.{[], ℕ}
use Rattle.rx_sets.proofs.UnionLemmas.{IsSetOf-nothing}
use Rattle.rx_sets.proofs.LetterLemmas.{IfOk-same, IfOk-complement, IsSetOf-along}
use Rattle.rx_sets.proofs.atom_sets.any_set.Goals as goal

pub returns : goal.returns
returns c =
    let Nothing : ℕ → Type 0 = λ d. ⊥ in
    IfOk-same c.complement.result (λ d. ¬ Nothing d) (λ d. Unit {0}) (λ d scalar. (λ h. tt, λ h e. e))
    (IfOk-complement c.complement.result _ Nothing c.complement.ensures.canonical c.complement.ensures.members (IsSetOf-along [] _ Nothing c.empty-none.ensures IsSetOf-nothing))
