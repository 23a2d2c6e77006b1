use Rattle.std.proofs.Common.{◌≡◌}
use Rattle.rx_sets.proofs.LetterLemmas.{IfOk-complement}
use Rattle.rx_sets.proofs.atom_sets.all_but.Goals as goal

pub returns : goal.returns
returns c =
    IfOk-complement c.complement.result _ (λ d. d ≡ c.args.c) c.complement.ensures.canonical c.complement.ensures.members c.in_ok-one.ensures
