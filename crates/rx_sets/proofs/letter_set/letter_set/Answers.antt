use Rattle.std.proofs.Common.{IfOk, subst, sym, Bool}
use Rattle.rx_sets.specs.Sets.{InPerl, FoldedIf, IsSetOf}
use Rattle.rx_sets.proofs.LetterLemmas.{IfOk-closed}
use Rattle.rx_sets.proofs.letter_set.letter_set.Goals as goal

pub returns-then-fold : goal.returns-then-fold
returns-then-fold c =
    let P = InPerl c.args.kind c.args.negated in
    subst (λ (b : Bool). IfOk c.closed_under_folding.result (λ set. IsSetOf set (FoldedIf b P))) (sym c.if-fold.true)
    (IfOk-closed c.closed_under_folding.result _ P c.closed_under_folding.ensures.canonical c.closed_under_folding.ensures.members c.in_ok-set.ensures)
