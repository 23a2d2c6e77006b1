use Rattle.rx_sets.specs.Sets.{InPerl, FoldedIf}
use Rattle.rx_sets.specs.Items.{InItems}
use Rattle.rx_sets.proofs.UnionLemmas.{one_letter_class}
use Rattle.rx_sets.proofs.LetterLemmas.{IfOk-changed}
use Rattle.rx_sets.proofs.atom_sets.AtomSets.named.Goals as goal

pub returns-in-Some : goal.returns-in-Some
returns-in-Some c =
    IfOk-changed c.letters.result (λ set. set.value) (FoldedIf c.args.fold (InPerl c.in-Some.kind c.in-Some.negated)) (FoldedIf c.args.fold (λ d. InItems d c.args.items.now))
    (one_letter_class c.args.fold c.args.items.now c.in-Some.kind c.in-Some.negated c.in-Some.ensures) c.letters.ensures
