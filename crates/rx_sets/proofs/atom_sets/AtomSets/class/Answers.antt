use Rattle.std.proofs.Common.{ℕ}
use Rattle.rx_sets.specs.Sets.{FoldedIf, IsSetOf}
use Rattle.rx_sets.specs.Items.{InItems, InClass}
use Rattle.rx_sets.proofs.UnionLemmas.{IsSetOf-complement, IsSetOf-plain_class, IsSetOf-negated_class}
use Rattle.rx_sets.proofs.LetterLemmas.{IsSetOf-along, IfOk-along}
use Rattle.rx_sets.proofs.atom_sets.AtomSets.class.Goals as goal

pub returns-then-not-negated : goal.returns-then-not-negated
returns-then-not-negated c =
    IsSetOf-plain_class c.args.fold c.args.negated c.args.items.now c.in_ok-named.named.value c.if-not-negated.true c.in_ok-named.ensures

pub returns : goal.returns
returns c =
    let items = c.args.items.now in
    let P : ℕ → Type 0 = FoldedIf c.args.fold (λ d. InItems d items) in
    let named = IsSetOf-along c.in_ok-named.named.value c.deref.result.now P c.deref.ensures c.in_ok-named.ensures in
    let others = IsSetOf-complement c.deref.result.now c.in_ok-complement.field-0 P c.in_ok-complement.ensures.canonical c.in_ok-complement.ensures.members named in
    IfOk-along c.shared.result (λ set. set.value) c.in_ok-complement.field-0 (λ ranges. IsSetOf ranges (InClass c.args.fold c.args.negated items))
    (IsSetOf-negated_class c.args.fold c.args.negated items c.in_ok-complement.field-0 c.if-not-negated.false others) c.shared.ensures
