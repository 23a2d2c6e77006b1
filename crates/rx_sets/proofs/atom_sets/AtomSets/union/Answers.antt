use Rattle.std.proofs.Common.{◌⊎◌, ℕ, List, [], subst}
use Rattle.rx_sets.specs.declared.atom_sets.TheConstants.{LETTER_CLASSES}
use Rattle.rx_sets.specs.Sets.{Range, FoldedIf}
use Rattle.rx_sets.specs.Items.{InItems}
use Rattle.rx_sets.specs.Unions.{Adds, OneOf, InSpan, InLetters}
use Rattle.rx_sets.proofs.UnionLemmas.{Adds-both, parts_of_items}
use Rattle.rx_sets.proofs.LetterLemmas.{IfOk-same, IfOk-added}
use Rattle.rx_sets.proofs.atom_sets.AtomSets.union.Goals as goal

pub returns : goal.returns
returns c =
    let items = c.args.items.now in
    let fold = c.args.fold in
    let spans = c.push_items.new.ranges.items in
    let ranges = c.push_all_letters.new.ranges.items in
    let P : ℕ → Type 0 = λ d. OneOf (InSpan fold d) items in
    let Q : ℕ → Type 0 = λ d. OneOf (InLetters fold items d) LETTER_CLASSES in
    let first : Adds [] spans P = subst (λ (l : List Range). Adds l spans P) c.new-ranges.ensures.items c.in_ok-push_items.ensures in
    IfOk-same c.from_ranges.result (λ d. P d ⊎ Q d) (FoldedIf fold (λ d. InItems d items)) (parts_of_items fold items)
    (IfOk-added c.from_ranges.result ranges (λ d. P d ⊎ Q d) c.from_ranges.ensures.canonical c.from_ranges.ensures.members
    (Adds-both [] spans ranges P Q first c.in_ok-push_all_letters.ensures))
