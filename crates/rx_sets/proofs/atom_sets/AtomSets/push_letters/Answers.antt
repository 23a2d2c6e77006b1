use Rattle.std.proofs.Common.{◌≡◌, ◌++◌, ℕ, Contains}
use Rattle.rx_sets.specs.declared.items.ClassItem.TheVariants.{Perl}
use Rattle.rx_sets.specs.Sets.{InPerl, FoldedIf}
use Rattle.rx_sets.specs.Unions.{Adds, Letters, InLetters}
use Rattle.rx_sets.proofs.UnionLemmas.{Adds-map, Adds-set, OnOk-map}
use Rattle.rx_sets.proofs.LetterLemmas.{IsSetOf-along}
use Rattle.rx_sets.proofs.atom_sets.AtomSets.push_letters.Goals as goal

pub returns : goal.returns
returns c =
    let old = c.args.ranges.now.items in
    let new = c.push_set.new.ranges.items in
    let set = c.deref.result.now in
    let letters : Letters = (c.args.kind, c.args.negated) in
    let P : ℕ → Type 0 = FoldedIf c.args.fold (InPerl c.args.kind c.args.negated) in
    let Q : ℕ → Type 0 = λ d. InLetters c.args.fold c.args.items.now d letters in
    let has : Contains c.args.items.now (Perl c.args.kind c.args.negated) = c.has_letters.ensures.0 c.if-not-has_letters.false in
    OnOk-map c.push_set.result (new ≡ old ++ set) (Adds old new Q)
    (λ is. Adds-map old new P Q (λ d scalar. (λ h. (has, h), λ h. h.1)) (Adds-set old new set P is (IsSetOf-along c.in_ok-set.set.value set P c.deref.ensures c.in_ok-set.ensures)))
    c.push_set.ensures
