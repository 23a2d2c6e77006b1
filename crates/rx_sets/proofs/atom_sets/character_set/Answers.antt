use Rattle.std.proofs.Common.{◌≡◌, ℕ, subst, List}
use Rattle.rx_sets.specs.Sets.{Range, FoldedIf}
use Rattle.rx_sets.specs.Unions.{Adds, Between}
use Rattle.rx_sets.proofs.UnionLemmas.{FoldedIf-same}
use Rattle.rx_sets.proofs.LetterLemmas.{IfOk-same, IfOk-added, just_one}
use Rattle.rx_sets.proofs.atom_sets.character_set.Goals as goal

pub returns : goal.returns
returns c =
    let ranges = c.push_folded_if.new.ranges.items in
    let x = c.args.c in
    let P : ℕ → Type 0 = FoldedIf c.args.fold (Between x x) in
    IfOk-same c.from_ranges.result P (FoldedIf c.args.fold (λ d. d ≡ x)) (FoldedIf-same c.args.fold (Between x x) (λ d. d ≡ x) (λ d scalar. just_one x d))
    (IfOk-added c.from_ranges.result ranges P c.from_ranges.ensures.canonical c.from_ranges.ensures.members
    (subst (λ (l : List Range). Adds l ranges P) c.new-ranges.ensures.items c.in_ok-push_folded_if.ensures))
