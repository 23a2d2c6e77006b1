use Rattle.std.proofs.Common.{◌||◌, ap, ◌∙◌}
use Rattle.std.proofs.lemmas.List.{take_all}
use Rattle.std.specs.List.{list_any}
use Rattle.rx_sets.specs.Sets.{ordinal, in_ranges}
use Rattle.rx_sets.proofs.SetLemmas.{ordinal_below, IfOk-map}
use Rattle.rx_sets.proofs.FoldLemmas.{leads_to, folded_members}
use Rattle.rx_sets.proofs.character_set.CharacterSet.closed_under_folding.Goals as goal

pub returns-clause-members : goal.returns-clause-members
returns-clause-members c =
    let members = c.args.self.now in
    let pairs = c.fold_pairs-pair-items.result.now in
    let all = take_all c.loop-pair.pair-index pairs c.loop-pair-test.false in
    IfOk-map c.from_ranges.result _ _ c.from_ranges.ensures.members
    (λ new has x scalar. folded_members members new pairs x c.fold_pairs-pair-items.ensures.meaning scalar
    (has (ordinal x) (ordinal_below x scalar) ∙ c.loop-pair.invariant (ordinal x) ∙ ap (λ l. in_ranges members (ordinal x) || list_any (leads_to members (ordinal x)) l) all))
