use Rattle.std.proofs.Common.{[], ◌∷◌, refl, subst}
use Rattle.rope_search_reports.specs.Turned.{Lead, listed}
use Rattle.rope_search_reports.specs.declared.changes.Changes.{Changes}
use Rattle.rope_search_reports.proofs.TurnLemmas.{turns-start, turns-behind}
use Rattle.rope_search_reports.proofs.changes.Changes.turned.Goals as goal

pub turned_from-requires-clause-ordered : goal.turned_from-requires-clause-ordered
turned_from-requires-clause-ordered c =
    let lead : Lead (c.in-One.change ∷ []) c.requires.0 c.requires.1 =
    subst (λ (cs : Changes). Lead (listed cs) c.requires.0 c.requires.1) c.in-One.is c.requires.2 in
    (turns-behind 0 0 c.in-One.change [] [] _ (turns-start (c.in-One.change ∷ []) [] c.requires.0 c.requires.1 refl lead)).1
