-- Commands can be run from each session of texts.
use Rattle.std.proofs.Common.{ℕ, ◌+◌, List, [], ◌∷◌, ◌++◌, refl}
use Rattle.rope_search_reports.specs.Laws.{HasReport}
use Rattle.rope_search.specs.Order.{Order}
use Rattle.rope_search.specs.Session.{State}
use Rattle.rope_search.specs.Laws.{AllHoldTexts, Known}
use Rattle.rope_search.specs.Answers.{Run}
use Rattle.rope_search.proofs.RunLaws.{Run-nil}
use Rattle.rope_search.proofs.StepLaws.{step_exists, costs_exist, shows_exist}
use Rattle.rope_search.proofs.TextLaws.{step_holds}

pub run_exists : Known → HasReport → (limit : ℕ) (s : State) (os : List Order) → AllHoldTexts s → (out : List ℕ) × (cost : ℕ) × (new : State) × Run limit s os out cost new
run_exists known reported limit s [] all = ([], 0, s, Run-nil limit s)
run_exists known reported limit s (o ∷ os) all =
    let step = step_exists known limit s o all in
    let costs = costs_exist known limit s o all in
    let later = step_holds known limit s step.1 o step.0 step.3 all in
    let shows = shows_exist reported step.1 step.0 later in
    let others = run_exists known reported limit step.1 os later in (
      shows.0 ++ others.0,
      costs.0 + others.1,
      others.2,
      record {
        answer = step.0;
        new = step.1;
        own_cost = costs.0;
        later = others.0;
        later_cost = others.1;
        step = step.3;
        costs = costs.1;
        others = others.3;
        reply = shows.0;
        shows = shows.1;
        shown = refl;
        added = refl;
      },
    )
