-- Each command has a cost, and no other.
use Rattle.rope_search.proofs.StepLaws.{costs_exist, costs_one}
use Rattle.rope_search.proofs.laws.one_cost.Goals as goal

pub returns : goal.returns
returns c = λ limit session order all.
    (costs_exist c.known.ensures limit session order all, costs_one c.known.ensures limit session order all)
