-- Each command has a step, and except out of memory no other.
use Rattle.rope_search.proofs.StepLaws.{step_exists, step_one}
use Rattle.rope_search.proofs.laws.one_step.Goals as goal

pub returns : goal.returns
returns c = λ limit session order all.
    (step_exists c.known.ensures limit session order all, step_one c.known.ensures limit session order all)
