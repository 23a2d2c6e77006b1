use Rattle.rope_search_templates.proofs.FirstLemmas.{first-enough}
use Rattle.rope_search_templates.proofs.laws.first_groups_are_enough.Goals as goal

pub returns : goal.returns
returns c = first-enough
