use Rattle.rope_search_templates.proofs.AloneLemmas.{spans-enough}
use Rattle.rope_search_templates.proofs.laws.spans_are_enough.Goals as goal

pub returns : goal.returns
returns c = spans-enough
