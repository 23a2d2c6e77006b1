use Rattle.rope_search.proofs.TextLaws.{steps_hold}
use Rattle.rope_search.proofs.laws.steps_hold_texts.Goals as goal

pub returns : goal.returns
returns c = steps_hold c.known.ensures
