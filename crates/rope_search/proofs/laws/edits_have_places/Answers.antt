use Rattle.rope_search.proofs.NextLaws.{edit_places}
use Rattle.rope_search.proofs.laws.edits_have_places.Goals as goal

pub returns : goal.returns
returns c = edit_places
