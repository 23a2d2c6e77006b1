use Rattle.rope_search.proofs.ClampLemmas.{reports-have-columns}
use Rattle.rope_search.proofs.laws.reports_have_columns.Goals as goal

pub returns : goal.returns
returns c = reports-have-columns c.matches_at_boundaries.ensures
