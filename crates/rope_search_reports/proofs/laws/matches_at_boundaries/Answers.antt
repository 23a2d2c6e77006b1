use Rattle.regex_cursor.proofs.TreeLaws.{finds_of_trees}
use Rattle.rope_search_reports.proofs.BoundaryLemmas.{stand}
use Rattle.rope_search_reports.proofs.TextPlaces.{places}
use Rattle.rope_search_reports.proofs.laws.matches_at_boundaries.Goals as goal

pub returns : goal.returns
returns c = stand places finds_of_trees
