use Rattle.rope_search_reports.proofs.LineLemmas.{lines-in-place}
use Rattle.rope_search_reports.proofs.laws.lines_in_place.Goals as goal

pub returns : goal.returns
returns c = lines-in-place
