use Rattle.rope_search_reports.proofs.PlaceLemmas.{line_inside}
use Rattle.rope_search_reports.proofs.laws.places_are_in_lines.Goals as goal

pub returns : goal.returns
returns c = line_inside
