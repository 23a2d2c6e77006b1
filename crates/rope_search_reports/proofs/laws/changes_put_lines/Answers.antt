use Rattle.rope_search_reports.proofs.TurnLemmas.{put_lines}
use Rattle.rope_search_reports.proofs.laws.changes_put_lines.Goals as goal

pub returns : goal.returns
returns c = put_lines
