use Rattle.rope_search_reports.proofs.ChangeLemmas.{changes_keep}
use Rattle.rope_search_reports.proofs.laws.changes_keep_lines.Goals as goal

pub returns : goal.returns
returns c = changes_keep
