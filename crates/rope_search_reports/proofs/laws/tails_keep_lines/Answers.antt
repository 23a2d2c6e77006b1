use Rattle.rope_search_reports.proofs.ChangeLemmas.{tails_keep}
use Rattle.rope_search_reports.proofs.laws.tails_keep_lines.Goals as goal

pub returns : goal.returns
returns c = tails_keep
