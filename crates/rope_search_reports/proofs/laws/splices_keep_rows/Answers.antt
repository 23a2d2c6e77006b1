use Rattle.rope_search_reports.proofs.SpliceLemmas.{keeps_rows}
use Rattle.rope_search_reports.proofs.laws.splices_keep_rows.Goals as goal

pub returns : goal.returns
returns c = keeps_rows
