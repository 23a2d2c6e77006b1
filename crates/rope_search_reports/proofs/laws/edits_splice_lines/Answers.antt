use Rattle.rope_search_reports.proofs.SpliceLemmas.{splices}
use Rattle.rope_search_reports.proofs.laws.edits_splice_lines.Goals as goal

pub returns : goal.returns
returns c = splices
