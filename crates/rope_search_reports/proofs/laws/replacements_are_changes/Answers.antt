use Rattle.rope_search_reports.proofs.ReplacementLemmas.{replacements}
use Rattle.rope_search_reports.proofs.laws.replacements_are_changes.Goals as goal

pub returns : goal.returns
returns c = replacements
