use Rattle.rope_search_reports.proofs.TurnLemmas.{lead_back}
use Rattle.rope_search_reports.proofs.laws.changes_lead_back.Goals as goal

pub returns : goal.returns
returns c = lead_back
