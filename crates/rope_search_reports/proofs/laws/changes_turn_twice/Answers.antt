use Rattle.rope_search_reports.proofs.TurnLemmas.{turn_twice}
use Rattle.rope_search_reports.proofs.laws.changes_turn_twice.Goals as goal

pub returns : goal.returns
returns c = turn_twice
