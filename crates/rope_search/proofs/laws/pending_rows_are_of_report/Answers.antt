use Rattle.rope_search.proofs.PendingLemmas.{first-of-report}
use Rattle.rope_search.proofs.laws.pending_rows_are_of_report.Goals as goal

pub returns : goal.returns
returns c = first-of-report c.one_list_of_matches.ensures
