use Rattle.rope_search.proofs.HistoryLaws.{list_alike, print_alike}
use Rattle.rope_search.proofs.laws.replies_alike.Goals as goal

pub returns-clause-list : goal.returns-clause-list
returns-clause-list c = list_alike c.one_report.ensures

pub returns-clause-print : goal.returns-clause-print
returns-clause-print c = print_alike
