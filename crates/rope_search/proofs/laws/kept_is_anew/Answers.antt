use Rattle.rope_search.proofs.TextLaws.{kept_anew}
use Rattle.rope_search.proofs.laws.kept_is_anew.Goals as goal

pub returns : goal.returns
returns c = kept_anew c.one_report.ensures
