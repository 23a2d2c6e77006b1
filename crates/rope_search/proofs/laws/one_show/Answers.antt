use Rattle.rope_search.proofs.StepLaws.{shows_exist, shows_one}
use Rattle.rope_search.proofs.laws.one_show.Goals as goal

pub returns : goal.returns
returns c =
    λ session answer all. (shows_exist c.has_report.ensures session answer all, shows_one c.one_report.ensures session answer)
