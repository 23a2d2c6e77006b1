use Rattle.rx_steps.proofs.AlikeBackLaws.{starts_are_met_unread}
use Rattle.rx_steps.proofs.laws.starts_are_met_unread.Goals as goal

pub returns : goal.returns
returns c = starts_are_met_unread
