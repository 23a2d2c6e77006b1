use Rattle.rx_steps.proofs.UnreadLaws.{ends_are_met_unread}
use Rattle.rx_steps.proofs.laws.ends_are_met_unread.Goals as goal

pub returns : goal.returns
returns c = ends_are_met_unread
