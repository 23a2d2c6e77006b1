use Rattle.rx_walks.proofs.ReachLaws.{next_read, reached_here}
use Rattle.rx_walks.proofs.laws_lead.lists_hold_reached.Goals as goal

pub returns : goal.returns
returns g c = λ m stepped start i live next ms same steps. (next_read m start i live same stepped steps, reached_here m start i live same)
