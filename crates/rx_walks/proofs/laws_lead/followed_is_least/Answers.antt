use Rattle.rx_walks.proofs.FollowLaws.{followed_is_least}
use Rattle.rx_walks.proofs.laws_lead.followed_is_least.Goals as goal

pub returns : goal.returns
returns g c = λ m told n q i t follows. followed_is_least told follows
