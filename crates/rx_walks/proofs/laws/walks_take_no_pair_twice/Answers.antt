use Rattle.std.proofs.Common.{[]}
use Rattle.rx_walks.proofs.PairLaws.{walk_pairs, pairs_walk}
use Rattle.rx_walks.proofs.WalkLaws.{none_seen}
use Rattle.rx_walks.proofs.laws.walks_take_no_pair_twice.Goals as goal

pub returns : goal.returns
returns c = λ w m on n q i cs t. ((λ walk. let all = walk_pairs on walk in (all.pairs, all.path, all.once)), (λ all. pairs_walk [] all.1 all.2 (λ x c. none_seen x)))
