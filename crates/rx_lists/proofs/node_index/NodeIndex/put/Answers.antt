use Rattle.std.proofs.Common.{sym, ◌∙◌}
use Rattle.rx_lists.proofs.IndexLaws.{put_one}
use Rattle.rx_lists.proofs.node_index.NodeIndex.put.Goals as goal

pub returns-in-Some-clause-put : goal.returns-in-Some-clause-put
returns-in-Some-clause-put c = put_one c.args.self.now c.args.set.now c.insert.new.self c.args.node c.in-Some.number (sym c.number.ensures.number ∙ c.in-Some.is) c.insert.ensures.there c.insert.ensures.others
