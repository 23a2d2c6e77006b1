use Rattle.std.proofs.Common.{sym, ◌∙◌}
use Rattle.rx_onepass.proofs.WayLaws.{single}
use Rattle.rx_onepass.proofs.search.way_of.Goals as goal

pub returns-then-len-eq1 : goal.returns-then-len-eq1
returns-then-len-eq1 c = single c.args.next.now.threads c.node.result (sym c.len-2.ensures ∙ c.if-len-eq1.true) c.node.ensures
