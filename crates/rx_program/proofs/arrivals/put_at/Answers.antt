use Rattle.std.proofs.Common.{arith}
use Rattle.rx_program.proofs.ArrivalLaws.{put_here}
use Rattle.rx_program.proofs.arrivals.put_at.Goals as goal

pub returns-in_ok-put_last : goal.returns-in_ok-put_last
returns-in_ok-put_last c =
    put_here c.args.id c.args.at c.args.lists.now.items c.index_mut.result.now c.put_last.new.list (omega arith) c.index_mut.ensures.value c.in_ok-put_last.ensures
