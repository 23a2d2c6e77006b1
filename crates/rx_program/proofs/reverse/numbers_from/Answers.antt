use Rattle.std.proofs.Common.{◌+◌, ◌<◌, [], take, length, get_or, length-take, arith}
use Rattle.std.proofs.lemmas.List.{take_more}
use Rattle.rx_program.proofs.ArrivalLaws.{indexed_more}
use Rattle.rx_program.proofs.reverse.numbers_from.Goals as goal

pub loop-number-preserved : goal.loop-number-preserved
loop-number-preserved c =
    let patterns = c.args.patterns.now in
    let i = c.loop-number.number in
    let within : i < length patterns = omega arith in
    indexed_more (λ k start. c.args.first + k) (take i patterns) (take (i + 1) patterns) (get_or patterns i 0) i [] c.loop-number.starts.items c.push.new.self.items c.new.result
    (take_more patterns i 0 within) (omega (arith, length-take i patterns, within)) c.new.ensures c.loop-number.invariant c.in_ok-push.ensures.items
