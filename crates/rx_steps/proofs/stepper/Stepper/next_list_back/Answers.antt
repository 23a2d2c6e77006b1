use Rattle.std.proofs.Common.{◌≤◌, length, ◌∙◌, arith}
use Rattle.rx_steps.specs.Reversed.{byte_program_of}
use Rattle.rx_steps.proofs.BackStepLaws.{back_next, back_over}
use Rattle.rx_steps.proofs.stepper.Stepper.next_list_back.Goals as goal

pub loop-index-preserved : goal.loop-index-preserved
loop-index-preserved c =
    let p = byte_program_of c.args.program.now in
    let threads = c.args.threads.now.threads in
    let index = c.loop-index.index in
    record {
      way = back_next p c.args.place.now threads c.loop-index.next.threads c.follow_back.new.next.threads c.node.result index c.loop-index.self-inside.closure.visited.ids c.follow_back.new.self.visited.ids c.loop-index.best c.in_ok-met.met c.least-best.result
          c.node.ensures c.in_ok-met.ensures.followed c.least-best.ensures c.loop-index.invariant.way;
      threads = c.in_ok-met.ensures.threads c.loop-index.invariant.threads;
      widths = c.in_ok-met.ensures.widths ∙ c.loop-index.invariant.widths;
      slot_len = c.in_ok-met.ensures.slot_len ∙ c.loop-index.invariant.slot_len;
      counted = omega (arith, c.in_ok-met.ensures.counted, c.loop-index.invariant.counted);
      room = c.in_ok-met.ensures.room c.loop-index.invariant.room;
    }

pub returns-clause-list : goal.returns-clause-list
returns-clause-list c =
    let threads = c.args.threads.now.threads in
    let past : length threads ≤ c.loop-index.index = omega (arith, c.loop-index-test.false, c.len-index-end.ensures) in
    back_over (byte_program_of c.args.program.now) c.args.place.now threads c.loop-index.next.threads c.loop-index.index c.loop-index.self-inside.closure.visited.ids c.loop-index.best past c.loop-index.invariant.way
