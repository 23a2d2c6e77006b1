use Rattle.std.proofs.Common.{◌+◌, ◌<◌, ◌≤◌, length, drop, sym, subst, ◌∙◌, arith}
use Rattle.rx_steps.specs.Nodes.{IsNodeIn}
use Rattle.rx_steps.specs.Threads.{Thread}
use Rattle.rx_steps.specs.Lists.{IsThinning}
use Rattle.rx_steps.proofs.ThreadLaws.{node_of, none_after, first_after}
use Rattle.rx_steps.proofs.ThinLaws.{thin_done}
use Rattle.rx_steps.proofs.stepper.Stepper.thin.Goals as goal

pub returns-in_err-put_first-clause-work : goal.returns-in_err-put_first-clause-work
returns-in_err-put_first-clause-work c =
    omega (arith, c.put_first.ensures.counted, c.put_first.ensures.few, c.loop-index.invariant.counted, c.loop-index.invariant.few, c.loop-index-test.true, c.len-index-end.ensures)

pub loop-index-preserved : goal.loop-index-preserved
loop-index-preserved c =
    let threads = c.args.threads.now.threads in
    let index = c.loop-index.index in
    let seen = c.loop-index.closure.visited in
    let within : index < length threads = omega (arith, c.loop-index-test.true, c.len-index-end.ensures) in
    let x : Thread = (c.slots.result.now, c.node.result) in
    record {
      way = subst (λ w. IsThinning threads w c.put_first.new.self.visited.ids (drop (index + 1) threads) c.put_first.new.thin.threads) (sym c.in_ok-put_first.ensures.widths)
          (c.in_ok-put_first.ensures.thinned threads (drop (index + 1) threads)
          (subst (λ xs. IsThinning threads seen.widths seen.ids xs c.loop-index.thin.threads) (first_after threads index c.slots.result.now c.node.result within c.slots.ensures.slots c.node.ensures) c.loop-index.invariant.way));
      threads = λ states all. c.in_ok-put_first.ensures.threads states (subst (λ q. IsNodeIn states q) (sym (node_of threads index c.node.result within c.node.ensures x)) (all index x within)) (c.loop-index.invariant.threads states all);
      widths = c.in_ok-put_first.ensures.widths ∙ c.loop-index.invariant.widths;
      slot_len = c.in_ok-put_first.ensures.slot_len ∙ c.loop-index.invariant.slot_len;
      counted = omega (arith, c.in_ok-put_first.ensures.counted, c.loop-index.invariant.counted);
      few = omega (arith, c.in_ok-put_first.ensures.few, c.loop-index.invariant.few);
    }

pub returns-clause-thin : goal.returns-clause-thin
returns-clause-thin c =
    let threads = c.args.threads.now.threads in
    let seen = c.loop-index.closure.visited in
    let past : length threads ≤ c.loop-index.index = omega (arith, c.loop-index-test.false, c.len-index-end.ensures) in
    thin_done threads seen.widths seen.ids c.loop-index.thin.threads
    (subst (λ xs. IsThinning threads seen.widths seen.ids xs c.loop-index.thin.threads) (none_after threads c.loop-index.index past) c.loop-index.invariant.way)
