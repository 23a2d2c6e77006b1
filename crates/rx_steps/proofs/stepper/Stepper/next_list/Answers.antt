use Rattle.std.proofs.Common.{◌+◌, ◌<◌, ◌≤◌, length, drop, sym, subst, ◌∙◌, arith}
use Rattle.rx_steps.specs.Nodes.{widths_of, IsNodeIn}
use Rattle.rx_steps.specs.Threads.{Thread}
use Rattle.rx_steps.specs.Lists.{slot_machine, AreUnderWay, AreFollowed}
use Rattle.rx_steps.proofs.PlaceLaws.{moves_at_place, over}
use Rattle.rx_steps.proofs.ThreadLaws.{node_of, none_after, first_after}
use Rattle.rx_steps.proofs.stepper.Stepper.next_list.Goals as goal

pub follow-requires-clause-node : goal.follow-requires-clause-node
follow-requires-clause-node c =
    let d : Thread = (c.slots-slots.result.now, c.node-node.result) in
    let within : c.loop-index.index < length c.args.threads.now.threads = omega (arith, c.loop-index-test.true, c.len-index-end.ensures) in
    subst (λ q. IsNodeIn c.args.program.now.states q) (sym (node_of c.args.threads.now.threads c.loop-index.index c.node-node.result within c.node-node.ensures d)) (c.requires.threads c.loop-index.index d within)

pub follow-requires-clause-slots : goal.follow-requires-clause-slots
follow-requires-clause-slots c = c.slots-slots.ensures.len ∙ sym c.loop-index.invariant.slot_len

pub returns-in-Some-clause-list : goal.returns-in-Some-clause-list
returns-in-Some-clause-list c = λ h i here.
    let p = c.args.program.now in
    let m = slot_machine p h in
    let threads = c.args.threads.now.threads in
    let index = c.loop-index.index in
    let within : index < length threads = omega (arith, c.loop-index-test.true, c.len-index-end.ensures) in
    let rest = drop (index + 1) threads in
    let moves = moves_at_place p h i c.args.place.now here in
    subst (λ met. AreFollowed m i threads (widths_of p) c.follow.new.self.visited.ids rest c.follow.new.next.threads c.follow.new.self.pending.slots met) c.in-Some.is
    (c.in_ok-pattern.ensures.followed m i threads rest moves
    (subst (λ xs. AreUnderWay m i threads (widths_of p) c.loop-index.self-inside.closure.visited.ids xs c.loop-index.next.threads)
    (first_after threads index c.slots-slots.result.now c.node-node.result within c.slots-slots.ensures.slots c.node-node.ensures) (c.loop-index.invariant.way m i moves)))

pub loop-index-preserved : goal.loop-index-preserved
loop-index-preserved c = record {
  way = λ m i moves.
      let p = c.args.program.now in
      let threads = c.args.threads.now.threads in
      let index = c.loop-index.index in
      let within : index < length threads = omega (arith, c.loop-index-test.true, c.len-index-end.ensures) in
      let rest = drop (index + 1) threads in
      subst (λ met. AreFollowed m i threads (widths_of p) c.follow.new.self.visited.ids rest c.follow.new.next.threads c.follow.new.self.pending.slots met) c.in_default.is
      (c.in_ok-pattern.ensures.followed m i threads rest moves
      (subst (λ xs. AreUnderWay m i threads (widths_of p) c.loop-index.self-inside.closure.visited.ids xs c.loop-index.next.threads)
      (first_after threads index c.slots-slots.result.now c.node-node.result within c.slots-slots.ensures.slots c.node-node.ensures) (c.loop-index.invariant.way m i moves)));
  threads = c.in_ok-pattern.ensures.threads c.loop-index.invariant.threads;
  widths = c.in_ok-pattern.ensures.widths ∙ c.loop-index.invariant.widths;
  slot_len = c.in_ok-pattern.ensures.slot_len ∙ c.loop-index.invariant.slot_len;
  counted = omega (arith, c.in_ok-pattern.ensures.counted, c.loop-index.invariant.counted);
  room = c.in_ok-pattern.ensures.room c.loop-index.invariant.room;
}

pub returns-clause-list : goal.returns-clause-list
returns-clause-list c = λ h i here.
    let p = c.args.program.now in
    let m = slot_machine p h in
    let threads = c.args.threads.now.threads in
    let ids = c.loop-index.self-inside.closure.visited.ids in
    let past : length threads ≤ c.loop-index.index = omega (arith, c.loop-index-test.false, c.len-index-end.ensures) in
    over m i (widths_of p) ids threads c.loop-index.next.threads
    (subst (λ xs. AreUnderWay m i threads (widths_of p) ids xs c.loop-index.next.threads) (none_after threads c.loop-index.index past)
    (c.loop-index.invariant.way m i (moves_at_place p h i c.args.place.now here)))
