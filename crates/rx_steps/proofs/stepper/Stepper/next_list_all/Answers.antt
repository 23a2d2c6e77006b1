use Rattle.std.proofs.Common.{◌≡◌, ◌≤◌, ◌++◌, All, length, Some, slice_get, sym, ap, subst, ◌∙◌, arith}
use Rattle.std.proofs.lemmas.Option.{slice_get-get_or}
use Rattle.rx_steps.specs.Nodes.{widths_of}
use Rattle.rx_steps.specs.ListsAll.{AreUnderWayAll, byte_machine, IsStartedOf, nodes_of, started_at}
use Rattle.rx_steps.proofs.AllFollowLaws.{all_moves, all_next, all_over, none_left, with_started, no_threads_of}
use Rattle.rx_steps.proofs.stepper.Stepper.next_list_all.Goals as goal

pub loop-thread-preserved : goal.loop-thread-preserved
loop-thread-preserved c =
    let p = c.args.program.now in
    let threads = c.args.threads.now in
    let n = c.loop-thread.thread-index in
    let x = c.thread-item.result in
    let seen = c.loop-thread.self-inside.closure.visited in
    let here : slice_get threads n ≡ Some x = slice_get-get_or threads n x c.loop-thread-test.true ∙ ap (λ y. Some y) (sym c.thread-item.is) in
    let none = ap (λ t. t.threads) c.clear-in-loop-thread.ensures in
    let out = c.loop-thread.next.items in
    let reached = c.follow_all.new.next.threads in
    let grown : c.push_started.new.list.items ≡ out ++ started_at x.0 (nodes_of reached) = c.in_ok-push_started.ensures ∙ ap (λ s. out ++ started_at s (nodes_of reached)) c.start.ensures in
    record {
      way = λ m i moves. all_next p c.args.place.now m i threads c.loop-thread.next.items c.push_started.new.list.items x n seen.ids c.follow_all.new.self.visited.ids c.clear-in-loop-thread.new.self.threads c.follow_all.new.next.threads
          c.loop-thread.best c.in_ok-met.met c.better-best.result moves here none c.in_ok-met.ensures.followed grown c.better-best.ensures (c.loop-thread.invariant.way m i moves);
      threads = subst (λ xs. All (IsStartedOf p.states) xs) (sym grown) (with_started p.states x.0 c.loop-thread.next.items c.follow_all.new.next.threads c.loop-thread.invariant.threads (c.in_ok-met.ensures.threads (no_threads_of p.states c.clear-in-loop-thread.new.self.threads none)));
      widths = c.in_ok-met.ensures.widths ∙ c.loop-thread.invariant.widths;
      counted = omega (arith, c.in_ok-met.ensures.counted, c.loop-thread.invariant.counted);
      room = c.in_ok-met.ensures.room c.loop-thread.invariant.room;
    }

pub returns-clause-list : goal.returns-clause-list
returns-clause-list c = λ h i here.
    let p = c.args.program.now in
    let m = byte_machine p h in
    let threads = c.args.threads.now in
    let ids = c.loop-thread.self-inside.closure.visited.ids in
    let out = c.loop-thread.next.items in
    let past : length threads ≤ c.loop-thread.thread-index = omega (arith, c.loop-thread-test.false) in
    let way = c.loop-thread.invariant.way m i (all_moves p h i c.args.place.now here) in
    all_over m i (widths_of p) ids threads out way.0 c.loop-thread.best way.1 (subst (λ xs. AreUnderWayAll m i threads (widths_of p) ids xs out way.0) (none_left threads c.loop-thread.thread-index past) way.2)
