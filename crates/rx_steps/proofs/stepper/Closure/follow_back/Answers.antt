use Rattle.std.proofs.Common.{◌∷◌, [], ◌∙◌, arith}
use Rattle.rx_steps.specs.ListsAll.{end_met_by, nodes_of}
use Rattle.rx_steps.specs.Reversed.{byte_program_of}
use Rattle.rx_steps.proofs.AllFollowLaws.{follows_on, resume_all}
use Rattle.rx_steps.proofs.stepper.Closure.follow_back.Goals as goal

pub loop-state-preserved : goal.loop-state-preserved
loop-state-preserved c =
    let p = byte_program_of c.args.program.now in
    let met = c.in_ok-met.met in
    let last = c.enter_back-in-Some.new in
    record {
      followed = λ start. follows_on p c.args.place.now start (c.args.node ∷ []) (nodes_of c.loop-state.self.pending.threads) (nodes_of last.self.pending.threads) c.args.self.now.visited.ids c.loop-state.self.visited.ids last.self.visited.ids
          c.args.next.now.threads c.loop-state.next.threads last.next.threads (end_met_by start c.loop-state.best) (end_met_by start met) (end_met_by start c.least-best.result) (c.least-best.ensures start)
          (c.loop-state.invariant.followed start)
          (resume_all p c.args.place.now start c.pop.new.self.slots c.in-Some.state c.first.result c.loop-state.self.pending.threads c.pop.new.self.threads (nodes_of last.self.pending.threads) c.loop-state.self.visited.ids last.self.visited.ids
          c.loop-state.next.threads last.next.threads (end_met_by start met) c.in-Some.ensures.next c.first.ensures (c.in_ok-met.ensures.all start));
      threads = λ all. c.in_ok-met.ensures.threads (c.loop-state.invariant.threads all);
      widths = c.in_ok-met.ensures.widths ∙ c.loop-state.invariant.widths;
      slots = c.in_ok-met.ensures.slots;
      slot_len = c.in_ok-met.ensures.slot_len ∙ c.loop-state.invariant.slot_len;
      counted = omega (arith, c.in_ok-met.ensures.counted, c.loop-state.invariant.counted);
      room = λ few. c.in_ok-met.ensures.room (c.loop-state.invariant.room few);
    }
