use Rattle.std.proofs.Common.{◌≡◌, ◌∷◌, [], sym, ap, subst, ◌∙◌, arith}
use Rattle.rx_steps.specs.ListsAll.{IsBestMet, end_met_by, nodes_of}
use Rattle.rx_steps.proofs.AllFollowLaws.{follows_on, resume_all}
use Rattle.rx_steps.proofs.stepper.Closure.follow_all.Goals as goal

pub loop-state-preserved : goal.loop-state-preserved
loop-state-preserved c =
    let p = c.args.program.now in
    let start = c.args.from.0 in
    let met = c.in_ok-met.met in
    let last = c.enter-in-Some.new in
    let told : c.met_end.result ≡ end_met_by start met = c.met_end.ensures ∙ ap (λ s. end_met_by s met) c.start-start.ensures in
    record {
      followed = follows_on p c.args.place.now start (c.args.from.1 ∷ []) (nodes_of c.loop-state.self.pending.threads) (nodes_of last.self.pending.threads) c.args.self.now.visited.ids c.loop-state.self.visited.ids last.self.visited.ids
          c.args.next.now.threads c.loop-state.next.threads last.next.threads c.loop-state.best (end_met_by start met) c.better-best.result (λ xs ys one other. c.better-best.ensures xs ys one (subst (λ o. IsBestMet ys o) (sym told) other))
          c.loop-state.invariant.followed
          (resume_all p c.args.place.now start c.pop.new.self.slots c.in-Some.state c.first.result c.loop-state.self.pending.threads c.pop.new.self.threads (nodes_of last.self.pending.threads) c.loop-state.self.visited.ids last.self.visited.ids
          c.loop-state.next.threads last.next.threads (end_met_by start met) c.in-Some.ensures.next c.first.ensures (c.in_ok-met.ensures.all start));
      threads = λ all. c.in_ok-met.ensures.threads (c.loop-state.invariant.threads all);
      widths = c.in_ok-met.ensures.widths ∙ c.loop-state.invariant.widths;
      slots = c.in_ok-met.ensures.slots ∙ c.pop.ensures.slot_len ∙ c.loop-state.invariant.slots ∙ sym c.in_ok-met.ensures.slot_len;
      slot_len = c.in_ok-met.ensures.slot_len ∙ c.loop-state.invariant.slot_len;
      start = c.start-start.ensures;
      counted = omega (arith, c.in_ok-met.ensures.counted, c.loop-state.invariant.counted);
      room = λ few. c.in_ok-met.ensures.room (c.loop-state.invariant.room few);
    }
