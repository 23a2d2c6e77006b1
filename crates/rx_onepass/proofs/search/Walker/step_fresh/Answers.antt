use Rattle.std.proofs.Common.{rules, ◌≡◌, [], ◌∷◌, not, sym, ap, subst, ◌∙◌}
use Rattle.rx_steps.specs.Threads.{no_slots}
use Rattle.rx_onepass.specs.Edges.{StepsFresh}
use Rattle.rx_onepass.proofs.WayLaws.{led_on}
use Rattle.rx_onepass.proofs.search.Walker.step_fresh.Goals as goal

pub returns-clause-led : goal.returns-clause-led
returns-clause-led c =
    let p = c.args.program.now in
    let place = c.args.place.now in
    let len = c.args.self.now.slot_len in
    let way = c.in_ok-way.way in
    let here : c.push_fresh.new.self.threads ≡ (no_slots len, c.args.node) ∷ [] = search rules in
    let marks : c.load-2.new.marks.items ≡ c.slots-2.result.now = search rules in
    let led = led_on p place c.args.node len c.push_fresh.new.self.threads c.step_here.new.self.next.threads c.in_ok-met.met way.pattern c.step_here.new.self.stepper.slots here c.in_ok-met.ensures.list
    way.node c.slots-2.result.now (ap (λ b. not b) c.is_none.ensures ∙ ap (λ b. not (not b)) c.if-is_none.false) c.in_ok-way.ensures c.slots-2.ensures.slots in
    subst (λ xs. StepsFresh p place c.args.node len xs way) (sym marks) led
