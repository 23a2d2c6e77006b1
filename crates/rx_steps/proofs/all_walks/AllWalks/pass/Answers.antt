use Rattle.std.proofs.Common.{inl, inr, sym, ap, subst, ◌∙◌}
use Rattle.rx_steps.specs.Lists.{IsPlace}
use Rattle.rx_steps.specs.Searching.{search_of, haystack_in}
use Rattle.rx_steps.specs.Idle.{Knows}
use Rattle.rx_steps.specs.ListsAll.{IsNextListAll, IsStepAll}
use Rattle.rx_steps.specs.ComingAll.{byte_machine_in}
use Rattle.rx_steps.proofs.AllComeLaws.{no_end}
use Rattle.rx_steps.proofs.AllIdleLaws.{is_idle_all}
use Rattle.rx_steps.proofs.all_walks.AllWalks.pass.Goals as goal
use Rattle.rx_steps.proofs.all_walks.AllWalks.pass.Goals.{then-not-walks+then-came_to_nothing, else-not-walks}

pub returns-clause-step : goal.returns-clause-step
returns-clause-step g c = λ utf8_empty inside.
    let p = c.args.program.now in
    let s = search_of utf8_empty c.args.input.now in
    let i = c.args.input.now.position in
    let next = c.next_list_all.new.next.items in
    let here : IsPlace p.states (haystack_in p.line_terminator s) i c.of-place.result =
    subst (λ t. IsPlace p.states (haystack_in t s) i c.of-place.result) c.line_terminator.ensures (c.of-place.ensures.place p.states utf8_empty inside c.requires.made.looks) in
    subst (λ xs. IsStepAll (byte_machine_in p s) i c.args.self.now.live.items xs c.in_ok-met.met) (sym (ap (λ v. v.items) c.swap.ensures.x_after))
    (subst (λ xs. IsStepAll (byte_machine_in p s) i xs next c.in_ok-met.met) c.deref.ensures.value (c.in_ok-met.ensures.list (haystack_in p.line_terminator s) i here))

pub returns-clause-made : goal.returns-clause-made
returns-clause-made g c =
    let p = c.args.program.now in
    let made = c.requires.made in
    let live = c.args.self.now.live.items in
    let next = c.next_list_all.new.next.items in
    elim c.if-not-walks.branch [
      | then-not-walks+then-came_to_nothing w ↦
          let fresh = w.came_to_nothing.ensures.fresh w.if-came_to_nothing.true in
          let nothing = w.came_to_nothing.ensures.nothing w.if-came_to_nothing.true in
          let list : IsNextListAll p c.of-place.result live next c.in_ok-met.met =
          subst (λ xs. IsNextListAll p c.of-place.result xs next c.in_ok-met.met) c.deref.ensures.value c.in_ok-met.ensures.list in
          record {
            widths_are = ap (λ x. x.stepper.widths) w.walks-is ∙ c.in_ok-met.ensures.made ∙ made.widths_are;
            looks = λ unasked. made.looks (sym (ap (λ x. x.asks_looks) w.walks-is) ∙ unasked);
            are_idle = λ b known. elim (w.insert.ensures b (subst (λ xs. Knows xs b) (ap (λ x. x.idle) w.walks-is) known)) [
              | inl byte ↦ is_idle_all p c.of-place.result b fresh.0 live next c.in_ok-met.met list fresh.1 nothing.0 (no_end c.in_ok-met.met (sym w.is_some.ensures ∙ nothing.1)) byte (made.looks w.if-not-walks.true)
              | inr old ↦ made.are_idle b old
            ];
          }
      | else-not-walks w ↦ record {
        widths_are = ap (λ x. x.stepper.widths) w.walks-is ∙ c.in_ok-met.ensures.made ∙ made.widths_are;
        looks = λ unasked. made.looks (sym (ap (λ x. x.asks_looks) w.walks-is) ∙ unasked);
        are_idle = λ b known. made.are_idle b (subst (λ xs. Knows xs b) (ap (λ x. x.idle) w.walks-is) known);
      }
    ]
