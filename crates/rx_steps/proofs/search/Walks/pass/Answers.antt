use Rattle.std.proofs.Common.{◌≡◌, [], inl, inr, sym, ap, subst, ◌∙◌}
use Rattle.rx_walks.specs.Steps.{Steps}
use Rattle.rx_steps.specs.Lists.{IsPlace, met_at}
use Rattle.rx_steps.specs.Searching.{search_of, haystack_in}
use Rattle.rx_steps.specs.Coming.{machine_in}
use Rattle.rx_steps.specs.Idle.{Knows}
use Rattle.rx_steps.proofs.IdleLaws.{is_idle, no_value}
use Rattle.rx_steps.proofs.search.Walks.pass.Goals as goal
use Rattle.rx_steps.proofs.search.Walks.pass.Goals.{then-not-self+then-came_to_nothing, else-not-self}

pub returns-clause-steps : goal.returns-clause-steps
returns-clause-steps g c = λ utf8_empty inside.
    let p = c.args.program.now in
    let s = search_of utf8_empty c.args.input.now in
    let i = c.args.input.now.position in
    let here : IsPlace p.states (haystack_in p.line_terminator s) i c.of-place.result =
    subst (λ t. IsPlace p.states (haystack_in t s) i c.of-place.result) c.line_terminator.ensures (c.of-place.ensures.place p.states utf8_empty inside c.requires.made.looks) in
    let kept : c.if-not-self.self.next.threads ≡ c.next_list.new.next.threads = elim c.if-not-self.branch [
      | then-not-self+then-came_to_nothing w ↦ ap (λ x. x.next.threads) w.self-is
      | else-not-self w ↦ ap (λ x. x.next.threads) w.self-is
    ] in
    let noted : c.if-not-self.self.stepper.slots ≡ c.next_list.new.self.slots = elim c.if-not-self.branch [
      | then-not-self+then-came_to_nothing w ↦ ap (λ x. x.stepper.slots) w.self-is
      | else-not-self w ↦ ap (λ x. x.stepper.slots) w.self-is
    ] in
    subst (λ xs. Steps (machine_in p s) i [] c.args.self.now.live.threads c.swap.new.x.threads (met_at i c.in_ok-ended.ended xs)) (sym noted)
    (subst (λ xs. Steps (machine_in p s) i [] c.args.self.now.live.threads xs (met_at i c.in_ok-ended.ended c.next_list.new.self.slots)) (sym (ap (λ t. t.threads) c.swap.ensures.x_after ∙ kept))
    (c.in_ok-ended.ensures.list (haystack_in p.line_terminator s) i here))

pub returns-clause-made : goal.returns-clause-made
returns-clause-made g c =
    let p = c.args.program.now in
    let made = c.requires.made in
    elim c.if-not-self.branch [
      | then-not-self+then-came_to_nothing w ↦
          let fresh = w.came_to_nothing.ensures.fresh w.if-came_to_nothing.true in
          let nothing = w.came_to_nothing.ensures.nothing w.if-came_to_nothing.true in
          record {
            widths_are = ap (λ x. x.stepper.widths) w.self-is ∙ c.in_ok-ended.ensures.made ∙ made.widths_are;
            looks = λ unasked. made.looks (sym (ap (λ x. x.asks_looks) w.self-is) ∙ unasked);
            are_idle = λ b known. elim (w.insert.ensures b (subst (λ xs. Knows xs b) (ap (λ x. x.idle) w.self-is) known)) [
              | inl byte ↦ is_idle p c.of-place.result b c.args.self.now.live.threads c.next_list.new.next.threads c.in_ok-ended.ended c.next_list.new.self.slots fresh.0
                  c.in_ok-ended.ensures.list fresh.1 nothing.0 (no_value c.in_ok-ended.ended (sym w.is_some.ensures ∙ nothing.1)) byte (made.looks w.if-not-self.true)
              | inr old ↦ made.are_idle b old
            ];
          }
      | else-not-self w ↦ record {
        widths_are = ap (λ x. x.stepper.widths) w.self-is ∙ c.in_ok-ended.ensures.made ∙ made.widths_are;
        looks = λ unasked. made.looks (sym (ap (λ x. x.asks_looks) w.self-is) ∙ unasked);
        are_idle = λ b known. made.are_idle b (subst (λ xs. Knows xs b) (ap (λ x. x.idle) w.self-is) known);
      }
    ]
