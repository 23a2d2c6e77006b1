use Rattle.std.proofs.Common.{◌≡◌, length, sym, ap, subst, ◌∙◌}
use Rattle.rx_steps.specs.Lists.{IsPlace}
use Rattle.rx_steps.specs.Searching.{search_of, haystack_in}
use Rattle.rx_onepass.specs.Edges.{note_if}
use Rattle.rx_onepass.proofs.WayLaws.{edge_leads}
use Rattle.rx_onepass.proofs.search.Walker.step.Goals as goal

pub returns-clause-leads : goal.returns-clause-leads
returns-clause-leads g c = λ utf8_empty inside.
    let p = c.args.program.now in
    let s = search_of utf8_empty c.args.input.now in
    let i = c.args.input.now.position in
    let slots = c.args.slots.now in
    let edge = c.in_ok-edge.edge.now in
    let len = c.learn.new.self.slot_len in
    let place = c.of-place.result in
    let here : IsPlace p.states (haystack_in p.line_terminator s) i place =
    subst (λ t. IsPlace p.states (haystack_in t s) i place) c.line_terminator.ensures (c.of-place.ensures.place p.states utf8_empty inside (λ unasked. c.requires.looks)) in
    edge_leads p s len i slots c.note.new.slots edge c.args.node place (c.in_ok-edge.ensures.is p len c.learn.ensures.made.are_edges) c.in_ok-edge.ensures.from c.in_ok-edge.ensures.byte here
    (c.requires.slots ∙ sym c.learn.ensures.slot_len) (c.note.ensures ∙ ap (λ j. note_if edge.noted j slots) (c.get.ensures.value ∙ here.at))

pub returns-clause-stands : goal.returns-clause-stands
returns-clause-stands g c = (c.in_ok-edge.ensures.is c.args.program.now c.learn.new.self.slot_len c.learn.ensures.made.are_edges).stands
