use Rattle.std.proofs.Common.{◌≡◌, List, Option, ℕ, length, vec_len, sym, subst, ◌∙◌, arith}
use Rattle.std.proofs.lemmas.Grind.{common_steps}
use Rattle.rx_onepass.specs.Edges.{AreNotedBy}
use Rattle.rx_onepass.proofs.CarryLaws.{edge_is}
use Rattle.rx_onepass.proofs.search.Walker.edge_of.Goals as goal

pub returns-clause-edge : goal.returns-clause-edge
returns-clause-edge c =
    let marks = c.step_fresh.new.self.marks in
    let long : vec_len marks ≡ length marks.items = grind (arith, common_steps) in
    let same : length marks.items ≡ c.args.self.now.slot_len = omega (arith, long, c.len.ensures, c.if-len-self.false, c.in_ok-way.ensures.slot_len) in
    edge_is c.args.program.now c.args.place.now c.requires.looks c.args.self.now.slot_len c.args.node c.in_ok-way.way marks.items c.in_ok-noted.noted c.in_ok-way.ensures.led same
    (subst (λ xs. AreNotedBy xs c.in_ok-noted.noted) c.deref_mut.ensures.value c.in_ok-noted.ensures) c.in_ok-way.ensures.stands
