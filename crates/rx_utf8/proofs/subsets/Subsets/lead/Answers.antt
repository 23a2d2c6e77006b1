use Rattle.std.proofs.Common.{sym, ◌∙◌, arith}
use Rattle.rx_utf8.proofs.ListLaws.{any_has, length_lists}
use Rattle.rx_utf8.proofs.subsets.Subsets.lead.Goals as goal

pub returns-then-contains-clause-lead : goal.returns-then-contains-clause-lead
returns-then-contains-clause-lead c = sym (any_has c.args.set.now 0) ∙ sym c.if-contains.ensures.value

pub returns-clause-lead : goal.returns-clause-lead
returns-clause-lead c =
    let known = c.in_ok-number.ensures.known in
    (sym (any_has c.args.set.now 0) ∙ sym c.if-contains.ensures.value, c.in_ok-number.ensures.from, omega (arith, known, length_lists c.number.new.self.sets.items), c.in_ok-number.ensures.set)
