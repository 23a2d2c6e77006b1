use Rattle.std.proofs.Common.{inl, inr, sym, ◌∙◌, append-nil, arith}
use Rattle.rope_search_reports.proofs.patches.take_touching.Goals as goal

pub returns-in-Some : goal.returns-in-Some
returns-in-Some c = inl (record { last = c.in-Some.ensures.items; ends = omega (arith, c.if-pop-row.true) })

pub returns-in-Some-2 : goal.returns-in-Some-2
returns-in-Some-2 c = inr (c.push_reserved.ensures.items ∙ sym c.in-Some.ensures.items, c.empty_at.ensures)

pub returns-in-None : goal.returns-in-None
returns-in-None c = inr (sym (c.in-None.ensures.items ∙ append-nil c.pop.new.self.items), c.empty_at-in-None.ensures)
