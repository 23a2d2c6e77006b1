use Rattle.std.proofs.Common.{sym, subst}
use Rattle.rx_program.specs.Programs.{character_program}
use Rattle.rx_literals.specs.Ways.{StemsLeadTo}
use Rattle.rx_literals.proofs.WayLaws.{on_ok, leads_same}
use Rattle.rx_literals.proofs.beginning.Beginnings.step.Goals as goal

pub returns-in-Some : goal.returns-in-Some
returns-in-Some c =
    on_ok c.go_on.result (subst (λ stems. StemsLeadTo (character_program c.args.program.now) stems c.go_on.new.self.list.items) (sym c.in-Some.ensures.items)) c.go_on.ensures

pub returns-in-None : goal.returns-in-None
returns-in-None c = leads_same (character_program c.args.program.now) c.args.self.now.list.items c.pop_front.new.self.items c.in-None.ensures.items
