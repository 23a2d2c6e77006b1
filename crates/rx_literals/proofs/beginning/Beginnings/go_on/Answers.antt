use Rattle.rx_program.specs.Programs.{character_program}
use Rattle.rx_literals.proofs.WayLaws.{on_ok, leads_there}
use Rattle.rx_literals.proofs.beginning.Beginnings.go_on.Goals as goal

pub returns-in-None : goal.returns-in-None
returns-in-None c =
    on_ok c.leave.result (leads_there (character_program c.args.program.now) c.args.beginning c.args.self.now.list.items c.leave.new.self.list.items) c.leave.ensures
