use Rattle.std.proofs.Common.{[], ◌∷◌}
use Rattle.rx_program.specs.Programs.{character_program}
use Rattle.rx_literals.proofs.WayLaws.{leads_on}
use Rattle.rx_literals.proofs.beginning.Beginnings.of.Goals as goal

pub loop-preserved : goal.loop-preserved
loop-preserved c =
    leads_on (character_program c.args.program.now) (record { literal = []; node = c.args.program.now.start } ∷ []) c.loop.beginnings.list.items c.step.new.self.list.items c.loop.invariant c.in_ok-step.ensures
