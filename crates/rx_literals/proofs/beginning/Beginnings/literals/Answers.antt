use Rattle.std.proofs.Common.{String, Global, string_bytes, map, ap}
use Rattle.rx_literals.specs.Ways.{Stem}
use Rattle.rx_literals.proofs.MapLaws.{moved_on}
use Rattle.rx_literals.proofs.beginning.Beginnings.literals.Goals as goal

pub loop-beginning-preserved : goal.loop-beginning-preserved
loop-beginning-preserved c =
    moved_on (λ (literal : String Global). string_bytes literal) (λ (stem : Stem). stem.literal) c.loop-beginning.literals.items c.push.new.self.items c.loop-beginning.list.items c.pop_front.new.self.items
    c.beginning.inside.literal c.in-Some.beginning (map (λ (stem : Stem). stem.literal) c.args.self.list.items) c.in_ok-push.ensures.items c.in-Some.ensures.items (ap (λ (stem : Stem). stem.literal) c.beginning.view_is) c.loop-beginning.invariant
