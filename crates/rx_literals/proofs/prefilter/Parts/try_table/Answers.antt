use Rattle.std.proofs.Common.{arith}
use Rattle.rx_literals.specs.NeedleTables.{MayOccurAt}
use Rattle.rx_literals.proofs.CandidateLaws.{found_first, found_nowhere, none_up_to}
use Rattle.rx_literals.proofs.TableLaws.{none_without}
use Rattle.rx_literals.proofs.prefilter.Parts.try_table.Goals as goal

pub returns-in-Some-find_at : goal.returns-in-Some-find_at
returns-in-Some-find_at c = found_first (MayOccurAt c.args.table.now c.args.hay.now) c.args.hay.now c.args.self.now (λ i absent. none_without c.args.table.now c.args.hay.now i absent c.args.self.now c.requires) c.loop-at.next c.loop-at.invariant.none c.in-Some.at c.in-Some-find_at.found c.in-Some.ensures.0 c.in-Some-find_at.ensures

pub loop-at-preserved : goal.loop-at-preserved
loop-at-preserved c = record {
  inside = omega (arith, c.in-Some.ensures.0.high);
  none = none_up_to (MayOccurAt c.args.table.now c.args.hay.now) c.args.hay.now c.args.self.now (λ i absent. none_without c.args.table.now c.args.hay.now i absent c.args.self.now c.requires) c.loop-at.next c.loop-at.invariant.none c.in-Some.at c.in-Some.ensures.0.before c.in-None.ensures;
}

pub returns : goal.returns
returns c = found_nowhere (MayOccurAt c.args.table.now c.args.hay.now) c.args.hay.now c.args.self.now (λ i absent. none_without c.args.table.now c.args.hay.now i absent c.args.self.now c.requires) c.loop-at.next c.loop-at.invariant.none c.in_default.ensures
