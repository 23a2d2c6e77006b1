use Rattle.std.proofs.Common.{arith}
use Rattle.memchr.specs.Find.{Passes}
use Rattle.rx_literals.specs.FirstBytes.{is_among}
use Rattle.rx_literals.proofs.CandidateLaws.{found_first, found_nowhere, none_up_to}
use Rattle.rx_literals.proofs.FirstLaws.{none_without}
use Rattle.rx_literals.proofs.prefilter.Parts.try_first.Goals as goal

pub returns-in-Some-find_at : goal.returns-in-Some-find_at
returns-in-Some-find_at c = found_first (Passes (is_among c.args.first.now) c.args.hay.now) c.args.hay.now c.args.self.now (λ i absent. none_without c.args.first.now c.args.hay.now i absent c.args.self.now c.requires) c.loop-at.from c.loop-at.invariant.none c.in-Some.at c.in-Some-find_at.found c.in-Some.ensures.0 c.in-Some-find_at.ensures

pub loop-at-preserved : goal.loop-at-preserved
loop-at-preserved c = record {
  inside = omega (arith, c.in-Some.ensures.0.high);
  none = none_up_to (Passes (is_among c.args.first.now) c.args.hay.now) c.args.hay.now c.args.self.now (λ i absent. none_without c.args.first.now c.args.hay.now i absent c.args.self.now c.requires) c.loop-at.from c.loop-at.invariant.none c.in-Some.at c.in-Some.ensures.0.before c.in_default-find_at.ensures;
}

pub returns : goal.returns
returns c = found_nowhere (Passes (is_among c.args.first.now) c.args.hay.now) c.args.hay.now c.args.self.now (λ i absent. none_without c.args.first.now c.args.hay.now i absent c.args.self.now c.requires) c.loop-at.from c.loop-at.invariant.none c.in_default.ensures
