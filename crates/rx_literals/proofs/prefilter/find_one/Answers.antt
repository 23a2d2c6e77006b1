use Rattle.std.proofs.Common.{◌+◌, ap, length}
use Rattle.rx_literals.proofs.FoundLaws.{one_nowhere, one_somewhere}
use Rattle.rx_literals.proofs.prefilter.find_one.Goals as goal

pub returns-in-Some : goal.returns-in-Some
returns-in-Some c = one_somewhere c.args.hay.now c.args.finder.now c.in-Some.start _ c.requires (ap (λ xs. c.in-Some.start + length xs) c.needle.ensures) c.in-Some.ensures

pub returns-in-None : goal.returns-in-None
returns-in-None c = one_nowhere c.args.hay.now c.args.finder.now c.in-None.ensures
