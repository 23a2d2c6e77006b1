use Rattle.std.proofs.Common.{◌≤◌, ℕ, List, length}
use Rattle.std.specs.Borrow.{Bor}
use Rattle.rx_literals.proofs.SliceLaws.{all_of}
use Rattle.rx_literals.proofs.prefilter.longest_of.Goals as goal

pub returns-clause-longest : goal.returns-clause-longest
returns-clause-longest c =
    all_of (λ (needle : Bor (List ℕ)). needle.now) c.args.needles.now (λ needle. length needle ≤ c.loop-needle.longest) c.loop-needle.needle-index c.loop-needle-test.false c.loop-needle.invariant.below
