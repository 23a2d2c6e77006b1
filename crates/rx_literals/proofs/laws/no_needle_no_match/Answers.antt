use Rattle.rx_literals.proofs.SkipLaws.{no_needle_no_match}
use Rattle.rx_literals.proofs.laws.no_needle_no_match.Goals as goal

pub returns : goal.returns
returns c = no_needle_no_match
