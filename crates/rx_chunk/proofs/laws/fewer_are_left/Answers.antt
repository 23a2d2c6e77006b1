use Rattle.rx_chunk.proofs.IterLaws as laws
use Rattle.rx_chunk.proofs.laws.fewer_are_left.Goals as goal

pub returns : goal.returns
returns c = laws.fewer_are_left
