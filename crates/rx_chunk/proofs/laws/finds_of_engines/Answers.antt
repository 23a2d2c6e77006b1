use Rattle.rx_chunk.proofs.OrderLaws.{finds_of}
use Rattle.rx_chunk.proofs.laws.finds_of_engines.Goals as goal

pub returns : goal.returns
returns c = finds_of
