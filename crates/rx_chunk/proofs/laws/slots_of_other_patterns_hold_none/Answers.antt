use Rattle.rx_chunk.proofs.OtherLaws.{others_hold_none}
use Rattle.rx_chunk.proofs.laws.slots_of_other_patterns_hold_none.Goals as goal

pub returns : goal.returns
returns c = others_hold_none
