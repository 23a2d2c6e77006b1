use Rattle.rx_chunk.proofs.GroupSlotLaws.{groups_have_their_slots}
use Rattle.rx_chunk.proofs.laws.groups_have_their_slots.Goals as goal

pub returns : goal.returns
returns c = groups_have_their_slots
