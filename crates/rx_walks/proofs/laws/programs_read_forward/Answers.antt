use Rattle.rx_walks.proofs.ForwardLaws.{characters_forward, bytes_forward}
use Rattle.rx_walks.proofs.laws.programs_read_forward.Goals as goal

pub returns : goal.returns
returns c = λ w put member step nodes h. record { characters = characters_forward put member nodes h; bytes = bytes_forward put step nodes h }
