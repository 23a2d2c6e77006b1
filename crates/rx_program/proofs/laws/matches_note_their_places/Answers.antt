use Rattle.rx_program.proofs.NoteLaws.{matches_note_their_places}
use Rattle.rx_program.proofs.laws.matches_note_their_places.Goals as goal

pub returns : goal.returns
returns c = matches_note_their_places
