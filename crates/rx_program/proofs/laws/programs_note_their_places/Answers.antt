use Rattle.rx_program.proofs.SeveralLaws.{programs_note_their_places}
use Rattle.rx_program.proofs.laws.programs_note_their_places.Goals as goal

pub returns : goal.returns
returns c = programs_note_their_places
