use Rattle.rx_escape.proofs.EscapedLaws.{spells_its_text}
use Rattle.rx_escape.proofs.laws.escaped_spells_its_text.Goals as goal

pub returns : goal.returns
returns c = λ text settings. spells_its_text text settings
