use Rattle.rx_escape.proofs.MatchLaws.{matches_its_text}
use Rattle.rx_escape.proofs.laws.escaped_matches_its_text.Goals as goal

pub returns : goal.returns
returns c = λ text. matches_its_text text
