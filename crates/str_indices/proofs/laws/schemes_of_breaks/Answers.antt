use Rattle.str_indices.proofs.TextLaws.{schemes_of_breaks-lf, schemes_of_breaks-crlf}
use Rattle.str_indices.proofs.laws.schemes_of_breaks.Goals as goal

pub returns-clause-lf : goal.returns-clause-lf
returns-clause-lf c = schemes_of_breaks-lf

pub returns-clause-crlf : goal.returns-clause-crlf
returns-clause-crlf c = schemes_of_breaks-crlf
