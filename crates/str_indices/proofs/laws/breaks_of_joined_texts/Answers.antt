use Rattle.str_indices.proofs.TextLaws.{breaks_of_joined_texts-any, breaks_of_joined_texts-lines, breaks_of_joined_texts-lines_crlf, breaks_of_joined_texts-lines_lf}
use Rattle.str_indices.proofs.laws.breaks_of_joined_texts.Goals as goal

pub returns-clause-any : goal.returns-clause-any
returns-clause-any c = breaks_of_joined_texts-any

pub returns-clause-lines : goal.returns-clause-lines
returns-clause-lines c = breaks_of_joined_texts-lines

pub returns-clause-lines_crlf : goal.returns-clause-lines_crlf
returns-clause-lines_crlf c = breaks_of_joined_texts-lines_crlf

pub returns-clause-lines_lf : goal.returns-clause-lines_lf
returns-clause-lines_lf c = breaks_of_joined_texts-lines_lf
