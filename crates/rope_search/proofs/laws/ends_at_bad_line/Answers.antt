-- The answers with more bytes after a bad line are those without them, and the other way round.
use Rattle.rope_search.proofs.RunLaws.{Answers-more}
use Rattle.rope_search.proofs.AnswerLaws.{Answers-less}
use Rattle.rope_search.proofs.laws.ends_at_bad_line.Goals as goal

pub returns : goal.returns
returns c = λ limit input orders reads more output cost. (Answers-more limit input more output cost, Answers-less limit orders input more output cost reads)
